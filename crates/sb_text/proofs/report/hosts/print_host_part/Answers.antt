-- The host is printed, or left out.
use Rattle.std.proofs.Common.{◌≡◌, ◌∙◌, [], Bool, ap, sym, get_or}
use Rattle.std.specs.Prelude.{if◌then◌else◌}
use Rattle.sb_flow.specs.Rows.{host_of}
use Rattle.sb_flow.specs.declared.host_plan.HostPlan.{HostPlan}
use Rattle.sb_flow.proofs.Maps.{read_there}
use Rattle.sb_text.specs.Reports.{host_lines}
use Rattle.sb_text.proofs.PrintLemmas.{printed_as}
use Rattle.sb_text.proofs.ToldLemmas.{few_lines, read_at, script_told}
use Rattle.sb_text.proofs.report.hosts.print_host_part.Goals as goal

pub print_host-requires-clause-few : goal.print_host-requires-clause-few
print_host-requires-clause-few g c =
    let plan = c.index.result.now in
    let items = c.args.bundle.now.hosts.items in
    few_lines c.args.bundle.now c.args.host plan c.requires.there (read_at items c.from.result c.args.host plan c.index.ensures c.from.ensures)

pub print_host-requires-clause-told : goal.print_host-requires-clause-told
print_host-requires-clause-told g c =
    let plan = c.index.result.now in
    let items = c.args.bundle.now.hosts.items in
    let told = c.requires.told.0 in
    let tells = c.requires.told.1 in
    (told, tells.tells, script_told c.args.bundle.now told c.args.host plan tells.fits c.requires.there (read_at items c.from.result c.args.host plan c.index.ensures c.from.ensures))

pub returns-then-shows_host : goal.returns-then-shows_host
returns-then-shows_host g c = record {
  printed = λ told none tells.
      let plan = c.index.result.now in
      let items = c.args.bundle.now.hosts.items in
      let at = read_at items c.from.result c.args.host plan c.index.ensures c.from.ensures in
      let outcomes = get_or told.outcomes c.args.host [] in
      let row : host_lines (host_of plan) outcomes ≡ host_lines (host_of (get_or items c.args.host none)) outcomes = ap (λ (p : HostPlan). host_lines (host_of p) outcomes) (sym (read_there items c.args.host plan none c.requires.there at)) in
      let shown = ap (λ (b : Bool). if b then host_lines (host_of (get_or items c.args.host none)) outcomes else []) (sym c.if-shows_host.true ∙ c.shows_host.ensures) in
      printed_as g.K.Sink c.print_host.result _ _ _ _ _ _ (row ∙ shown)
      (c.print_host.ensures.printed told tells.tells (script_told c.args.bundle.now told c.args.host plan tells.fits c.requires.there at));
}
