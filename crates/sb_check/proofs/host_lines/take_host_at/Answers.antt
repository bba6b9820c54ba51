-- The host that was read is the one at that place.
use Rattle.std.proofs.Common.{◌≡◌, [], ap, sym, get_or}
use Rattle.sb_flow.specs.Rows.{host_of}
use Rattle.sb_flow.specs.declared.host_plan.HostPlan.{HostPlan}
use Rattle.sb_flow.proofs.Maps.{read_there}
use Rattle.sb_text.specs.Reports.{host_lines}
use Rattle.sb_text.proofs.ToldLemmas.{few_lines, read_at, script_told}
use Rattle.sb_check.proofs.CompareLemmas.{compared_as}
use Rattle.sb_check.proofs.host_lines.take_host_at.Goals as goal

pub take_host-requires-clause-few : goal.take_host-requires-clause-few
take_host-requires-clause-few g c =
    let plan = c.index.result.now in
    let items = c.args.bundle.now.hosts.items in
    few_lines c.args.bundle.now c.args.host plan c.requires.there (read_at items c.from.result c.args.host plan c.index.ensures c.from.ensures)

pub take_host-requires-clause-told : goal.take_host-requires-clause-told
take_host-requires-clause-told g c =
    let plan = c.index.result.now in
    let items = c.args.bundle.now.hosts.items in
    let told = c.requires.told.0 in
    let tells = c.requires.told.1 in
    (told, tells.tells, script_told c.args.bundle.now told c.args.host plan tells.fits c.requires.there (read_at items c.from.result c.args.host plan c.index.ensures c.from.ensures))

pub returns : goal.returns
returns g c = record {
  compared = λ told none tells.
      let plan = c.index.result.now in
      let items = c.args.bundle.now.hosts.items in
      let at = read_at items c.from.result c.args.host plan c.index.ensures c.from.ensures in
      let outcomes = get_or told.outcomes c.args.host [] in
      let row : host_lines (host_of plan) outcomes ≡ host_lines (host_of (get_or items c.args.host none)) outcomes = ap (λ (p : HostPlan). host_lines (host_of p) outcomes) (sym (read_there items c.args.host plan none c.requires.there at)) in
      compared_as c.take_host.result _ _ _ _ row
      (c.take_host.ensures.compared told tells.tells (script_told c.args.bundle.now told c.args.host plan tells.fits c.requires.there at));
}
