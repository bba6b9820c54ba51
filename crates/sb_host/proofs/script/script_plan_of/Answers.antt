-- The plan of a script is that of a host of the bundle, so it can be issued.
use Rattle.std.proofs.Common.{◌≡◌, ◌∙◌, ap, List}
use Rattle.std.specs.Prelude.{map}
use Rattle.std.proofs.Math.ListN.{get_or}
use Rattle.sb_packet.specs.declared.transaction.Txn.{Txn}
use Rattle.sb_flow.specs.NetworkOf.{network_of}
use Rattle.sb_host.specs.Asked.{line_in}
use Rattle.sb_host.proofs.Beginning.{bundle_issuable}
use Rattle.sb_host.proofs.script.script_plan_of.Goals as goal

pub invariant_of-result : goal.invariant_of-result
invariant_of-result c =
    let b = c.args.bundle.now in
    let plan = c.index-plan.result.now in
    let at : plan ≡ get_or b.hosts.items c.args.number plan = rw c.from.ensures at c.index-plan.ensures in
    let is = bundle_issuable b c.args.number plan c.in_ok-lines.lines.items c.requires.number at
    (c.in_ok-lines.ensures.lines ∙ ap (λ (script : List Txn). map (line_in (network_of b)) script) c.as_slice.ensures) in
    record { id_fits = is.id; qos_fits = is.qos; prot_fits = is.prot; few = is.few; issuable = is.lines }
