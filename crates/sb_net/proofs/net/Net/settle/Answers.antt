-- The nodes of the net have run, and are taken apart.
use Rattle.std.proofs.Common.{◌≡◌, sym, ap, ◌∙◌, subst, arith}
use Rattle.sb_flow.specs.Rings.{IsCarried}
use Rattle.sb_member.specs.Groups.{dealt_nodes, grouped_nodes}
use Rattle.sb_net.specs.Nets.{RanToTheEnd}
use Rattle.sb_net.specs.Running.{HasRun}
use Rattle.sb_net.specs.Standing.{StandsFor}
use Rattle.sb_net.proofs.ResultsTold.{results_fit}
use Rattle.sb_net.proofs.Told.{of_both, run_told}
use Rattle.sb_net.proofs.net.Net.settle.Goals as goal

pub settle_nodes-requires-clause-stands : goal.settle_nodes-requires-clause-stands
settle_nodes-requires-clause-stands g c κs within =
    let inside = c.self.inside in
    let network = c.requires.ran.0 in
    let ran = subst (λ net. RanToTheEnd network net c.requires.ran.1) (sym c.self.view_is) c.requires.ran.2 in (
      network,
      of_both (λ joints groups. StandsFor network joints (dealt_nodes (grouped_nodes groups))) inside.joints.items c.deref.result.now inside.groups.items c.deref_mut.result.now c.deref.ensures.value c.deref_mut.ensures.value ran.stands,
      c.requires.ran.3,
      c.requires.ran.4,
    )

pub returns-clause-carried : goal.returns-clause-carried
returns-clause-carried g c = λ network journal ran ring lt.
    let inside = c.self.inside in
    let run : HasRun network journal c.deref.result.now (dealt_nodes (grouped_nodes c.deref_mut.result.now)) =
    of_both (λ joints groups. HasRun network journal joints (dealt_nodes (grouped_nodes groups))) inside.joints.items c.deref.result.now inside.groups.items c.deref_mut.result.now c.deref.ensures.value c.deref_mut.ensures.value
    (subst (λ net. RanToTheEnd network net journal) (sym c.self.view_is) ran) in
    let rings = run.stands.rings in
    subst (IsCarried network journal ring) (sym (c.settle_nodes.ensures.carried network run.stands ring lt)) (run.over.carried ring (omega (arith, lt, rings)))

pub returns-clause-tells : goal.returns-clause-tells
returns-clause-tells g c = λ network journal ran.
    let inside = c.self.inside in
    let run : HasRun network journal c.deref.result.now (dealt_nodes (grouped_nodes c.deref_mut.result.now)) =
    of_both (λ joints groups. HasRun network journal joints (dealt_nodes (grouped_nodes groups))) inside.joints.items c.deref.result.now inside.groups.items c.deref_mut.result.now c.deref.ensures.value c.deref_mut.ensures.value
    (subst (λ net. RanToTheEnd network net journal) (sym c.self.view_is) ran) in
    run_told network journal c.deref.result.now (dealt_nodes (grouped_nodes c.deref_mut.result.now)) c.settle_nodes.result run c.settle_nodes.ensures.hosts c.settle_nodes.ensures.memories

pub returns-clause-fits : goal.returns-clause-fits
returns-clause-fits g c = λ network journal ran good.
    let inside = c.self.inside in
    results_fit network journal inside.joints.items (dealt_nodes (grouped_nodes inside.groups.items)) good (subst (λ net. RanToTheEnd network net journal) (sym c.self.view_is) ran)
