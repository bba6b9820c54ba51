-- One ring more is given back.
use Rattle.std.proofs.Common.{◌≡◌, ◌≤◌, ◌<◌, ◌+◌, ℕ, false, length, sym, ap, ◌∙◌, subst, arith}
use Rattle.std.specs.Prelude.{Contains, None, Some, slice_index_or}
use Rattle.std.proofs.lemmas.List.{get_or-set_other, length-set}
use Rattle.sb_member.proofs.RingsJoined.{same_or_not}
use Rattle.sb_node.specs.Sides.{received_words, ring_side}
use Rattle.sb_net.proofs.TakenPlaces.{not_both, one_held, taken_is}
use Rattle.sb_net.proofs.settling.rings.give_back.Goals as goal

pub returns-in_default-clause-carried : goal.returns-in_default-clause-carried
returns-in_default-clause-carried g c =
    let r = c.loop-ring.ring in
    let i = c.loop-ring.invariant in
    let lt : r < length c.args.ports.items = omega (arith, c.loop-ring-test.true, c.len-ring-end.ensures, c.args.ports.ok.0) in
    let at = c.requires.ends r lt in
    let got = taken_is c.loop-ring.ports.items c.args.ports.items r c.take.result c.index_mut.result.now i.ports_count lt c.take.ensures.value c.index_mut.ensures.value (i.ports_left r (omega arith)) in
    absurd (not_both (slice_index_or c.args.ports.items r None) at.port (got ∙ c.in_default.is) at.port_there)

pub returns-in_default-take-clause-carried : goal.returns-in_default-take-clause-carried
returns-in_default-take-clause-carried g c =
    let r = c.loop-ring.ring in
    let i = c.loop-ring.invariant in
    let count = c.requires.count in
    let lt : r < length c.args.ports.items = omega (arith, c.loop-ring-test.true, c.len-ring-end.ensures, c.args.ports.ok.0) in
    let at = c.requires.ends r lt in
    let got = taken_is c.loop-ring.ends.items c.args.ends.items r c.take-in-loop-ring.result c.index_mut-in-loop-ring.result.now i.ends_count (omega (arith, lt, count)) c.take-in-loop-ring.ensures.value
    c.index_mut-in-loop-ring.ensures.value (i.ends_left r (omega arith)) in
    absurd (not_both (slice_index_or c.args.ends.items r None) at.end (got ∙ c.in_default-take.is) at.end_there)

pub settle-requires-clause-marks : goal.settle-requires-clause-marks
settle-requires-clause-marks g c =
    let r = c.loop-ring.ring in
    let i = c.loop-ring.invariant in
    let count = c.requires.count in
    let lt : r < length c.args.ports.items = omega (arith, c.loop-ring-test.true, c.len-ring-end.ensures, c.args.ports.ok.0) in
    let at = c.requires.ends r lt in
    let port = taken_is c.loop-ring.ports.items c.args.ports.items r c.take.result c.index_mut.result.now i.ports_count lt c.take.ensures.value c.index_mut.ensures.value (i.ports_left r (omega arith)) in
    let end = taken_is c.loop-ring.ends.items c.args.ends.items r c.take-in-loop-ring.result c.index_mut-in-loop-ring.result.now i.ends_count (omega (arith, lt, count)) c.take-in-loop-ring.ensures.value
    c.index_mut-in-loop-ring.ensures.value (i.ends_left r (omega arith)) in
    c.into_end.ensures.mark ∙ ap (λ p. p.mark) (one_held (slice_index_or c.args.ports.items r None) c.in-Some.port at.port (port ∙ c.in-Some.is) at.port_there) ∙ at.marks
    ∙ ap g.F.Rx.RxEnd.mark (one_held (slice_index_or c.args.ends.items r None) at.end c.in-Some-take.end at.end_there (end ∙ c.in-Some-take.is))

pub settle-requires-clause-made : goal.settle-requires-clause-made
settle-requires-clause-made g c =
    let r = c.loop-ring.ring in
    let i = c.loop-ring.invariant in
    let lt : r < length c.args.ports.items = omega (arith, c.loop-ring-test.true, c.len-ring-end.ensures, c.args.ports.ok.0) in
    let port = taken_is c.loop-ring.ports.items c.args.ports.items r c.take.result c.index_mut.result.now i.ports_count lt c.take.ensures.value c.index_mut.ensures.value (i.ports_left r (omega arith)) in
    subst (λ plan. Contains (g.F.Fabric.made c.loop-ring.fabric) plan) (sym c.into_end.ensures.plan)
    (subst (λ made. Contains made c.in-Some.port.plan) (sym i.made) (c.requires.made r c.in-Some.port lt (port ∙ c.in-Some.is)))

pub settle-requires-clause-unsettled : goal.settle-requires-clause-unsettled
settle-requires-clause-unsettled g c =
    let r = c.loop-ring.ring in
    let i = c.loop-ring.invariant in
    let lt : r < length c.args.ports.items = omega (arith, c.loop-ring-test.true, c.len-ring-end.ensures, c.args.ports.ok.0) in
    let at = c.requires.ends r lt in
    let port = taken_is c.loop-ring.ports.items c.args.ports.items r c.take.result c.index_mut.result.now i.ports_count lt c.take.ensures.value c.index_mut.ensures.value (i.ports_left r (omega arith)) in
    let number = ap (λ plan. plan.ring) c.into_end.ensures.plan ∙ ap (λ p. p.plan.ring) (one_held (slice_index_or c.args.ports.items r None) c.in-Some.port at.port (port ∙ c.in-Some.is) at.port_there) ∙ at.ring in
    subst (λ n. g.F.Fabric.settled c.loop-ring.fabric n ≡ false) (sym number) (i.unsettled r (omega arith) lt)

pub loop-ring-preserved : goal.loop-ring-preserved
loop-ring-preserved g c =
    let r = c.loop-ring.ring in
    let i = c.loop-ring.invariant in
    let count = c.requires.count in
    let lt : r < length c.args.ports.items = omega (arith, c.loop-ring-test.true, c.len-ring-end.ensures, c.args.ports.ok.0) in
    let at = c.requires.ends r lt in
    let port = taken_is c.loop-ring.ports.items c.args.ports.items r c.take.result c.index_mut.result.now i.ports_count lt c.take.ensures.value c.index_mut.ensures.value (i.ports_left r (omega arith)) in
    let end = taken_is c.loop-ring.ends.items c.args.ends.items r c.take-in-loop-ring.result c.index_mut-in-loop-ring.result.now i.ends_count (omega (arith, lt, count)) c.take-in-loop-ring.ensures.value
    c.index_mut-in-loop-ring.ensures.value (i.ends_left r (omega arith)) in
    let number = ap (λ plan. plan.ring) c.into_end.ensures.plan ∙ ap (λ p. p.plan.ring) (one_held (slice_index_or c.args.ports.items r None) c.in-Some.port at.port (port ∙ c.in-Some.is) at.port_there) ∙ at.ring in
    record {
      ports_count = length-set c.loop-ring.ports.items r c.take.new.self ∙ i.ports_count;
      ends_count = length-set c.loop-ring.ends.items r c.take-in-loop-ring.new.self ∙ i.ends_count;
      ports_left = λ k above. get_or-set_other c.loop-ring.ports.items r k c.take.new.self None (λ e. absurd (omega (arith, above, e))) ∙ i.ports_left k (omega (arith, above));
      ends_left = λ k above. get_or-set_other c.loop-ring.ends.items r k c.take-in-loop-ring.new.self None (λ e. absurd (omega (arith, above, e))) ∙ i.ends_left k (omega (arith, above));
      made = c.settle.ensures.made ∙ i.made;
      unsettled = λ k above below. c.settle.ensures.others_settled k (λ e. let same : k ≡ r = e ∙ number in absurd (omega (arith, above, same))) ∙ i.unsettled k (omega (arith, above)) below;
      carried = λ k there below is. same_or_not k r
          (λ e. ap (g.F.Fabric.carried c.settle.new.self) (e ∙ sym number) ∙ c.settle.ensures.carried
          ∙ ap (λ x. received_words (ring_side g.F.Rx.RxEnd x)) (one_held (slice_index_or c.args.ends.items k None) c.in-Some-take.end there (ap (λ n. slice_index_or c.args.ends.items n None) e ∙ end ∙ c.in-Some-take.is) is))
          (λ differs. c.settle.ensures.others k (λ e. differs (e ∙ number)) ∙ i.carried k there (let apart = differs in omega (arith, below, apart)) is);
    }
