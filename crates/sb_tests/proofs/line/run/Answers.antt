-- Turns and meetings leave the rings where they stand.
use Rattle.std.proofs.Common.{◌≡◌, ◌<◌, lit<, List, length, sym, subst, arith}
use Rattle.std.specs.Prelude.{slice_index_or}
use Rattle.sb_member.specs.Groups.{IsDealt, dealt_nodes, grouped_nodes}
use Rattle.sb_member.specs.Joints.{IsJoined}
use Rattle.sb_member.specs.declared.joint.Joint.{Joint}
use Rattle.sb_member.proofs.Dealt.{one_dealt, one_group, sole_group}
use Rattle.sb_member.proofs.Turned.{each_kept, joined_then}
use Rattle.sb_tests.specs.Lines.{sample_joints}
use Rattle.sb_tests.proofs.line.run.Goals as goal

pub returns-then-not-round_serial : goal.returns-then-not-round_serial
returns-then-not-round_serial g c =
    let r = c.round_serial in
    let before = c.loop-number.group.nodes in
    let after = r.new.group.nodes in
    let long : length after.items ≡ length before.items = omega (arith, r.ensures.count, after.ok.0, before.ok.0) in
    record { joined = joined_then c.loop-number.number sample_joints before.items after.items long (each_kept c.loop-number.number before.items after.items r.ensures.round.reached) r.ensures.whole c.loop-number.invariant.1 }

pub meet_rings-requires-clause-dealt : goal.meet_rings-requires-clause-dealt
meet_rings-requires-clause-dealt g c κs below =
    subst (λ groups. IsDealt (grouped_nodes groups)) (sym c.from_mut.ensures.value) (one_dealt c.round_serial.new.group.nodes.items)

pub meet_rings-requires-clause-joined : goal.meet_rings-requires-clause-joined
meet_rings-requires-clause-joined g c κs below =
    let r = c.round_serial in
    let before = c.loop-number.group.nodes in
    let after = r.new.group.nodes in
    let long : length after.items ≡ length before.items = omega (arith, r.ensures.count, after.ok.0, before.ok.0) in
    subst (λ (joints : List Joint). IsJoined joints (dealt_nodes (grouped_nodes c.from_mut.result.now))) (sym c.joints-joints.ensures)
    (subst (λ groups. IsJoined sample_joints (dealt_nodes (grouped_nodes groups))) (sym c.from_mut.ensures.value)
    (subst (λ nodes. IsJoined sample_joints nodes) (sym (one_group after.items))
    (joined_then c.loop-number.number sample_joints before.items after.items long (each_kept c.loop-number.number before.items after.items r.ensures.round.reached) r.ensures.whole c.loop-number.invariant.1)))

pub loop-number-preserved : goal.loop-number-preserved
loop-number-preserved g c =
    let new = c.meet_rings.new.groups in
    let group = slice_index_or new 0 c.round_serial.new.group in
    let one : length new ≡ 1 = omega (arith, c.meet_rings.ensures.count, c.from_mut.ensures.len) in
    let joined : IsJoined sample_joints group.nodes.items = subst (λ nodes. IsJoined sample_joints nodes) (sole_group new c.round_serial.new.group one)
    (subst (λ (joints : List Joint). IsJoined joints (dealt_nodes (grouped_nodes new))) c.joints-joints.ensures c.meet_rings.ensures.joined) in
    let some : 0 < length group.nodes.items = (joined.placed 0 (lit< tt)).from in
    (omega (arith, some, group.nodes.ok.0), joined)
