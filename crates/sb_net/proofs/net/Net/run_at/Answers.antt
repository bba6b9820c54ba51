-- The run is that of the nodes in the groups, which can be taken apart afterwards as before.
use Rattle.std.proofs.Common.{◌+◌, ◌++◌, length, take, drop, sym, ap, subst, arith}
use Rattle.sb_member.specs.Groups.{IsDealt, dealt_nodes, grouped_nodes}
use Rattle.sb_member.proofs.Dealt.{taken_whole}
use Rattle.sb_net.specs.Apart.{CanBeTakenApart}
use Rattle.sb_net.specs.Nets.{CanRun}
use Rattle.sb_net.specs.Running.{HasRun}
use Rattle.sb_net.proofs.RunsLent.{ready_lent}
use Rattle.sb_net.proofs.Told.{of_both, still_apart}
use Rattle.sb_net.proofs.net.Net.run_at.Goals as goal

pub run_side_by_side-requires-clause-ready : goal.run_side_by_side-requires-clause-ready
run_side_by_side-requires-clause-ready g c κs within =
    let network = c.requires.ready.0 in (
      network,
      ready_lent network c.deref.result.now (grouped_nodes c.deref_mut.result.now) c.deref_mut-2.result.now c.args.journal.now
          (sym c.self.view_is) c.deref.ensures.value (ap grouped_nodes c.deref_mut.ensures.value) c.deref_mut-2.ensures.value c.requires.ready.1,
    )

pub invariant_of-self : goal.invariant_of-self
invariant_of-self g c =
    let network = c.requires.ready.0 in
    let inside = c.self.inside in
    let new = c.run_side_by_side.new.groups in
    let count = c.run_side_by_side.ensures.count in
    let can = subst (λ net. CanRun network net c.args.journal.now) (sym c.self.view_is) c.requires.ready.1 in
    let ready = ready_lent network c.deref.result.now (grouped_nodes c.deref_mut.result.now) c.deref_mut-2.result.now c.args.journal.now
    (sym c.self.view_is) c.deref.ensures.value (ap grouped_nodes c.deref_mut.ensures.value) c.deref_mut-2.ensures.value c.requires.ready.1 in
    let run = subst (λ joints. HasRun network c.run_side_by_side.new.journal.entries joints (dealt_nodes (grouped_nodes new))) c.deref.ensures.value (c.run_side_by_side.ensures.run network ready) in
    subst (λ groups. CanBeTakenApart (grouped_nodes groups) inside.joints.items (inside.first_device + inside.collected.len) inside.room)
    (sym (taken_whole new (drop (length new) inside.groups.items) inside.groups.len (omega (arith, inside.groups.ok.0, c.deref_mut.ensures.len, count))))
    (still_apart network inside.joints.items (grouped_nodes inside.groups.items) (grouped_nodes new) (inside.first_device + inside.collected.len) inside.room can.built.stands run.stands c.run_side_by_side.ensures.dealt c.self.invariant)

pub returns-clause-run : goal.returns-clause-run
returns-clause-run g c = λ network can.
    let inside = c.self.inside in
    let new = c.run_side_by_side.new.groups in
    let count = c.run_side_by_side.ensures.count in
    let ready = ready_lent network c.deref.result.now (grouped_nodes c.deref_mut.result.now) c.deref_mut-2.result.now c.args.journal.now
    (sym c.self.view_is) c.deref.ensures.value (ap grouped_nodes c.deref_mut.ensures.value) c.deref_mut-2.ensures.value can in
    of_both (λ joints groups. HasRun network c.run_side_by_side.new.journal.entries joints (dealt_nodes (grouped_nodes groups)))
    c.deref.result.now inside.joints.items new (take inside.groups.len (new ++ drop (length new) inside.groups.items)) (sym c.deref.ensures.value)
    (taken_whole new (drop (length new) inside.groups.items) inside.groups.len (omega (arith, inside.groups.ok.0, c.deref_mut.ensures.len, count)))
    (c.run_side_by_side.ensures.run network ready)

pub returns-clause-dealt : goal.returns-clause-dealt
returns-clause-dealt g c =
    let inside = c.self.inside in
    let new = c.run_side_by_side.new.groups in
    let count = c.run_side_by_side.ensures.count in
    subst (λ groups. IsDealt (grouped_nodes groups))
    (sym (taken_whole new (drop (length new) inside.groups.items) inside.groups.len (omega (arith, inside.groups.ok.0, c.deref_mut.ensures.len, count))))
    c.run_side_by_side.ensures.dealt
