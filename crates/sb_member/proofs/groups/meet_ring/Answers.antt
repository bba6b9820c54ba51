-- The ends of a ring meet within a group, or between two.
use Rattle.std.proofs.Common.{◌≡◌, ◌≢◌, ◌<◌, ◌%◌, ◌/◌, ℕ, List, length, map, sym, ap, ◌∙◌, subst, arith}
use Rattle.std.proofs.lemmas.List.{length-map}
use Rattle.sb_member.specs.Groups.{HasMetAcross, HasMetInside, IsRingAcross, grouped_nodes, nodes_in}
use Rattle.sb_member.specs.Joints.{IsRingPlaced}
use Rattle.sb_member.specs.declared.joint.Joint.{Joint}
use Rattle.sb_member.proofs.DealtRings.{across_dealt, across_met, inside_dealt, inside_met, stands_across, stands_inside}
use Rattle.sb_member.proofs.groups.meet_ring.Goals as goal

-- where a ring stands in the groups, of so many
abbrev places_of : Joint → ℕ → Joint
places_of j n = record { from = j.from / n; out = j.out; to = j.to / n; into = j.into }

-- a group that comes later is another
later : {a b : ℕ} → a < b → b ≢ a
later {a} {b} lt is = absurd (omega (arith, lt, is))

pub meet_inside-requires-clause-placed : goal.meet_inside-requires-clause-placed
meet_inside-requires-clause-placed g c κs within =
    let groups = c.args.groups.now in
    let j = c.args.joint.now in
    let count = length-map groups (λ group. group.nodes.items) in
    subst (λ n. IsRingPlaced (nodes_in (grouped_nodes groups) (j.from % n)) (places_of j n)) count
    (stands_inside (grouped_nodes groups) c.requires.dealt j c.requires.placed (ap (λ n. j.from % n) count ∙ c.if-from-to.true ∙ sym (ap (λ n. j.to % n) count)))

pub meet_onward-requires-clause-ends : goal.meet_onward-requires-clause-ends
meet_onward-requires-clause-ends g c κs within =
    let groups = c.args.groups.now in
    let j = c.args.joint.now in
    let nodes = grouped_nodes groups in
    subst (λ n. IsRingAcross (nodes_in nodes (j.from % n)) (nodes_in nodes (j.to % n)) (places_of j n)) (length-map groups (λ group. group.nodes.items))
    (stands_across nodes c.requires.dealt j c.requires.placed)

pub meet_backward-requires-clause-ends : goal.meet_backward-requires-clause-ends
meet_backward-requires-clause-ends g c κs within =
    let groups = c.args.groups.now in
    let j = c.args.joint.now in
    let nodes = grouped_nodes groups in
    subst (λ n. IsRingAcross (nodes_in nodes (j.from % n)) (nodes_in nodes (j.to % n)) (places_of j n)) (length-map groups (λ group. group.nodes.items))
    (stands_across nodes c.requires.dealt j c.requires.placed)

pub returns-then-from-to-clause-dealt : goal.returns-then-from-to-clause-dealt
returns-then-from-to-clause-dealt g c =
    let groups = c.args.groups.now in
    let j = c.args.joint.now in
    let after = grouped_nodes c.meet_inside.new.groups in
    let count = length-map groups (λ group. group.nodes.items) in
    inside_dealt (grouped_nodes groups) c.requires.dealt j c.requires.placed after (ap (λ n. j.from % n) count ∙ c.if-from-to.true ∙ sym (ap (λ n. j.to % n) count))
    (subst (λ n. HasMetInside (j.from % n) (places_of j n) (grouped_nodes groups) after) (sym count) c.meet_inside.ensures.met)

pub returns-then-from-to-clause-met : goal.returns-then-from-to-clause-met
returns-then-from-to-clause-met g c =
    let groups = c.args.groups.now in
    let j = c.args.joint.now in
    let after = grouped_nodes c.meet_inside.new.groups in
    let count = length-map groups (λ group. group.nodes.items) in
    inside_met (grouped_nodes groups) c.requires.dealt j c.requires.placed after (ap (λ n. j.from % n) count ∙ c.if-from-to.true ∙ sym (ap (λ n. j.to % n) count))
    (subst (λ n. HasMetInside (j.from % n) (places_of j n) (grouped_nodes groups) after) (sym count) c.meet_inside.ensures.met)

pub returns-then-from-to-2-clause-dealt : goal.returns-then-from-to-2-clause-dealt
returns-then-from-to-2-clause-dealt g c =
    let groups = c.args.groups.now in
    let j = c.args.joint.now in
    let after = grouped_nodes c.meet_onward.new.groups in
    let count = length-map groups (λ group. group.nodes.items) in
    across_dealt (grouped_nodes groups) c.requires.dealt j c.requires.placed after (subst (λ n. j.to % n ≢ j.from % n) (sym count) (later c.if-from-to-2.true))
    (subst (λ n. HasMetAcross (j.from % n) (j.to % n) (places_of j n) (grouped_nodes groups) after) (sym count) c.meet_onward.ensures.met)

pub returns-then-from-to-2-clause-met : goal.returns-then-from-to-2-clause-met
returns-then-from-to-2-clause-met g c =
    let groups = c.args.groups.now in
    let j = c.args.joint.now in
    let after = grouped_nodes c.meet_onward.new.groups in
    let count = length-map groups (λ group. group.nodes.items) in
    across_met (grouped_nodes groups) c.requires.dealt j c.requires.placed after (subst (λ n. j.to % n ≢ j.from % n) (sym count) (later c.if-from-to-2.true))
    (subst (λ n. HasMetAcross (j.from % n) (j.to % n) (places_of j n) (grouped_nodes groups) after) (sym count) c.meet_onward.ensures.met)

pub returns-else-from-to-2-clause-dealt : goal.returns-else-from-to-2-clause-dealt
returns-else-from-to-2-clause-dealt g c =
    let groups = c.args.groups.now in
    let j = c.args.joint.now in
    let after = grouped_nodes c.meet_backward.new.groups in
    let count = length-map groups (λ group. group.nodes.items) in
    across_dealt (grouped_nodes groups) c.requires.dealt j c.requires.placed after (subst (λ n. j.to % n ≢ j.from % n) (sym count) (λ is. c.if-from-to.false (sym is)))
    (subst (λ n. HasMetAcross (j.from % n) (j.to % n) (places_of j n) (grouped_nodes groups) after) (sym count) c.meet_backward.ensures.met)

pub returns-else-from-to-2-clause-met : goal.returns-else-from-to-2-clause-met
returns-else-from-to-2-clause-met g c =
    let groups = c.args.groups.now in
    let j = c.args.joint.now in
    let after = grouped_nodes c.meet_backward.new.groups in
    let count = length-map groups (λ group. group.nodes.items) in
    across_met (grouped_nodes groups) c.requires.dealt j c.requires.placed after (subst (λ n. j.to % n ≢ j.from % n) (sym count) (λ is. c.if-from-to.false (sym is)))
    (subst (λ n. HasMetAcross (j.from % n) (j.to % n) (places_of j n) (grouped_nodes groups) after) (sym count) c.meet_backward.ensures.met)
