-- One ring more has met.
use Rattle.std.proofs.Common.{take, List, subst, sym, ◌∙◌, arith}
use Rattle.sb_member.specs.Groups.{dealt_nodes, grouped_nodes}
use Rattle.sb_member.specs.Joints.{MeetAlong, joint_at}
use Rattle.sb_member.specs.declared.joint.Joint.{Joint}
use Rattle.sb_member.proofs.RingsMet.{meets_more, taken_further}
use Rattle.sb_member.proofs.RingsJoined.{joined_on, met_on}
use Rattle.sb_member.proofs.groups.meet_rings.Goals as goal

pub loop-ring-preserved : goal.loop-ring-preserved
loop-ring-preserved g c =
    let joints = c.args.joints.now in
    let r = c.loop-ring.ring in
    let first = dealt_nodes (grouped_nodes c.args.groups.now) in
    let before = dealt_nodes (grouped_nodes c.loop-ring.groups) in
    let after = dealt_nodes (grouped_nodes c.meet_ring.new.groups) in
    let lt = c.loop-ring-test.true in
    let i = c.loop-ring.invariant in
    let one = c.meet_ring.ensures.met in (
      subst (λ (list : List Joint). MeetAlong list first after) (sym (taken_further joints r lt)) (meets_more (take r joints) (joint_at joints r) first before after i.0 one),
      joined_on joints r before after lt i.1 one,
      met_on joints r before after lt i.1 one i.2,
      c.meet_ring.ensures.dealt,
      c.meet_ring.ensures.count ∙ i.4,
    )

pub returns-clause-all_met : goal.returns-clause-all_met
returns-clause-all_met g c = λ r below. let out = c.loop-ring-test.false in c.loop-ring.invariant.2 r (omega (arith, below, out))
