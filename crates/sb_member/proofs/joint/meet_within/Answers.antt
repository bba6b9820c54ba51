-- The two nodes in either order.
use Rattle.std.proofs.Common.{subst}
use Rattle.sb_member.specs.Joints.{HasRingMet}
use Rattle.sb_member.proofs.RingsMet.{met_in, set_swap}
use Rattle.sb_member.proofs.joint.meet_within.Goals as goal

pub returns-then-joint : goal.returns-then-joint
returns-then-joint g c = record {
  met = met_in c.args.nodes.now c.args.joint.now c.two-from.result.0.now c.meet_ends.new.from c.two-from.result.1.now c.meet_ends.new.to
      c.requires.placed c.two-from.ensures.first c.two-from.ensures.second c.meet_ends.ensures.met;
}

pub returns-else-joint : goal.returns-else-joint
returns-else-joint g c =
    let j = c.args.joint.now in
    let list = c.args.nodes.now in
    let h = c.meet_ends-else-joint in
    record {
      met = subst (λ nodes. HasRingMet j list nodes) (set_swap list j.from j.to h.new.from h.new.to c.requires.placed.apart)
          (met_in list j c.two-to.result.1.now h.new.from c.two-to.result.0.now h.new.to
          c.requires.placed c.two-to.ensures.second c.two-to.ensures.first h.ensures.met);
    }
