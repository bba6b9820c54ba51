-- The rings have the network's plans, and the nodes stand at them.
use Rattle.std.proofs.Common.{◌≡◌, ℕ, [], ◌∷◌, refl, sym, subst, ap, ◌∙◌, length, arith}
use Rattle.sb_link.specs.PlanOf.{plan_of}
use Rattle.sb_packet.specs.Networks.{Network}
use Rattle.sb_link.specs.RingPlans.{RingPlan}
use Rattle.sb_flow.specs.Rings.{ring_plan}
use Rattle.sb_port.specs.Ports.{PortSide, fresh_port}
use Rattle.sb_node.specs.Sides.{RingSide}
use Rattle.sb_router.specs.Lanes.{fresh_inlet}
use Rattle.sb_member.specs.Joints.{IsJoined}
use Rattle.sb_tests.specs.Lines.{sample_joints}
use Rattle.sb_tests.proofs.NewLine.{AreEnds, fresh_ends, new_line, seen_ends, two_ports, two_rings}
use Rattle.sb_tests.proofs.NewRings.{one_more, ring_0, ring_1, ring_2, ring_3, sample_plan}
use Rattle.sb_tests.specs.Samples.{sample}
use Rattle.sb_tests.proofs.line.nodes_of.Goals as goal

-- what the bundle plans for a ring is what the network does
planned : (n : Network) (ring : ℕ) (plan : RingPlan) → n ≡ sample → plan ≡ ring_plan n ring → plan ≡ sample_plan ring
planned n ring plan is plans = plans ∙ ap (λ (m : Network). ring_plan m ring) is

pub link-requires-clause-down : goal.link-requires-clause-down
link-requires-clause-down g c κs within =
    ring_0 (g.F.Fabric.made c.args.fabric.now) (plan_of c.plan-near_down.result) c.requires.new (planned _ 0 _ c.requires.network c.plan-near_down.ensures)

pub link-requires-clause-up : goal.link-requires-clause-up
link-requires-clause-up g c κs within =
    let down = planned _ 0 _ c.requires.network c.plan-near_down.ensures in
    ring_1 _ (plan_of c.plan-near_up.result) (one_more (g.F.Fabric.made c.args.fabric.now) [] (plan_of c.plan-near_down.result) (sample_plan 0) c.requires.new down)
    (planned _ 1 _ c.requires.network c.plan-near_up.ensures)

pub link-requires-2-clause-down : goal.link-requires-2-clause-down
link-requires-2-clause-down g c κs within =
    let down = planned _ 0 _ c.requires.network c.plan-near_down.ensures in
    let up = planned _ 1 _ c.requires.network c.plan-near_up.ensures in
    let first = one_more (g.F.Fabric.made c.args.fabric.now) [] (plan_of c.plan-near_down.result) (sample_plan 0) c.requires.new down in
    ring_2 (g.F.Fabric.made c.link.new.fabric) (plan_of c.plan-far_down.result) (c.in_ok-host_leg.ensures.made ∙ one_more _ (sample_plan 0 ∷ []) (plan_of c.plan-near_up.result) (sample_plan 1) first up)
    (planned _ 2 _ c.requires.network c.plan-far_down.ensures)

pub link-requires-2-clause-up : goal.link-requires-2-clause-up
link-requires-2-clause-up g c κs within =
    let down = planned _ 0 _ c.requires.network c.plan-near_down.ensures in
    let up = planned _ 1 _ c.requires.network c.plan-near_up.ensures in
    let further = planned _ 2 _ c.requires.network c.plan-far_down.ensures in
    let first = one_more (g.F.Fabric.made c.args.fabric.now) [] (plan_of c.plan-near_down.result) (sample_plan 0) c.requires.new down in
    let both = c.in_ok-host_leg.ensures.made ∙ one_more _ (sample_plan 0 ∷ []) (plan_of c.plan-near_up.result) (sample_plan 1) first up in
    ring_3 _ (plan_of c.plan-far_up.result) (one_more (g.F.Fabric.made c.link.new.fabric) (sample_plan 0 ∷ sample_plan 1 ∷ []) (plan_of c.plan-far_down.result) (sample_plan 2) both further)
    (planned _ 3 _ c.requires.network c.plan-far_up.ensures)

pub host_at-requires-clause-planned : goal.host_at-requires-clause-planned
host_at-requires-clause-planned g c κs within = c.in_ok-host_leg.ensures.requests_out ∙ planned _ 0 _ c.requires.network c.plan-near_down.ensures

pub device_at-requires-clause-requests : goal.device_at-requires-clause-requests
device_at-requires-clause-requests g c κs within = c.in_ok-leg_out.ensures.requests_in ∙ planned _ 2 _ c.requires.network c.plan-far_down.ensures

pub device_at-requires-clause-answers : goal.device_at-requires-clause-answers
device_at-requires-clause-answers g c κs within = c.in_ok-leg_out.ensures.answers_out ∙ planned _ 3 _ c.requires.network c.plan-far_up.ensures

pub router_at-requires-clause-made : goal.router_at-requires-clause-made
router_at-requires-clause-made g c κs within = c.in_ok-paths.ensures

pub router_at-requires-clause-near : goal.router_at-requires-clause-near
router_at-requires-clause-near g c κs within = record {
  unsent = c.in_ok-host_leg.ensures.answers_unsent;
  unreceived = c.in_ok-host_leg.ensures.requests_unreceived;
}

pub router_at-requires-clause-far : goal.router_at-requires-clause-far
router_at-requires-clause-far g c κs within = record {
  unsent = c.in_ok-leg_out.ensures.requests_unsent;
  unreceived = c.in_ok-leg_out.ensures.answers_unreceived;
}

pub invariant_of-result : goal.invariant_of-result
invariant_of-result g c =
    let last = ap length c.in_ok-last.ensures.items in
    record { placed = omega (arith, last, c.in_ok-last.last.ok.0, c.in_ok-nodes.ensures.count) }

pub returns-clause-joined : goal.returns-clause-joined
returns-clause-joined g c =
    let tx = g.F.Tx.TxEnd in
    let rx = g.F.Rx.RxEnd in
    let near = c.in_ok-host_leg.ensures in
    let far = c.in_ok-leg_out.ensures in
    let near_down = planned _ 0 _ c.requires.network c.plan-near_down.ensures in
    let near_up = planned _ 1 _ c.requires.network c.plan-near_up.ensures in
    let far_down = planned _ 2 _ c.requires.network c.plan-far_down.ensures in
    let far_up = planned _ 3 _ c.requires.network c.plan-far_up.ensures in
    let host = c.in_ok-host.ensures in
    let router = c.in_ok-router.ensures in
    let device = c.in_ok-device.ensures in
    let h = c.in_ok-host.host in
    let r = c.in_ok-router.router in
    let d = c.in_ok-device.device in
    let near_hear = (fresh_inlet rx c.in_ok-host_leg.leg_in.requests).ring in
    let far_learn = (fresh_inlet rx c.in_ok-leg_out.leg_out.answers).ring in
    let far_ask = fresh_port tx c.in_ok-leg_out.leg_out.requests in
    let near_answer = fresh_port tx c.in_ok-host_leg.leg_in.answers in
    let asks = fresh_ends tx rx 0 c.in_ok-host_leg.host_leg.requests c.in_ok-host_leg.leg_in.requests refl (near.requests_out ∙ near_down) (near.requests_in ∙ near_down) near.requests_mark in
    let learns = seen_ends tx rx 1 c.in_ok-host_leg.leg_in.answers c.in_ok-host_leg.host_leg.answers refl (near.answers_out ∙ near_up) (near.answers_in ∙ near_up) near.answers_mark in
    let hears = seen_ends tx rx 2 c.in_ok-leg_out.leg_out.requests c.in_ok-leg_out.device_leg.requests refl (far.requests_out ∙ far_down) (far.requests_in ∙ far_down) far.requests_mark in
    let answers = fresh_ends tx rx 3 c.in_ok-leg_out.device_leg.answers c.in_ok-leg_out.leg_out.answers refl (far.answers_out ∙ far_up) (far.answers_in ∙ far_up) far.answers_mark in
    subst (λ list. IsJoined sample_joints list) (sym c.in_ok-nodes.ensures.nodes) (new_line r near_hear far_learn far_ask near_answer
    (two_rings r (fresh_inlet rx c.in_ok-host_leg.leg_in.requests) (fresh_inlet rx c.in_ok-leg_out.leg_out.answers) router.requests_in router.answers_in)
    (two_ports r far_ask near_answer router.requests_out router.answers_out)
    _ _ _ h d
    (subst (λ (port : PortSide). AreEnds 0 port near_hear) (sym host.requests) asks)
    (subst (λ (ring : RingSide). AreEnds 1 near_answer ring) (sym host.answers) learns)
    (subst (λ (ring : RingSide). AreEnds 2 far_ask ring) (sym device.requests) hears)
    (subst (λ (port : PortSide). AreEnds 3 port far_learn) (sym device.answers) answers)
    host.whole router.whole device.whole)
