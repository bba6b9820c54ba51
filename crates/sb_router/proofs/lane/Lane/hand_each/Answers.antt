-- hand_each: what is held of each ring was handed on once the place is behind the last one.
use Rattle.std.proofs.Common.{refl, ◌∙◌, subst, arith}
use Rattle.sb_router.specs.Lanes.{LaneState, Route}
use Rattle.sb_router.specs.RouterOf.{lane_of, lane_route}
use Rattle.sb_router.specs.Ways.{route_of}
use Rattle.sb_router.specs.Popping.{IsHanded}
use Rattle.sb_router.proofs.HandingEach.{hands_all, hands_more, hands_none}
use Rattle.sb_router.proofs.Shapes.{steps_shape}
use Rattle.sb_router.proofs.WholeSteps.{still_whole, whole_steps}
use Rattle.sb_router.proofs.lane.Lane.hand_each.Goals as goal

pub loop-place-init : goal.loop-place-init
loop-place-init g c =
    let s : LaneState = lane_of c.args.self.now in
    record { routes = refl; handed = hands_none (lane_route c.args.self.now) s }

pub hand_at-handed-requires-clause-whole : goal.hand_at-handed-requires-clause-whole
hand_at-handed-requires-clause-whole g c = still_whole c.loop-place.invariant.routes c.requires.whole c.loop-place.invariant.handed.steps

pub loop-place-preserved : goal.loop-place-preserved
loop-place-preserved g c =
    let so_far = c.loop-place.invariant.handed in
    let shape = steps_shape so_far.steps in
    let now : LaneState = lane_of c.loop-place.self in
    let then : LaneState = lane_of c.hand_at-handed.new.self in
    let route : Route = lane_route c.args.self.now in
    record {
      routes = c.hand_at-handed.ensures.routes ∙ c.loop-place.invariant.routes;
      handed = hands_more c.loop-place.moved c.hand_at-handed.result so_far (whole_steps c.requires.whole so_far.steps)
          (omega (arith, c.loop-place-test.true, c.len-place-end.ensures, c.args.self.now.inlets.ok.0, shape.inlets))
          (subst (λ rows. IsHanded (route_of rows.rows.items) c.loop-place.place now then c.hand_at-handed.result) c.loop-place.invariant.routes c.hand_at-handed.ensures.handed);
    }

pub hand_at-handed-requires-clause-within : goal.hand_at-handed-requires-clause-within
hand_at-handed-requires-clause-within g c =
    let shape = steps_shape c.loop-place.invariant.handed.steps in
    omega (
      arith,
      c.loop-place-test.true,
      c.len-place-end.ensures,
      c.args.self.now.inlets.ok.0,
      c.loop-place.self.inlets.ok.0,
      shape.inlets,
    )

pub returns-clause-handed : goal.returns-clause-handed
returns-clause-handed g c =
    let so_far = c.loop-place.invariant.handed in
    let shape = steps_shape so_far.steps in
    hands_all so_far (omega (arith, c.loop-place-test.false, c.len-place-end.ensures, c.args.self.now.inlets.ok.0, shape.inlets))
