-- What is held of the rings before the place was handed on.
use Rattle.std.proofs.Common.{◌≡◌}
use Rattle.sb_router.specs.RouterOf.{lane_of, lane_route}
use Rattle.sb_router.proofs.HandingEach.{HandsSoFar}
use Rattle.sb_router.proofs.lane.Lane.hand_each.Given as goal

abbrev pub invariant-loop-place : goal.invariant-loop-place
invariant-loop-place g l = record {
  routes : l.self.routes ≡ l.initial.self.routes;
  handed : HandsSoFar (lane_route l.initial.self) (lane_of l.initial.self) (lane_of l.self) l.moved l.place;
}
