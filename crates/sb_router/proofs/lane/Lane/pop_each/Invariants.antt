-- The rings before the place were popped.
use Rattle.std.proofs.Common.{◌≡◌}
use Rattle.sb_router.specs.RouterOf.{lane_of, lane_route}
use Rattle.sb_router.proofs.PoppingEach.{PopsSoFar}
use Rattle.sb_router.proofs.lane.Lane.pop_each.Given as goal

abbrev pub invariant-loop-place : goal.invariant-loop-place
invariant-loop-place g l = record {
  routes : l.self.routes ≡ l.initial.self.routes;
  popped : PopsSoFar (lane_route l.initial.self) (lane_of l.initial.self) (lane_of l.self) l.found l.place;
}
