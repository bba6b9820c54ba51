-- The ports before the place were told.
use Rattle.std.proofs.Common.{◌≡◌}
use Rattle.sb_router.specs.RouterOf.{lane_of, lane_route}
use Rattle.sb_router.proofs.ClosingEach.{TellsSoFar}
use Rattle.sb_router.proofs.lane.Lane.close_each.Given as goal

abbrev pub invariant-loop-place : goal.invariant-loop-place
invariant-loop-place g l = record {
  routes : l.self.routes ≡ l.initial.self.routes;
  told : TellsSoFar (lane_route l.initial.self) (lane_of l.initial.self) (lane_of l.self) l.place;
}
