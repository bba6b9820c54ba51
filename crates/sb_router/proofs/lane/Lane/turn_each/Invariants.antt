-- The ports before the place took their turns.
use Rattle.std.proofs.Common.{◌≡◌}
use Rattle.sb_router.specs.Popping.{FindsBesides}
use Rattle.sb_router.specs.RouterOf.{lane_of}
use Rattle.sb_router.proofs.TurningEach.{TurnsSoFar}
use Rattle.sb_router.proofs.lane.Lane.turn_each.Given as goal

abbrev pub invariant-loop-place : goal.invariant-loop-place
invariant-loop-place g l = record {
  routes : l.self.routes ≡ l.initial.self.routes;
  turned : FindsBesides (TurnsSoFar l.more (lane_of l.initial.self) (lane_of l.self) l.place) l.initial.found l.found;
}
