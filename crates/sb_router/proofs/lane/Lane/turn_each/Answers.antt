-- turn_each: each port took its turn once the place is behind the last one.
use Rattle.std.proofs.Common.{refl, ◌∙◌, arith}
use Rattle.sb_router.specs.RouterOf.{lane_of, lane_route}
use Rattle.sb_router.proofs.TurningEach.{turns_all, turns_more, turns_none}
use Rattle.sb_router.proofs.Shapes.{steps_shape}
use Rattle.sb_router.proofs.WholeSteps.{still_whole}
use Rattle.sb_router.proofs.lane.Lane.turn_each.Goals as goal

pub loop-place-init : goal.loop-place-init
loop-place-init g c = record { routes = refl; turned = turns_none c.args.more (lane_of c.args.self.now) c.args.found.now }

pub turn_at-requires-clause-whole : goal.turn_at-requires-clause-whole
turn_at-requires-clause-whole g c = still_whole c.loop-place.invariant.routes c.requires.whole (c.loop-place.invariant.turned.has.steps (lane_route c.args.self.now))

pub loop-place-preserved : goal.loop-place-preserved
loop-place-preserved g c =
    let so_far = c.loop-place.invariant.turned in
    let shape = steps_shape (so_far.has.steps (lane_route c.args.self.now)) in
    record {
      routes = c.turn_at.ensures.routes ∙ c.loop-place.invariant.routes;
      turned = turns_more (omega (arith, c.loop-place-test.true, c.len-place-end.ensures, c.args.self.now.outlets.ok.0, shape.outlets)) c.turn_at.ensures.set so_far c.turn_at.ensures.turned;
    }

pub returns-clause-turned : goal.returns-clause-turned
returns-clause-turned g c =
    let so_far = c.loop-place.invariant.turned in
    let shape = steps_shape (so_far.has.steps (lane_route c.args.self.now)) in
    turns_all so_far (omega (arith, c.loop-place-test.false, c.len-place-end.ensures, c.args.self.now.outlets.ok.0, shape.outlets))
