-- pop_each: each ring was popped once the place is behind the last one.
use Rattle.std.proofs.Common.{refl, ◌∙◌, arith}
use Rattle.sb_router.specs.RouterOf.{lane_of, lane_route}
use Rattle.sb_router.proofs.PoppingEach.{pops_all, pops_more, pops_none}
use Rattle.sb_router.proofs.Shapes.{steps_shape}
use Rattle.sb_router.proofs.WholeSteps.{still_whole}
use Rattle.sb_router.proofs.lane.Lane.pop_each.Goals as goal

pub loop-place-init : goal.loop-place-init
loop-place-init g c = record { routes = refl; popped = pops_none (lane_route c.args.self.now) (lane_of c.args.self.now) c.new-found.ensures }

pub pop_at-requires-clause-whole : goal.pop_at-requires-clause-whole
pop_at-requires-clause-whole g c = still_whole c.loop-place.invariant.routes c.requires.whole c.loop-place.invariant.popped.steps

pub loop-place-preserved : goal.loop-place-preserved
loop-place-preserved g c =
    let so_far = c.loop-place.invariant.popped in
    let shape = steps_shape so_far.steps in
    record {
      routes = c.pop_at.ensures.routes ∙ c.loop-place.invariant.routes;
      popped = pops_more so_far (omega (arith, c.loop-place-test.true, c.len-place-end.ensures, c.args.self.now.inlets.ok.0, shape.inlets)) c.pop_at.ensures.popped;
    }

pub returns-clause-popped : goal.returns-clause-popped
returns-clause-popped g c =
    let so_far = c.loop-place.invariant.popped in
    let shape = steps_shape so_far.steps in
    pops_all so_far (omega (arith, c.loop-place-test.false, c.len-place-end.ensures, c.args.self.now.inlets.ok.0, shape.inlets))
