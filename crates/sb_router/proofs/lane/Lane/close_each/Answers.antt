-- close_each: each port was told once the place is behind the last one, or none.
use Rattle.std.proofs.Common.{refl, ◌∙◌, arith}
use Rattle.sb_router.specs.RouterOf.{lane_of, lane_route}
use Rattle.sb_router.proofs.ClosingEach.{tells_all, tells_more, tells_none, tells_not}
use Rattle.sb_router.proofs.Shapes.{steps_shape}
use Rattle.sb_router.proofs.WholeSteps.{still_whole}
use Rattle.sb_router.proofs.lane.Lane.close_each.Goals as goal

pub returns-then-not-is_silent-clause-closed : goal.returns-then-not-is_silent-clause-closed
returns-then-not-is_silent-clause-closed g c = tells_not (λ silent. let found = c.if-not-is_silent.ensures.no silent in let other = c.if-not-is_silent.true in cc)

pub loop-place-init : goal.loop-place-init
loop-place-init g c = record { routes = refl; told = tells_none (lane_route c.args.self.now) (lane_of c.args.self.now) }

pub close_at-requires-clause-whole : goal.close_at-requires-clause-whole
close_at-requires-clause-whole g c = still_whole c.loop-place.invariant.routes c.requires.whole c.loop-place.invariant.told.steps

pub close_at-requires-clause-within : goal.close_at-requires-clause-within
close_at-requires-clause-within g c =
    let shape = steps_shape c.loop-place.invariant.told.steps in
    omega (
      arith,
      c.loop-place-test.true,
      c.len-place-end.ensures,
      c.args.self.now.outlets.ok.0,
      c.loop-place.self.outlets.ok.0,
      shape.outlets,
    )

pub loop-place-preserved : goal.loop-place-preserved
loop-place-preserved g c =
    let so_far = c.loop-place.invariant.told in
    let shape = steps_shape so_far.steps in
    record {
      routes = c.close_at.ensures.routes ∙ c.loop-place.invariant.routes;
      told = tells_more so_far (c.is_silent.ensures.yes c.if-not-is_silent.false)
          (omega (arith, c.loop-place-test.true, c.len-place-end.ensures, c.args.self.now.outlets.ok.0, shape.outlets)) c.close_at.ensures.told;
    }

pub returns-clause-closed : goal.returns-clause-closed
returns-clause-closed g c =
    let so_far = c.loop-place.invariant.told in
    let shape = steps_shape so_far.steps in
    tells_all so_far (c.is_silent.ensures.yes c.if-not-is_silent.false)
    (omega (arith, c.loop-place-test.false, c.len-place-end.ensures, c.args.self.now.outlets.ok.0, shape.outlets))
