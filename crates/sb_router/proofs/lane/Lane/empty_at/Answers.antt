-- empty_at: nothing is held at the place, and all else stays.
use Rattle.std.proofs.Common.{sym, ap, set, arith, ◌∙◌}
use Rattle.sb_router.specs.Lanes.{InletState, no_inlet}
use Rattle.sb_router.specs.Steps.{emptied}
use Rattle.sb_router.proofs.Places.{at_place}
use Rattle.sb_router.proofs.lane.Lane.empty_at.Goals as goal

pub returns-clause-emptied : goal.returns-clause-emptied
returns-clause-emptied g c =
    let list = c.args.self.now.inlets in
    let x = c.index_mut.result.now in
    ap (λ (y : InletState). set list.items c.args.place y) c.empty.ensures.emptied
    ∙ ap (λ (y : InletState). set list.items c.args.place (emptied y)) (sym (at_place list.items c.args.place x no_inlet (omega (arith, c.requires.within, list.ok.0)) c.index_mut.ensures.value))
