-- end: the ring at the place is another one, and all else stays.
use Rattle.std.proofs.Common.{refl, sym, ap, ◌∙◌, arith}
use Rattle.std.specs.Vec.{with_item}
use Rattle.sb_node.specs.Sides.{ring_side}
use Rattle.sb_router.specs.Lanes.{InletState, no_inlet}
use Rattle.sb_router.proofs.Places.{at_place}
use Rattle.sb_router.proofs.lane.Lane.end.Goals as goal

pub returns : goal.returns
returns g c =
    let s = c.args.self.now in
    let k = c.args.place in
    let at = at_place s.inlets.items k c.index_mut.result.now no_inlet (omega (arith, c.requires.within, s.inlets.ok.0)) c.index_mut.ensures.value in (
      (refl, λ w. ap (λ (x : InletState). record s { inlets = with_item s.inlets k (record x { ring = ring_side g.U.RxEnd w }) }) (sym at)),
      record { value = c.end.ensures.value ∙ ap (λ (x : InletState). x.ring) (sym at); writes_back = tt },
    )
