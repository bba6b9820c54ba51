-- pop_at: the ring at the place is popped, and no other one.
use Rattle.std.proofs.Common.{sym, refl, subst, arith}
use Rattle.sb_router.specs.Lanes.{no_inlet}
use Rattle.sb_router.specs.Popping.{IsPopped}
use Rattle.sb_router.specs.Forwarding.{IsWholeInlet}
use Rattle.sb_router.proofs.Places.{at_place, of_place}
use Rattle.sb_router.proofs.lane.Lane.pop_at.Goals as goal

pub pop-requires : goal.pop-requires
pop-requires g c = let list = c.args.self.now.inlets in record {
  whole = of_place IsWholeInlet list.items c.args.place c.index_mut.result.now (omega (arith, c.requires.within, list.ok.0)) c.index_mut.ensures.value c.requires.whole.inlets;
}

pub returns-clause-popped : goal.returns-clause-popped
returns-clause-popped g c =
    let list = c.args.self.now.inlets in
    let at = at_place list.items c.args.place c.index_mut.result.now no_inlet (omega (arith, c.requires.within, list.ok.0)) c.index_mut.ensures.value in
    let popped = c.pop.ensures.popped in
    record {
      one = popped.one;
      has = record { inlet = c.pop.new.self; popped = subst (λ x. IsPopped x c.pop.new.self popped.one) (sym at) popped.has; state = refl };
      both = popped.both;
    }
