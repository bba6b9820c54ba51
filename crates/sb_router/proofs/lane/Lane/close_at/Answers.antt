-- close_at: the port at the place is told, and no other one.
use Rattle.std.proofs.Common.{sym, refl, subst, arith}
use Rattle.sb_router.specs.Lanes.{no_port}
use Rattle.sb_router.specs.Steps.{IsTold}
use Rattle.sb_router.specs.Forwarding.{IsWholeOutlet}
use Rattle.sb_router.proofs.Places.{at_place, of_place}
use Rattle.sb_router.proofs.lane.Lane.close_at.Goals as goal

pub close_outlet-requires : goal.close_outlet-requires
close_outlet-requires g c = let list = c.args.self.now.outlets in record {
  whole = of_place IsWholeOutlet list.items c.args.place c.index_mut.result.now (omega (arith, c.requires.within, list.ok.0)) c.index_mut.ensures.value c.requires.whole.outlets;
}

pub returns-clause-told : goal.returns-clause-told
returns-clause-told g c =
    let list = c.args.self.now.outlets in
    let at = at_place list.items c.args.place c.index_mut.result.now no_port (omega (arith, c.requires.within, list.ok.0)) c.index_mut.ensures.value in
    record { port = c.close_outlet.new.port; told = subst (λ y. IsTold y c.close_outlet.new.port) (sym at) c.close_outlet.ensures.told; state = refl }
