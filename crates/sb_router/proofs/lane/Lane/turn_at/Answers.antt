-- turn_at: the port at the place is turned, and no other one.
use Rattle.std.proofs.Common.{sym, ap, set, get_or, subst, arith}
use Rattle.std.proofs.lemmas.List.{get_or-set_same}
use Rattle.sb_port.specs.Ports.{PortSide}
use Rattle.sb_router.specs.Lanes.{LaneState, no_port}
use Rattle.sb_router.specs.RouterOf.{lane_of}
use Rattle.sb_router.specs.Popping.{IsOutletTurned}
use Rattle.sb_router.specs.Forwarding.{IsWholeOutlet}
use Rattle.sb_router.proofs.Places.{at_place, of_place}
use Rattle.sb_router.proofs.lane.Lane.turn_at.Goals as goal

pub turn_outlet-requires : goal.turn_outlet-requires
turn_outlet-requires g c = let list = c.args.self.now.outlets in record {
  whole = of_place IsWholeOutlet list.items c.args.place c.index_mut.result.now (omega (arith, c.requires.within, list.ok.0)) c.index_mut.ensures.value c.requires.whole.outlets;
}

pub returns-clause-set : goal.returns-clause-set
returns-clause-set g c =
    let list = c.args.self.now.outlets in
    let s : LaneState = lane_of c.args.self.now in
    let y = c.turn_outlet.new.port in
    ap (λ (z : PortSide). (let t : LaneState = record s { outlets = set list.items c.args.place z } in t)) (sym (get_or-set_same list.items c.args.place y no_port (omega (arith, c.requires.within, list.ok.0))))

pub returns-clause-turned : goal.returns-clause-turned
returns-clause-turned g c =
    let list = c.args.self.now.outlets in
    let y = c.turn_outlet.new.port in
    let turned = c.turn_outlet.ensures.turned in
    record {
      one = turned.one;
      has = subst (λ (z : PortSide). IsOutletTurned c.args.more (get_or list.items c.args.place no_port) z turned.one) (sym (get_or-set_same list.items c.args.place y no_port (omega (arith, c.requires.within, list.ok.0))))
          (subst (λ (z : PortSide). IsOutletTurned c.args.more z y turned.one) (sym (at_place list.items c.args.place c.index_mut.result.now no_port (omega (arith, c.requires.within, list.ok.0)) c.index_mut.ensures.value)) turned.has);
      both = turned.both;
    }
