-- hand_at: what is held goes to the port that the route names, or is dropped where there is none, or where it doesn't pass.
use Rattle.std.proofs.Common.{◌≡◌, inr, sym, ap, ◌∙◌, set, get_or, arith, length, Some}
use Rattle.sb_packet.specs.declared.packet.Packet.{Packet}
use Rattle.sb_router.specs.Lanes.{InletState, LaneState, no_inlet, inlet_at}
use Rattle.sb_router.specs.Steps.{emptied}
use Rattle.sb_router.specs.RouterOf.{lane_of, lane_route}
use Rattle.sb_router.proofs.Places.{at_place}
use Rattle.sb_router.proofs.SameLane.{same_lane}
use Rattle.sb_router.proofs.NextPlaces.{next_within}
use Rattle.sb_router.proofs.Handed.{handed_on}
use Rattle.sb_router.proofs.lane.Lane.hand_at.Goals as goal

pub returns-in_default-next-clause-handed : goal.returns-in_default-next-clause-handed
returns-in_default-next-clause-handed g c =
    let self = c.args.self.now in
    let p : Packet = c.in-Some.packet in
    let held : (inlet_at (lane_of self) c.args.place).held ≡ Some p =
    ap (λ (x : InletState). x.held) (at_place self.inlets.items c.args.place c.index.result.now no_inlet (omega (arith, c.requires.within, self.inlets.ok.0)) c.index.ensures) ∙ sym c.held.ensures.held ∙ c.in-Some.is in
    inr record {
      packet = p;
      held = held;
      refused = λ o e _. c.in_default-next.not-Some o (c.next.ensures.next ∙ e);
      state = same_lane c.empty_at.ensures.emptied (ap (λ v. v.items) c.empty_at.ensures.outlets);
    }

-- the place that the route names is one of the places
pub is_ready_at-requires-clause-within : goal.is_ready_at-requires-clause-within
is_ready_at-requires-clause-within g c =
    let self = c.args.self.now in let s : LaneState = lane_of self in
    let lt = next_within (lane_route self) (inlet_at s c.args.place).ring.plan c.in-Some.packet c.in-Some-next.next (length s.outlets) c.requires.whole.routed (sym c.next.ensures.next ∙ c.in-Some-next.is) in
    omega (arith, lt, self.outlets.ok.0)

pub hand_to_at-requires-clause-within : goal.hand_to_at-requires-clause-within
hand_to_at-requires-clause-within g c =
    let self = c.args.self.now in let s : LaneState = lane_of self in
    let lt = next_within (lane_route self) (inlet_at s c.args.place).ring.plan c.in-Some.packet c.in-Some-next.next (length s.outlets) c.requires.whole.routed (sym c.next.ensures.next ∙ c.in-Some-next.is) in
    omega (arith, lt, self.outlets.ok.0)

pub returns-clause-handed : goal.returns-clause-handed
returns-clause-handed g c =
    let self = c.args.self.now in
    let s : LaneState = lane_of self in
    let then : LaneState = lane_of c.hand_to_at.new.self in
    let p : Packet = c.in-Some.packet in
    let i = c.args.place in
    let held : (inlet_at s i).held ≡ Some p =
    ap (λ (x : InletState). x.held) (at_place self.inlets.items i c.index.result.now no_inlet (omega (arith, c.requires.within, self.inlets.ok.0)) c.index.ensures) ∙ sym c.held.ensures.held ∙ c.in-Some.is in
    let inlets = c.empty_at-2.ensures.emptied ∙ ap (λ v. set v.items i (emptied (get_or v.items i no_inlet))) c.hand_to_at.ensures.inlets in
    let outlets = ap (λ v. v.items) c.empty_at-2.ensures.outlets in
    handed_on (lane_route self) s then (lane_of c.empty_at-2.new.self) i c.in-Some-next.next p held
    (sym c.next.ensures.next ∙ c.in-Some-next.is) c.hand_to_at.ensures.handed (same_lane inlets outlets)
