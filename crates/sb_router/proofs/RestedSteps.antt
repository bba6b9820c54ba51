-- What stays of a direction at one of whose rings nothing moved.
use Rattle.std.proofs.Common.{◌≡◌, ℕ, ◌<◌, length, set, refl, sym, ap, subst, arith}
use Rattle.std.proofs.lemmas.List.{length-set}
use Rattle.sb_port.specs.Ports.{PortSide, PortState}
use Rattle.sb_node.specs.Kept.{IsKeptPort}
use Rattle.sb_node.specs.Rested.{IsRestedPort, rested_port_same}
use Rattle.sb_router.specs.Lanes.{InletState, LaneState, inlet_at, no_inlet, no_port, outlet_at}
use Rattle.sb_router.specs.Rested.{IsRestedInlet, IsRestedLane, rested_inlet_same}
use Rattle.sb_router.specs.Steps.{IsTold, IsUnmoved}
use Rattle.sb_router.proofs.Places.{at_each}

pub rested_unmoved : {before after : InletState} → IsUnmoved before after → IsRestedInlet before after
rested_unmoved is = record { ring = record { plan = is.kept.plan; mark = is.kept.mark; received = is.received; learnt = is.kept.learnt }; ended = is.ended; held = is.held }

-- a port that did nothing
pub rested_state : {before after : PortSide} → IsKeptPort before after → after.state ≡ before.state → IsRestedPort before after
rested_state kept same = record {
  plan = kept.plan;
  mark = kept.mark;
  sent = ap (λ (x : PortState). x.sent) same;
  waiting = ap (λ (x : PortState). x.waiting) same;
  close_sent = ap (λ (x : PortState). x.close_sent) same;
  words_offered = ap (λ (x : PortState). x.words_offered) same;
  still_told = kept.still_told;
  learnt = kept.learnt;
}

-- a port that was told to close
pub rested_told : {before after : PortSide} → IsTold before after → IsRestedPort before after
rested_told {before} {after} is = subst (IsRestedPort before) (sym is.told) (record {
  plan = refl;
  mark = refl;
  sent = refl;
  waiting = refl;
  close_sent = refl;
  words_offered = refl;
  still_told = λ told. refl;
  learnt = omega arith;
})

pub rested_inlets : (s : LaneState) (i : ℕ) (x : InletState) → i < length s.inlets → IsRestedInlet (inlet_at s i) x → IsRestedLane s (record s { inlets = set s.inlets i x })
rested_inlets s i x lt is = record {
  inlet_count = length-set s.inlets i x;
  outlet_count = refl;
  inlets = at_each s.inlets i x no_inlet lt (λ j y. IsRestedInlet (inlet_at s j) y) is (λ j. rested_inlet_same (inlet_at s j));
  outlets = λ o. rested_port_same (outlet_at s o);
}

pub rested_outlets : (s : LaneState) (o : ℕ) (y : PortSide) → o < length s.outlets → IsRestedPort (outlet_at s o) y → IsRestedLane s (record s { outlets = set s.outlets o y })
rested_outlets s o y lt is = record {
  inlet_count = refl;
  outlet_count = length-set s.outlets o y;
  inlets = λ i. rested_inlet_same (inlet_at s i);
  outlets = at_each s.outlets o y no_port lt (λ q z. IsRestedPort (outlet_at s q) z) is (λ q. rested_port_same (outlet_at s q));
}
