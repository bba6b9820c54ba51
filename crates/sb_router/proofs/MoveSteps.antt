-- How much goes through with each step.
use Rattle.std.proofs.Common.{◌≡◌, ℕ, ◌<◌, ◌+◌, ◌||◌, Bool, true, false, [], ◌∷◌, length, set, Some, refl, ap, ◌∙◌, arith, length-append}
use Rattle.std.proofs.lemmas.List.Sums.{sum_by-set}
use Rattle.sb_packet.specs.declared.packet.Packet.{Packet}
use Rattle.sb_packet.specs.declared.item.Item.{Item}
use Rattle.sb_node.specs.Kept.{IsKeptPort}
use Rattle.sb_node.specs.Sides.{port_moves}
use Rattle.sb_node.proofs.Answering.{moves_kept}
use Rattle.sb_router.specs.Lanes.{InletState, LaneState, inlet_at, no_inlet, no_port, outlet_at}
use Rattle.sb_port.specs.Ports.{PortSide}
use Rattle.sb_router.specs.Steps.{IsTakenByInlet, IsUnmoved, emptied}
use Rattle.sb_router.specs.Rested.{IsToldMoved, free_count, inlet_moves, lane_moves}

-- nothing went through
pub moved_none : (s : LaneState) → IsToldMoved s s false
moved_none s = record { more = λ e. let no_way : ⊥ = cc in absurd no_way; none = λ _. refl }

-- one thing after another went through
pub moved_then : {s t u : LaneState} (a b : Bool) → IsToldMoved s t a → IsToldMoved t u b → IsToldMoved s u (a || b)
moved_then {s} {t} {u} true true x y = record { more = λ _. let p = x.more refl in let q = y.more refl in omega (arith, p, q); none = λ e. let no_way : ⊥ = cc in absurd no_way }
moved_then {s} {t} {u} true false x y = record { more = λ _. let p = x.more refl in let q = y.none refl in omega (arith, p, q); none = λ e. let no_way : ⊥ = cc in absurd no_way }
moved_then {s} {t} {u} false true x y = record { more = λ _. let p = x.none refl in let q = y.more refl in omega (arith, p, q); none = λ e. let no_way : ⊥ = cc in absurd no_way }
moved_then {s} {t} {u} false false x y = record { more = λ e. let no_way : ⊥ = cc in absurd no_way; none = λ _. y.none refl ∙ x.none refl }

pub inlet_received : (before after : InletState) (item : Item) → IsTakenByInlet before after item → inlet_moves before < inlet_moves after
inlet_received before after item is = let long = ap length is.received ∙ length-append before.ring.received (item ∷ []) in let free = ap free_count is.free in omega (arith, long, free)

pub inlet_unmoved : (before after : InletState) → IsUnmoved before after → inlet_moves after ≡ inlet_moves before
inlet_unmoved before after is = let long = ap length is.received in let free = ap free_count is.held in omega (arith, long, free)

pub inlet_emptied : (before : InletState) (p : Packet) → before.held ≡ Some p → inlet_moves before < inlet_moves (emptied before)
inlet_emptied before p held = let none : free_count before.held ≡ 0 = ap free_count held in omega (arith, none)

module _ (s : LaneState) where
  pub inlet_sum : (i : ℕ) (x : InletState) → i < length s.inlets → lane_moves (record s { inlets = set s.inlets i x }) + inlet_moves (inlet_at s i) ≡ lane_moves s + inlet_moves x
  inlet_sum i x lt = let sum = sum_by-set inlet_moves s.inlets i x no_inlet lt in omega (arith, sum)

  pub outlet_sum : (o : ℕ) (y : PortSide) → o < length s.outlets → lane_moves (record s { outlets = set s.outlets o y }) + port_moves (outlet_at s o) ≡ lane_moves s + port_moves y
  outlet_sum o y lt = let sum = sum_by-set port_moves s.outlets o y no_port lt in omega (arith, sum)

  -- a ring was set at which more went through, or as much
  pub inlet_more : (i : ℕ) (x : InletState) → i < length s.inlets → inlet_moves (inlet_at s i) < inlet_moves x → IsToldMoved s (record s { inlets = set s.inlets i x }) true
  inlet_more i x lt more = record { more = λ _. omega (arith, more, inlet_sum i x lt); none = λ e. let no_way : ⊥ = cc in absurd no_way }

  pub inlet_same : (i : ℕ) (x : InletState) → i < length s.inlets → inlet_moves x ≡ inlet_moves (inlet_at s i) → IsToldMoved s (record s { inlets = set s.inlets i x }) false
  inlet_same i x lt same = record { more = λ e. let no_way : ⊥ = cc in absurd no_way; none = λ _. omega (arith, same, inlet_sum i x lt) }

  pub outlet_more : (o : ℕ) (y : PortSide) → o < length s.outlets → port_moves (outlet_at s o) < port_moves y → IsToldMoved s (record s { outlets = set s.outlets o y }) true
  outlet_more o y lt more = record { more = λ _. omega (arith, more, outlet_sum o y lt); none = λ e. let no_way : ⊥ = cc in absurd no_way }

  pub outlet_same : (o : ℕ) (y : PortSide) → o < length s.outlets → port_moves y ≡ port_moves (outlet_at s o) → IsToldMoved s (record s { outlets = set s.outlets o y }) false
  outlet_same o y lt same = record { more = λ e. let no_way : ⊥ = cc in absurd no_way; none = λ _. omega (arith, same, outlet_sum o y lt) }

  -- a packet that was held was handed on to a port
  pub both_more : (i o : ℕ) (p : Packet) (y : PortSide) → i < length s.inlets → o < length s.outlets → (inlet_at s i).held ≡ Some p → IsKeptPort (outlet_at s o) y
      → IsToldMoved s (record { inlets = set s.inlets i (emptied (inlet_at s i)); outlets = set s.outlets o y }) true
  both_more i o p y lt within held kept = record {
    more = λ _.
        let in_sum = sum_by-set inlet_moves s.inlets i (emptied (inlet_at s i)) no_inlet lt in
        let out_sum = sum_by-set port_moves s.outlets o y no_port within in
        let more = inlet_emptied (inlet_at s i) p held in let port = moves_kept kept in omega (arith, in_sum, out_sum, more, port);
    none = λ e. let no_way : ⊥ = cc in absurd no_way;
  }
