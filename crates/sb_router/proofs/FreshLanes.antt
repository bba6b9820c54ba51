-- A direction at whose rings nothing happened yet.
use Rattle.std.proofs.Common.{◌≡◌, ℕ, ◌<◌, false, List, [], ◌∷◌, ◌++◌, length, map, get_or, All, Some, refl, sym, ap, ◌∙◌, subst, arith, zero, suc}
use Rattle.std.specs.Prelude.{sum_by}
use Rattle.std.proofs.lemmas.List.{length-map}
use Rattle.std.proofs.lemmas.List.Elements.{All-cons, All-nil}
use Rattle.std.proofs.lemmas.List.Sums.{sum_by-cons}
use Rattle.sb_packet.specs.Accesses.{Access}
use Rattle.sb_link.specs.RingPlans.{NetFlow}
use Rattle.sb_link.specs.Prefixes.{IsSubsequence, none}
use Rattle.sb_port.specs.Ports.{PortSide, fresh_port, offered_words}
use Rattle.sb_node.specs.Sides.{received_words}
use Rattle.sb_router.specs.Lanes.{InletState, LaneState, Route, fresh_inlet, held_words, no_inlet, no_port}
use Rattle.sb_router.specs.Forwarding.{Forwards, IsWholeInlet, IsWholeLane, IsWholeOutlet, Words, held_for, part}
use Rattle.sb_router.proofs.SameLane.{same_lane}
use Rattle.sb_link.specs.declared.ends.RxEnd as rx
use Rattle.sb_link.specs.declared.ends.TxEnd as tx

module _ {T U A B : Type 0} (sending : tx.Ghosts T) (receiving : rx.Ghosts U) (from : A → U) (to : B → T) where
  -- the rings that come in, and those that go out
  abbrev pub inlets : List A → List InletState
  inlets ins = map (λ a. fresh_inlet receiving (from a)) ins

  abbrev pub outlets : List B → List PortSide
  outlets outs = map (λ b. fresh_port sending (to b)) outs

  whole_inlet : (u : U) → IsWholeInlet (fresh_inlet receiving u)
  whole_inlet u = record { ended = refl; last = λ p e. let no_way : ⊥ = cc in absurd no_way; carriable = λ p e. let no_way : ⊥ = cc in absurd no_way }

  whole_inlets : (ins : List A) → All IsWholeInlet (inlets ins)
  whole_inlets [] = All-nil IsWholeInlet
  whole_inlets (a ∷ ins) = All-cons IsWholeInlet (fresh_inlet receiving (from a)) (inlets ins) (whole_inlet (from a)) (whole_inlets ins)

  unclosed : (outs : List B) (o : ℕ) → (get_or (outlets outs) o no_port).state.close_requested ≡ false
  unclosed [] o = refl
  unclosed (b ∷ outs) zero = refl
  unclosed (b ∷ outs) (suc o) = unclosed outs o

  unoffered : (outs : List B) (o : ℕ) → offered_words (get_or (outlets outs) o no_port) ≡ []
  unoffered [] o = refl
  unoffered (b ∷ outs) zero = refl
  unoffered (b ∷ outs) (suc o) = unoffered outs o

  unheld : (ins : List A) (i : ℕ) → held_words (get_or (inlets ins) i no_inlet).held ≡ []
  unheld [] i = refl
  unheld (a ∷ ins) zero = refl
  unheld (a ∷ ins) (suc i) = unheld ins i

  nothing_came : (ins : List A) (i : ℕ) → received_words (get_or (inlets ins) i no_inlet).ring ≡ []
  nothing_came [] i = refl
  nothing_came (a ∷ ins) zero = refl
  nothing_came (a ∷ ins) (suc i) = nothing_came ins i

  none_held : (words : Words) (o : ℕ) (ins : List A) → sum_by (held_for words o) (inlets ins) ≡ 0
  none_held words o [] = refl
  none_held words o (a ∷ ins) = let rest = none_held words o ins in
      let here : held_for words o (fresh_inlet receiving (from a)) ≡ 0 = refl in omega (arith, rest, here, sum_by-cons (held_for words o) (fresh_inlet receiving (from a)) (inlets ins))

  fresh_forwards : (words : Words) (route : Route) (ins : List A) (outs : List B) → Forwards words route (record { inlets = inlets ins; outlets = outlets outs })
  fresh_forwards words route ins outs = record {
    few = λ o. let held = none_held words o ins in let offered = ap length (unoffered outs o) in omega (arith, held, offered);
    picks = λ f i o passes.
        subst (λ (l : List Access). IsSubsequence (part words f l ++ part words f (held_words (get_or (inlets ins) i no_inlet).held)) (part words f (received_words (get_or (inlets ins) i no_inlet).ring))) (sym (unoffered outs o))
        (subst (λ (l : List Access). IsSubsequence (part words f l) (part words f (received_words (get_or (inlets ins) i no_inlet).ring))) (sym (unheld ins i)) none);
    whole = λ f i o passes sound room.
        ap (part words f) (nothing_came ins i) ∙ sym (ap (λ (l : List Access). part words f l ++ part words f (held_words (get_or (inlets ins) i no_inlet).held)) (unoffered outs o)
        ∙ ap (part words f) (unheld ins i));
  }

  fresh_whole : (route : Route) (ins : List A) (outs : List B) → All IsWholeOutlet (outlets outs) → ((f : NetFlow) (o : ℕ) → route f ≡ Some o → o < length outs) → IsWholeLane route (record { inlets = inlets ins; outlets = outlets outs })
  fresh_whole route ins outs whole routed = record {
    inlets = whole_inlets ins;
    outlets = whole;
    silent = λ o lt told. let open' = unclosed outs o in let no_way : ⊥ = cc in absurd no_way;
    routed = λ f o e. let lt = routed f o e in omega (arith, lt, length-map outs (λ b. fresh_port sending (to b)));
  }

  module _ (route : Route) (s : LaneState) (ins : List A) (outs : List B) (same_in : s.inlets ≡ inlets ins) (same_out : s.outlets ≡ outlets outs) where
    pub lane_forwards : (words : Words) → Forwards words route s
    lane_forwards words = subst (λ (t : LaneState). Forwards words route t) (sym (same_lane same_in same_out)) (fresh_forwards words route ins outs)

    pub lane_whole : All IsWholeOutlet s.outlets → ((f : NetFlow) (o : ℕ) → route f ≡ Some o → o < length outs) → IsWholeLane route s
    lane_whole whole routed = subst (λ (t : LaneState). IsWholeLane route t) (sym (same_lane same_in same_out)) (fresh_whole route ins outs (subst (λ (l : List PortSide). All IsWholeOutlet l) same_out whole) routed)
