-- The ends of some legs, taken from one leg after another.
use Rattle.std.proofs.Common.{◌≡◌, ◌<◌, List, [], ◌∷◌, ◌++◌, length, map, remove, get_or, All, refl, sym, ap, ◌∙◌, subst, arith, append_assoc}
use Rattle.std.proofs.lemmas.List.{append-nil}
use Rattle.std.proofs.lemmas.List.Elements.{All-head, All-nil, All-tail}
use Rattle.sb_router.specs.Lanes.{InletState, IsFreshPair, fresh_inlet}
use Rattle.sb_port.specs.Ports.{PortSide, fresh_port}
use Rattle.sb_router.specs.Forwarding.{IsWholeOutlet}
use Rattle.sb_link.specs.declared.ends.RxEnd as rx
use Rattle.sb_link.specs.declared.ends.TxEnd as tx

-- a list is its first element and the rest
pub first_and_rest : {X : Type 0} (xs rest : List X) (x : X) → 0 < length xs → x ≡ get_or xs 0 x → rest ≡ remove xs 0 → xs ≡ x ∷ rest
first_and_rest [] rest x lt e r = absurd (omega arith)
first_and_rest {X} (y ∷ ys) rest x lt e r = ap (λ (z : X). z ∷ ys) (sym e) ∙ ap (λ (l : List X). x ∷ l) (sym r)

nothing_left : {X : Type 0} (xs : List X) → length xs ≡ 0 → xs ≡ []
nothing_left [] e = refl
nothing_left (x ∷ xs) e = absurd (omega arith)

-- what was made, and then what the rest makes
one_made : {X Y : Type 0} (f : X → Y) (made made_then all : List Y) (xs rest : List X) (x : X) → xs ≡ x ∷ rest → made_then ≡ made ++ f x ∷ [] → made ++ map f xs ≡ all → made_then ++ map f rest ≡ all
one_made {X} {Y} f made made_then all xs rest x split more before =
    ap (λ (l : List Y). l ++ map f rest) more ∙ append_assoc made (f x ∷ []) (map f rest) ∙ sym (ap (λ (l : List X). made ++ map f l) split) ∙ before

all_made : {X Y : Type 0} (f : X → Y) (made all : List Y) (xs : List X) → length xs ≡ 0 → made ++ map f xs ≡ all → made ≡ all
all_made {X} {Y} f made all xs none before = sym (append-nil made) ∙ sym (ap (λ (l : List X). made ++ map f l) (nothing_left xs none)) ∙ before

-- what holds of all legs holds of the first one and of the rest
of_first : {X : Type 0} (P : X → Type 0) (xs rest : List X) (x : X) → xs ≡ x ∷ rest → All P xs → P x
of_first P xs rest x split all = All-head P x rest (subst (All P) split all)

of_rest : {X : Type 0} (P : X → Type 0) (xs rest : List X) (x : X) → xs ≡ x ∷ rest → All P xs → All P rest
of_rest P xs rest x split all = All-tail P x rest (subst (All P) split all)

module _ {L T U : Type 0} (sending : tx.Ghosts T) (receiving : rx.Ghosts U) (from : L → U) (to : L → T) where
  abbrev inlets_of : List L → List InletState
  inlets_of legs = map (λ leg. fresh_inlet receiving (from leg)) legs

  abbrev outlets_of : List L → List PortSide
  outlets_of legs = map (λ leg. fresh_port sending (to leg)) legs

  abbrev IsFreshLeg : L → Type 0
  IsFreshLeg leg = IsFreshPair sending receiving (to leg) (from leg)

  -- The ends that were taken, and then those of the legs that are left, are those of all legs.
  pub record TakenSoFar (all left : List L) (inlets : List InletState) (outlets : List PortSide) : Type 0 where
    pub fresh : All IsFreshLeg left
    pub inlets_are : inlets ++ inlets_of left ≡ inlets_of all
    pub outlets_are : outlets ++ outlets_of left ≡ outlets_of all
    pub whole : All IsWholeOutlet outlets

  pub none_taken : (all : List L) (inlets : List InletState) (outlets : List PortSide) → inlets ≡ [] → outlets ≡ [] → All IsFreshLeg all → TakenSoFar all all inlets outlets
  none_taken all inlets outlets no_inlets no_ports fresh = record {
    fresh = fresh;
    inlets_are = ap (λ l. l ++ inlets_of all) no_inlets;
    outlets_are = ap (λ l. l ++ outlets_of all) no_ports;
    whole = subst (All IsWholeOutlet) (sym no_ports) (All-nil IsWholeOutlet);
  }

  module _ {all left rest : List L} {leg : L} {inlets : List InletState} {outlets : List PortSide} (split : left ≡ leg ∷ rest) (taken : TakenSoFar all left inlets outlets) where
    pub next_is_fresh : IsFreshLeg leg
    next_is_fresh = of_first IsFreshLeg left rest leg split taken.fresh

    pub one_taken : {more_inlets : List InletState} {more_outlets : List PortSide} → more_inlets ≡ inlets ++ fresh_inlet receiving (from leg) ∷ [] → more_outlets ≡ outlets ++ fresh_port sending (to leg) ∷ []
        → (All IsWholeOutlet outlets → All IsWholeOutlet more_outlets) → TakenSoFar all rest more_inlets more_outlets
    one_taken {more_inlets} {more_outlets} inlet outlet whole = record {
      fresh = of_rest IsFreshLeg left rest leg split taken.fresh;
      inlets_are = one_made (λ leg. fresh_inlet receiving (from leg)) inlets more_inlets (inlets_of all) left rest leg split inlet taken.inlets_are;
      outlets_are = one_made (λ leg. fresh_port sending (to leg)) outlets more_outlets (outlets_of all) left rest leg split outlet taken.outlets_are;
      whole = whole taken.whole;
    }

  module _ {all left : List L} {inlets : List InletState} {outlets : List PortSide} (none_left : length left ≡ 0) (taken : TakenSoFar all left inlets outlets) where
    pub all_inlets : inlets ≡ inlets_of all
    all_inlets = all_made (λ leg. fresh_inlet receiving (from leg)) inlets (inlets_of all) left none_left taken.inlets_are

    pub all_outlets : outlets ≡ outlets_of all
    all_outlets = all_made (λ leg. fresh_port sending (to leg)) outlets (outlets_of all) left none_left taken.outlets_are
