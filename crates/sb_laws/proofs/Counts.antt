-- The words of some flows are counted flow by flow.
use Rattle.std.proofs.Common.{◌≡◌, ◌≤◌, ◌<◌, ◌+◌, Bool, true, false, cond, List, [], ◌∷◌, length, refl, arith}
use Rattle.std.specs.Prelude.{◌||◌, filter, sum_by}
use Rattle.std.specs.List.{list_any}
use Rattle.std.proofs.lemmas.List.Sums.{sum_by-cons}
use Rattle.sb_packet.specs.Accesses.{Access}
use Rattle.sb_packet.specs.Networks.{Network}
use Rattle.sb_link.specs.RingPlans.{NetFlow}
use Rattle.sb_laws.specs.Flows.{is_of, words_of_flow}
use Rattle.sb_laws.proofs.Sums.{sum_by_le}

module _ (network : Network) where
  -- a word is of one of these flows
  abbrev pub is_of_some : List NetFlow → Access → Bool
  is_of_some fs a = list_any (λ f. is_of network f a) fs

  one_more : (fs : List NetFlow) (a : Access) (list : List Access) → sum_by (λ f. length (words_of_flow network f list)) fs ≤ sum_by (λ f. length (words_of_flow network f (a ∷ list))) fs
  one_more fs a list = sum_by_le (λ f. length (words_of_flow network f list)) (λ f. length (words_of_flow network f (a ∷ list))) fs (λ k d below. more _ (is_of network _ a))
    where
      more : (f : NetFlow) (b : Bool) → length (words_of_flow network f list) ≤ length (cond b (a ∷ words_of_flow network f list) (words_of_flow network f list))
      more f true = omega arith
      more f false = omega arith

  one_of : (fs : List NetFlow) (a : Access) (list : List Access) → is_of_some fs a ≡ true →
      sum_by (λ f. length (words_of_flow network f list)) fs < sum_by (λ f. length (words_of_flow network f (a ∷ list))) fs
  one_of [] a list e = absurd (let never : false ≡ true = e in cc)
  one_of (f ∷ fs) a list e = by_test (is_of network f a) refl (one_of fs a list) e
    where
      here : (b : Bool) → is_of network f a ≡ b → length (words_of_flow network f (a ∷ list)) ≡ cond b 1 0 + length (words_of_flow network f list)
      here true t = rw t (omega arith)
      here false t = rw t (omega arith)

      by_test : (b : Bool) → is_of network f a ≡ b → (is_of_some fs a ≡ true → sum_by (λ g. length (words_of_flow network g list)) fs < sum_by (λ g. length (words_of_flow network g (a ∷ list))) fs) →
          (b || is_of_some fs a) ≡ true → sum_by (λ g. length (words_of_flow network g list)) (f ∷ fs) < sum_by (λ g. length (words_of_flow network g (a ∷ list))) (f ∷ fs)
      by_test true t later k =
          let rest = one_more fs a list in let h = here true t in
          omega (arith, sum_by-cons (λ (g : NetFlow). length (words_of_flow network g list)) f fs, sum_by-cons (λ (g : NetFlow). length (words_of_flow network g (a ∷ list))) f fs)
      by_test false t later k =
          let rest = later k in let h = here false t in
          omega (arith, sum_by-cons (λ (g : NetFlow). length (words_of_flow network g list)) f fs, sum_by-cons (λ (g : NetFlow). length (words_of_flow network g (a ∷ list))) f fs)

  -- the words that are of some flow are no more than the flows' words together
  pub flows_cover : (fs : List NetFlow) (list : List Access) → length (filter (is_of_some fs) list) ≤ sum_by (λ f. length (words_of_flow network f list)) fs
  flows_cover fs [] = omega arith
  flows_cover fs (a ∷ list) = by_test (is_of_some fs a) refl (flows_cover fs list)
    where
      by_test : (b : Bool) → is_of_some fs a ≡ b → length (filter (is_of_some fs) list) ≤ sum_by (λ f. length (words_of_flow network f list)) fs →
          length (cond b (a ∷ filter (is_of_some fs) list) (filter (is_of_some fs) list)) ≤ sum_by (λ f. length (words_of_flow network f (a ∷ list))) fs
      by_test true t later = let h = one_of fs a list t in omega arith
      by_test false t later = let h = one_more fs a list in omega arith
