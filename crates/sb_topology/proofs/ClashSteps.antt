-- The first clash of a list, one item after another.
use Rattle.std.proofs.Common.{◌≡◌, ◌<◌, ℕ, ◌+◌, Bool, List, [], ◌∷◌, length, take, drop, get_or, map, refl, ◌∙◌, arith, add-one, drop-cons, Option, Some, None}
use Rattle.std.specs.Prelude.{option_map}
use Rattle.std.specs.List.{position_from}
use Rattle.std.specs.Option.{option_or}
use Rattle.std.proofs.lemmas.List.{length-map, length-take-le, map-append, take_more}
use Rattle.sb_flow.specs.Accepted.{Clash, clash_behind}

module _ {A B : Type 0} (clash : B → B → Bool) (see : A → B) (xs : List A) (i : ℕ) (x : A) (below : i < length xs) (here : x ≡ get_or xs i x) where
  many : length (map see (take i xs)) ≡ i
  many = length-map (take i xs) see ∙ length-take-le i xs (omega arith)

  -- the next item clashes with one before it, or what clashes is ahead
  next : clash_behind clash (map see (take i xs)) (map see (drop i xs))
      ≡ option_or (option_map {U = Clash} (λ earlier. record { at = length (map see (take i xs)); earlier = earlier }) (position_from (λ y. clash (see x) y) 0 (map see (take i xs)))) (clash_behind clash (map see (take (i + 1) xs)) (map see (drop (i + 1) xs)))
  next = rw (drop-cons xs i x below, take_more xs i x below, map-append see (take i xs) (get_or xs i x ∷ []), add-one i, ← here) refl

  pub clash_here : (whole : Option Clash) (k : ℕ) → whole ≡ clash_behind clash (map see (take i xs)) (map see (drop i xs)) → position_from (λ y. clash (see x) y) 0 (map see (take i xs)) ≡ Some k → whole ≡ Some (record { at = i; earlier = k })
  clash_here whole k so_far at = so_far ∙ next ∙ (rw (at, many) refl)

  pub clash_ahead : (whole : Option Clash) → whole ≡ clash_behind clash (map see (take i xs)) (map see (drop i xs)) → position_from (λ y. clash (see x) y) 0 (map see (take i xs)) ≡ None → whole ≡ clash_behind clash (map see (take (i + 1) xs)) (map see (drop (i + 1) xs))
  clash_ahead whole so_far none = so_far ∙ next ∙ (rw none refl)
