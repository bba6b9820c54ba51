-- Tables while they are filled.
use Rattle.std.proofs.Common.{◌≡◌, ◌⊎◌, inl, inr, ℕ, zero, suc, ◌<◌, ◌+◌, List, [], ◌∷◌, ◌++◌, length, set, replicate, get_or, Option, Some, None, IfSome, refl, sym, ap, ◌∙◌, subst, arith}
use Rattle.std.proofs.lemmas.List.{get_or_append_left, get_or_push}
use Rattle.sb_router.proofs.Cases.{le_cases}
use Rattle.sb_router.proofs.Places.{at_each, so_far}

-- a row begins with nothing
pub row_none : (n j o bound : ℕ) → get_or (replicate n None) j None ≡ Some o → o < bound
row_none zero j o bound e = let no_way : ⊥ = cc in absurd no_way
row_none (suc n) zero o bound e = let no_way : ⊥ = cc in absurd no_way
row_none (suc n) (suc j) o bound e = row_none n j o bound e

-- one more place of a row
pub row_more : (row : List (Option ℕ)) (k : ℕ) (v : Option ℕ) (p : ℕ → Option ℕ) → k < length row → v ≡ p k → ((j : ℕ) → j < k → get_or row j None ≡ p j) → (j : ℕ) → j < k + 1 → get_or (set row k v) j None ≡ p j
row_more row k v p lt is = so_far row k v None lt (λ j x. x ≡ p j) is

-- all places of a row are within a bound
pub row_within : (row : List (Option ℕ)) (k n : ℕ) (v : Option ℕ) → k < length row → IfSome v (λ o. o < n) → ((j o : ℕ) → get_or row j None ≡ Some o → o < n) → (j o : ℕ) → get_or (set row k v) j None ≡ Some o → o < n
row_within row k n v lt bound = at_each row k v None lt (λ _ x. (o : ℕ) → x ≡ Some o → o < n) (some_within v bound)
  where
    some_within : (x : Option ℕ) → IfSome x (λ q. q < n) → (o : ℕ) → x ≡ Some o → o < n
    some_within (Some q) b o e = let same : q ≡ o = cc in subst (λ (r : ℕ). r < n) same b
    some_within None b o e = let no_way : ⊥ = cc in absurd no_way

-- what stands at a place of a list that grew by one
pub push_cases : {X : Type 0} (xs : List X) (y d : X) (i : ℕ) → ((i < length xs) × (get_or (xs ++ y ∷ []) i d ≡ get_or xs i d)) ⊎ (((i ≡ length xs) × (get_or (xs ++ y ∷ []) i d ≡ y)) ⊎ (get_or (xs ++ y ∷ []) i d ≡ d))
push_cases [] y d zero = inr (inl (refl, refl))
push_cases [] y d (suc i) = inr (inr refl)
push_cases (x ∷ xs) y d zero = inl (omega arith, refl)
push_cases (x ∷ xs) y d (suc i) = elim (push_cases xs y d i) [
  | inl w ↦ inl (omega (arith, w.0), w.1)
  | inr rest ↦ elim rest [
    | inl w ↦ inr (inl (omega (arith, w.0), w.1))
    | inr w ↦ inr (inr w)
  ]
]

-- one more row of a table
pub rows_more : (rows : List (List (Option ℕ))) (row : List (Option ℕ)) (h : ℕ) (p : ℕ → ℕ → Option ℕ) → length rows ≡ h → ((d : ℕ) → d < 32 → get_or row d None ≡ p h d)
    → ((i d : ℕ) → i < h → d < 32 → get_or (get_or rows i []) d None ≡ p i d) → (i d : ℕ) → i < h + 1 → d < 32 → get_or (get_or (rows ++ row ∷ []) i []) d None ≡ p i d
rows_more rows row h p long here before i d below lt = elim (le_cases i h below) [
  | inl earlier ↦ elim (push_cases rows row [] i) [
    | inl w ↦ ap (λ (r : List (Option ℕ)). get_or r d None) w.1 ∙ before i d earlier lt
    | inr rest ↦ ap (λ (r : List (Option ℕ)). get_or r d None) (get_or_append_left rows (row ∷ []) [] i (omega (arith, earlier, long))) ∙ before i d earlier lt
  ]
  | inr same ↦ ap (λ (r : List (Option ℕ)). get_or r d None) (get_or_push rows row [] i (long ∙ sym same)) ∙ here d lt ∙ ap (λ (j : ℕ). p j d) (sym same)
]

-- all places of a table are within a bound
pub rows_within : (rows : List (List (Option ℕ))) (row : List (Option ℕ)) (n : ℕ) → ((d o : ℕ) → get_or row d None ≡ Some o → o < n)
    → ((i d o : ℕ) → get_or (get_or rows i []) d None ≡ Some o → o < n) → (i d o : ℕ) → get_or (get_or (rows ++ row ∷ []) i []) d None ≡ Some o → o < n
rows_within rows row n here before i d o e = elim (push_cases rows row [] i) [
  | inl w ↦ before i d o (sym (ap (λ (r : List (Option ℕ)). get_or r d None) w.1) ∙ e)
  | inr rest ↦ elim rest [
    | inl w ↦ here d o (sym (ap (λ (r : List (Option ℕ)). get_or r d None) w.1) ∙ e)
    | inr w ↦ let none : get_or (get_or (rows ++ row ∷ []) i []) d None ≡ None = ap (λ (r : List (Option ℕ)). get_or r d None) w in let no_way : ⊥ = cc in absurd no_way
  ]
]
