-- Values that are taken out of a closed table, one after another.
use Rattle.std.proofs.Common.{◌≡◌, ◌≢◌, ℕ, zero, suc, ◌+◌, ◌-◌, ◌<◌, ◌≤◌, Bool, true, false, List, [], ◌∷◌, ◌++◌, length, get_or, set, sym, ap, ◌∙◌, arith}
use Rattle.std.proofs.lemmas.List.{get_or-set_other, get_or_append_left, get_or-append_right}
use Rattle.std.proofs.lemmas.Grind.{get_or-set_at}
use mathlib.Core.Option.{some, some-injective, some-ne-none}
use mathlib.Core.Logic.{dite}
use native.Mathlib.Decide.{ℕ_discrete}
use lib.ListN.{get_elem?}

module _ {S : Type 0} where
  pub read : (xs : List S) (i : ℕ) (x d : S) → get_elem? xs i ≡ some x → get_or xs i d ≡ x
  read [] i x d e = absurd (some-ne-none x (sym e))
  read (y ∷ ys) zero x d e = some-injective y x e
  read (y ∷ ys) (suc i) x d e = read ys i x d e

  -- those below a place are in the list, and their places are empty
  pub record IsTaking (count capacity place : ℕ) (xs : List S) (fs : List Bool) (ys : List S) : Type 0 where
    pub within : place ≤ count
    pub long : length fs ≡ count
    pub taken : length ys ≡ place
    pub same : (k : ℕ) (d : S) → k < place → get_or ys k d ≡ get_or xs k d
    pub there : (k : ℕ) → place ≤ k → k < count → get_or fs k false ≡ true
    pub gone : (k : ℕ) → k < place → get_or fs k false ≡ false

  pub take_next : (count capacity place : ℕ) (xs : List S) (fs : List Bool) (ys : List S) (x : S) → IsTaking count capacity place xs fs ys → place < count → get_elem? xs place ≡ some x
      → length (set fs place false) ≡ count → length (ys ++ x ∷ []) ≡ place + 1 → IsTaking count capacity (place + 1) xs (set fs place false) (ys ++ x ∷ [])
  take_next count capacity place xs fs ys x t lt at long more = record {
    within = omega arith;
    long = long;
    taken = more;
    same = λ k d below. dite (ℕ_discrete k place)
        (λ (e : k ≡ place). let z : k - place ≡ 0 = omega arith in
        get_or-append_right ys (x ∷ []) place k d t.taken (omega arith) ∙ (ap (λ j. get_or (x ∷ []) j d) z ∙ sym (read xs k x d (ap (λ j. get_elem? xs j) e ∙ at))))
        (λ (ne : k ≢ place). let l = t.taken in get_or_append_left ys (x ∷ []) d k (omega arith) ∙ t.same k d (omega arith));
    there = λ k from below. get_or-set_other fs place k false false (λ e. omega arith) ∙ t.there k (omega arith) below;
    gone = λ k below. dite (ℕ_discrete k place)
        (λ (e : k ≡ place). let l = t.long in get_or-set_at fs place k false false e (omega arith))
        (λ (ne : k ≢ place). get_or-set_other fs place k false false ne ∙ t.gone k (omega arith));
  }

abbrev pub head_or : {S : Type 0} → S → List (ℕ × S) → S
head_or d [] = d
head_or d (p ∷ ps) = p.1

-- two lists that begin with a pair each begin with one value
pub first_is : {S : Type 0} {i j : ℕ} {x y : S} {xs ys : List (ℕ × S)} → (i, x) ∷ xs ≡ (j, y) ∷ ys → x ≡ y
first_is {S} {i} {j} {x} {y} {xs} {ys} e = ap (λ l. head_or x l) e
