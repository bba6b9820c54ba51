-- What a round of all groups says, by whether a node of some group moved.
use Rattle.std.proofs.Common.{◌≡◌, ⊎_elim, ℕ, ◌<◌, zero, suc, List, [], ◌∷◌, length, get_or, Bool, true, false, true≢false, sym, arith}
use Rattle.std.specs.List.{list_any}
use Rattle.std.proofs.lemmas.Bool.{or_parts, or_cases}
use Rattle.sb_link.specs.declared.answers.Turn.{Turn}
use Rattle.sb_drive.specs.SideBySide.{EachGroupRested, EachGroupRound, SomeGroupMoved, any_moved}
use Rattle.sb_drive.specs.declared.group.Group.{Group}

module _ {A : Type 0} (p : A → Bool) where
  -- where an element passes the test, it stands at some place
  some_at : (xs : List A) → list_any p xs ≡ true → (i : ℕ) × (i < length xs) × ((d : A) → p (get_or xs i d) ≡ true)
  some_at [] e = absurd (true≢false (sym e))
  some_at (x ∷ xs) e = ⊎_elim
      (λ (o : p x ≡ true). (zero, (omega arith), λ d. o))
      (λ (o : list_any p xs ≡ true). let f = some_at xs o in (suc f.0, (let l = f.1 in omega arith), f.2))
      (or_cases (p x) (list_any p xs) e)

  -- where none passes it, that at no place does
  none_at : (xs : List A) → list_any p xs ≡ false → (i : ℕ) (d : A) → i < length xs → p (get_or xs i d) ≡ false
  none_at [] e i d lt = absurd (omega arith)
  none_at (x ∷ xs) e zero d lt = (or_parts (p x) (list_any p xs) e).0
  none_at (x ∷ xs) e (suc i) d lt = none_at xs (or_parts (p x) (list_any p xs) e).1 i d (omega arith)

module _ {N : Type 0} (reaches : ℕ → N → N → Type 0) (rests : N → N → Type 0) (turns : N → ℕ → Turn → N → Type 0) (n : ℕ)
    (xs ys : List (Group N)) (same : length ys ≡ length xs) (rounds : EachGroupRound reaches rests turns n xs ys) where
  pub some_moved : any_moved ys ≡ true → SomeGroupMoved reaches turns n xs ys
  some_moved e = let f = some_at (λ (group : Group N). group.moved) ys e in
      let lt : f.0 < length xs = let l = f.1 in omega arith in (f.0, lt, λ d. (rounds f.0 d lt).some_moved (f.2 d))

  pub none_moved : any_moved ys ≡ false → EachGroupRested rests turns n xs ys
  none_moved e i d lt = let l : i < length ys = omega arith in (rounds i d lt).rested_turns (none_at (λ (group : Group N). group.moved) ys e i d l)
