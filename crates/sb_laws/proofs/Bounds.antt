-- A bound on the rounds in which a node moves: in each of them the rings together are used more.
use Rattle.std.proofs.Common.{◌≡◌, ◌≤◌, ◌<◌, ℕ, zero, suc, ◌+◌, ◌*◌, Bool, true, false, cond, List, [], ◌∷◌, refl, sym, arith, length, subst}
use Rattle.std.specs.Prelude.{sum_by, All, Any}
use Rattle.std.proofs.lemmas.List.Elements.{All-head, All-tail, All-weaker}
use Rattle.std.proofs.lemmas.List.Sums.{sum_by-cons}
use Rattle.sb_laws.specs.Moves.{RingUse, IsKept, IsMoveAtRing, offers, lets_go, sends, pops, handles, sends_close, pops_close, IsWithinBudget, AreMovingRounds, move_bound}
use Rattle.sb_laws.proofs.Sums.{sum_by_le}

-- how much has been done at a ring
abbrev used : RingUse → ℕ
used a = a.offered + a.let_go + a.sent + a.received + a.handled + cond a.closed 1 0 + cond a.ended 1 0

bit_kept : (a b : Bool) → (a ≡ true → b ≡ true) → cond a 1 0 ≤ cond b 1 0
bit_kept false b h = omega arith
bit_kept true b h = let is : b ≡ true = h refl in rw is (omega arith)

bit_most : (a : Bool) → cond a 1 0 ≤ 1
bit_most false = omega arith
bit_most true = omega arith

bit_moved : (a b : Bool) → a ≡ false → b ≡ true → cond a 1 0 < cond b 1 0
bit_moved a b e f = rw (e, f) (omega arith)

used_kept : (a b : RingUse) → IsKept a b → used a ≤ used b
used_kept a b kept = let closed = bit_kept a.closed b.closed kept.closed in let ended = bit_kept a.ended b.ended kept.ended in omega arith

used_moved : (a b : RingUse) → IsKept a b → IsMoveAtRing a b → used a < used b
used_moved a b kept (offers m) = let closed = bit_kept a.closed b.closed kept.closed in let ended = bit_kept a.ended b.ended kept.ended in omega arith
used_moved a b kept (lets_go m) = let closed = bit_kept a.closed b.closed kept.closed in let ended = bit_kept a.ended b.ended kept.ended in omega arith
used_moved a b kept (sends m) = let closed = bit_kept a.closed b.closed kept.closed in let ended = bit_kept a.ended b.ended kept.ended in omega arith
used_moved a b kept (pops m) = let closed = bit_kept a.closed b.closed kept.closed in let ended = bit_kept a.ended b.ended kept.ended in omega arith
used_moved a b kept (handles m) = let closed = bit_kept a.closed b.closed kept.closed in let ended = bit_kept a.ended b.ended kept.ended in omega arith
used_moved a b kept (sends_close m n) = let closed = bit_moved a.closed b.closed m n in let ended = bit_kept a.ended b.ended kept.ended in omega arith
used_moved a b kept (pops_close m n) = let closed = bit_kept a.closed b.closed kept.closed in let ended = bit_moved a.ended b.ended m n in omega arith

used_within : (budget : ℕ) (a : RingUse) → IsWithinBudget budget a → used a ≤ 2 * (4 * (budget + 1))
used_within budget a within = let closed = bit_most a.closed in let ended = bit_most a.ended in omega arith

-- where no number falls and one rises, the sum rises
sum_by_lt : (f g : ℕ → ℕ) (rs : List ℕ) → All (λ r. f r ≤ g r) rs → Any (λ r. f r < g r) rs → sum_by f rs < sum_by g rs
sum_by_lt f g [] all (k, x, inside, is, more) = absurd (omega arith)
sum_by_lt f g (r ∷ rs) all (zero, x, inside, is, more) =
    let rest = sum_by_le f g rs (All-tail (λ r. f r ≤ g r) r rs all) in
    let same : x ≡ r = sym is in
    let here : f r < g r = subst (λ (y : ℕ). f y < g y) same more in
    omega (arith, sum_by-cons f r rs, sum_by-cons g r rs)
sum_by_lt f g (r ∷ rs) all (suc k, x, inside, is, more) =
    let rest = sum_by_lt f g rs (All-tail (λ r. f r ≤ g r) r rs all) (k, x, omega arith, is, more) in
    let here : f r ≤ g r = All-head (λ r. f r ≤ g r) r rs all in
    omega (arith, sum_by-cons f r rs, sum_by-cons g r rs)

module _ (rings : List ℕ) (budget : ℕ → ℕ) where
  more_used : (a b : ℕ → RingUse) → All (λ r. IsKept (a r) (b r)) rings → Any (λ r. IsMoveAtRing (a r) (b r)) rings → sum_by (λ r. used (a r)) rings < sum_by (λ r. used (b r)) rings
  more_used a b kept (k, r, inside, is, moved) =
      sum_by_lt (λ r. used (a r)) (λ r. used (b r)) rings (All-weaker (λ r. IsKept (a r) (b r)) (λ r. used (a r) ≤ used (b r)) (λ r h. used_kept (a r) (b r) h) rings kept)
      (k, r, inside, is, used_moved (a r) (b r) (subst (λ (q : ℕ). IsKept (a q) (b q)) is (kept k r inside)) moved)

  rounds_from : (a : ℕ → RingUse) (later : List (ℕ → RingUse)) → All (λ r. IsWithinBudget (budget r) (a r)) rings → AreMovingRounds rings a later →
      All (λ b. All (λ r. IsWithinBudget (budget r) (b r)) rings) later → sum_by (λ r. used (a r)) rings + length later ≤ move_bound rings budget
  rounds_from a [] within moves all =
      let most = sum_by_le (λ r. used (a r)) (λ r. 2 * (4 * (budget r + 1))) rings
      (All-weaker (λ r. IsWithinBudget (budget r) (a r)) (λ r. used (a r) ≤ 2 * (4 * (budget r + 1))) (λ r h. used_within (budget r) (a r) h) rings within) in omega arith
  rounds_from a (b ∷ later) within moves all =
      let rest = rounds_from b later (All-head (λ b. All (λ r. IsWithinBudget (budget r) (b r)) rings) b later all) moves.1 (All-tail (λ b. All (λ r. IsWithinBudget (budget r) (b r)) rings) b later all) in
      let more = more_used a b moves.0.kept moves.0.moved in
      omega arith

  pub bound_law : (a : ℕ → RingUse) (later : List (ℕ → RingUse)) → All (λ r. IsWithinBudget (budget r) (a r)) rings → AreMovingRounds rings a later →
      All (λ b. All (λ r. IsWithinBudget (budget r) (b r)) rings) later → length later ≤ move_bound rings budget
  bound_law a later within moves all = let bound = rounds_from a later within moves all in omega arith
