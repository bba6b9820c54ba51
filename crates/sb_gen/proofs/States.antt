-- Draws from a state on are later draws of the number that it came from.
use Rattle.std.proofs.Common.{◌≡◌, ℕ, zero, suc, ◌+◌, ◌*◌, ◌/◌, ◌%◌, ◌^◌, ap, arith, refl, ◌∙◌}
use Rattle.std.proofs.Math.Nat.{add-suc, mod-add-mod}
use Rattle.sb_gen.specs.Congruence.{draw, next_state, state_after}

-- some draws, and then so many more
pub state_after_more : (number m n : ℕ) → state_after (state_after number m) n ≡ state_after number (m + n)
unfolding state_after
state_after_more number m zero = let same : m ≡ m + 0 = omega arith in ap (state_after number) same
state_after_more number m (suc n) = rw add-suc (ap next_state (state_after_more number m n))

-- a draw from a state on
pub draw_behind : (number m k : ℕ) → draw (state_after number m) k ≡ draw number (m + k)
unfolding draw
draw_behind number m k =
    let same : m + (k + 1) ≡ m + k + 1 = omega arith in
    ap (λ (state : ℕ). state / 2 ^ 33) (state_after_more number m (k + 1) ∙ ap (state_after number) same)

-- one draw more, from the state behind n draws
pub state_of_next : (number n before after : ℕ) → before ≡ state_after number n → after ≡ state_after before 1 → after ≡ state_after number (n + 1)
state_of_next number n before after so_far next = next ∙ ap (λ (s : ℕ). state_after s 1) so_far ∙ state_after_more number n 1

pub value_of_next : (number n before value : ℕ) → before ≡ state_after number n → value ≡ draw before 0 → value ≡ draw number n
value_of_next number n before value so_far next =
    let same : n + 0 ≡ n = omega arith in
    next ∙ ap (λ (s : ℕ). draw s 0) so_far ∙ draw_behind number n 0 ∙ ap (draw number) same

-- one draw, as the code makes it
pub one_draw : (state : ℕ) → (state * 6364136223846793005 % 2 ^ 64 + 1442695040888963407) % 2 ^ 64 ≡ state_after state 1
unfolding state_after next_state
one_draw state = mod-add-mod (state * 6364136223846793005) (2 ^ 64) 1442695040888963407

pub one_drawn : (state : ℕ) → state_after state 1 / 2 ^ 33 ≡ draw state 0
unfolding draw
one_drawn state = refl

-- no draw
pub no_draw : (number : ℕ) → state_after number 0 ≡ number
unfolding state_after
no_draw number = refl
