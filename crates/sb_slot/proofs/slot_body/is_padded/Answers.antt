-- The zeros of the body are those of its four numbers.
use Rattle.std.proofs.Common.{◌≡◌, ◌≤◌, arith, ℕ, refl}
use borrow.Author.Tests.{eqb-true}
use Rattle.std.proofs.lemmas.Nat.{le_or_l, le_or_r}
use Rattle.std.specs.Prelude.{slice_index, bit_or}
use Rattle.sb_slot.proofs.ZeroBytes.{zeros_joined, zeros_apart}
use Rattle.sb_slot.proofs.slot_body.is_padded.Goals as goal

-- where four numbers have no bit together, each is 0
none_of_four : (a b c d : ℕ) → bit_or (bit_or (bit_or a b) c) d ≡ 0 → (a ≡ 0) × (b ≡ 0) × (c ≡ 0) × (d ≡ 0)
none_of_four a b c d none =
    let all : bit_or (bit_or a b) c ≤ 0 = rw none at (le_or_l (bit_or (bit_or a b) c) d) in
    let last : d ≤ 0 = rw none at (le_or_r (bit_or (bit_or a b) c) d) in
    let two = le_or_l (bit_or a b) c in
    let third = le_or_r (bit_or a b) c in
    let first = le_or_l a b in
    let second = le_or_r a b in
    (omega arith, omega arith, omega arith, omega arith)

pub returns-clause-zeros : goal.returns-clause-zeros
returns-clause-zeros c = λ none.
    let all = none_of_four c.rest_of.result c.rest_of-2.result c.rest_of-3.result c.rest_of-4.result (eqb-true _ _ none) in
    zeros_joined c.args.carried (slice_index c.args.slot.now 3) (slice_index c.args.slot.now 4) (slice_index c.args.slot.now 5) (slice_index c.args.slot.now 6) c.requires
    (record {
      first = c.rest_of.ensures.zeros all.0;
      second = rw c.saturating_sub.ensures at (c.rest_of-2.ensures.zeros all.1);
      third = rw c.saturating_sub-2.ensures at (c.rest_of-3.ensures.zeros all.2);
      fourth = rw c.saturating_sub-3.ensures at (c.rest_of-4.ensures.zeros all.3);
    })

pub returns-clause-only : goal.returns-clause-only
returns-clause-only c = λ zeros.
    let each = zeros_apart c.args.carried (slice_index c.args.slot.now 3) (slice_index c.args.slot.now 4) (slice_index c.args.slot.now 5) (slice_index c.args.slot.now 6) c.requires zeros in
    let first : c.rest_of.result ≡ 0 = c.rest_of.ensures.only each.first in
    let second : c.rest_of-2.result ≡ 0 = c.rest_of-2.ensures.only (rw c.saturating_sub.ensures each.second) in
    let third : c.rest_of-3.result ≡ 0 = c.rest_of-3.ensures.only (rw c.saturating_sub-2.ensures each.third) in
    let fourth : c.rest_of-4.result ≡ 0 = c.rest_of-4.ensures.only (rw c.saturating_sub-3.ensures each.fourth) in
    rw (first, second, third, fourth) refl
