-- The piles so far are empty.
use Rattle.std.proofs.Common.{◌≡◌, ℕ, [], length}
use Rattle.sb_net.specs.Legs.{pile_at, piles_of}
use Rattle.sb_net.proofs.making.dealing.empty_piles.Given as goal

abbrev pub invariant-loop : goal.invariant-loop
invariant-loop g l = record {
  count : length l.piles.items ≡ l.counter;
  empty : (m : ℕ) → pile_at (piles_of l.piles.items) m ≡ [];
}
