-- There is a counter for each number so far.
use Rattle.std.specs.Prelude.{◌≡◌, vec_len}
use Rattle.sb_places.proofs.tests.counters_of.Given as goal

abbrev pub invariant-loop-moves : goal.invariant-loop-moves
invariant-loop-moves l = vec_len l.counters ≡ l.moves-index
