-- There are as many places as were made so far.
use Rattle.std.proofs.Common.{◌≡◌, length}
use Rattle.sb_net.proofs.settling.apart.empty_places.Given as goal

abbrev pub invariant-loop : goal.invariant-loop
invariant-loop g l = length l.places.items ≡ l.counter
