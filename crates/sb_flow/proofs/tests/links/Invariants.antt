-- The links so far.
use Rattle.std.proofs.Common.{◌≡◌, map}
use Rattle.std.specs.List.{range_with_len}
use Rattle.sb_flow.specs.Rows.{link_of}
use Rattle.sb_flow.specs.Samples.{chain_link}
use Rattle.sb_flow.proofs.tests.links.Given as goal

abbrev pub invariant-loop-number : goal.invariant-loop-number
invariant-loop-number l = map link_of l.links.items ≡ map chain_link (range_with_len 0 l.number)
