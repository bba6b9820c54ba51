-- The loads of the links so far.
use Rattle.std.proofs.Common.{◌≡◌, map}
use Rattle.std.specs.List.{range_with_len}
use Rattle.sb_flow.specs.Gathered.{gathered, load_of}
use Rattle.sb_flow.proofs.gather.loads.Given as goal

abbrev pub invariant-loop-link : goal.invariant-loop-link
invariant-loop-link l = map load_of l.loads.items ≡ map (λ k. gathered k l.hosts) (range_with_len 0 l.link)
