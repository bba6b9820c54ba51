-- So many devices have their opening memories.
use Rattle.std.proofs.Common.{◌≡◌, map}
use Rattle.std.specs.List.{range_with_len}
use Rattle.sb_flow.specs.NetworkOf.{network_of}
use Rattle.sb_packet.specs.Networks.{opening_memory}
use Rattle.sb_check.proofs.gathered.memories_of.Given as goal

abbrev pub invariant-loop-number : goal.invariant-loop-number
invariant-loop-number l = l.memories.items ≡ map (opening_memory (network_of l.bundle)) (range_with_len 0 l.number)
