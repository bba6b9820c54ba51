-- The ports that are left are still to be put.
use Rattle.std.proofs.Common.{◌≡◌, length}
use Rattle.sb_net.specs.Apart.{ring_ahead}
use Rattle.sb_net.proofs.PutBy.{IsPutSoFar}
use Rattle.sb_net.proofs.settling.apart.put_ports.Given as goal

abbrev pub invariant-loop-port : goal.invariant-loop-port
invariant-loop-port g l = IsPutSoFar ring_ahead l.initial.more.items l.initial.ports.items l.more.items l.ports.items

abbrev pub decreases-loop-port : goal.decreases-loop-port
decreases-loop-port g l = length l.more.items
