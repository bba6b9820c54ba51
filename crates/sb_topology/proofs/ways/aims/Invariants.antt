-- No address so far is in the device's range.
use Rattle.std.proofs.Common.{◌≡◌, drop}
use Rattle.std.specs.List.{list_any}
use Rattle.sb_packet.specs.Networks.{has_address}
use Rattle.sb_flow.specs.Rows.{device_of}
use Rattle.sb_topology.proofs.ways.aims.Given as goal

abbrev pub invariant-loop-txn : goal.invariant-loop-txn
invariant-loop-txn l = list_any (λ t. has_address t.addr (device_of l.device)) l.script ≡ list_any (λ t. has_address t.addr (device_of l.device)) (drop l.txn-index l.script)
