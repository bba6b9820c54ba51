-- The routers so far.
use Rattle.std.proofs.Common.{◌≡◌, map}
use Rattle.std.specs.List.{range_with_len}
use Rattle.sb_flow.specs.Rows.{net_router_of}
use Rattle.sb_flow.specs.Samples.{chain_router}
use Rattle.sb_flow.proofs.tests.routers.Given as goal

abbrev pub invariant-loop-number : goal.invariant-loop-number
invariant-loop-number l = map (net_router_of 1) l.routers.items ≡ map chain_router (range_with_len 0 l.number)
