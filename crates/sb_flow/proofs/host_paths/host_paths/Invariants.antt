-- The ways to the devices so far.
use Rattle.std.proofs.Common.{◌≡◌, map, get_or}
use Rattle.std.specs.List.{range_with_len}
use Rattle.sb_flow.specs.Rows.{host_of}
use Rattle.sb_flow.specs.NetworkOf.{network_of}
use Rattle.sb_flow.specs.Tables.{flow_table_of}
use Rattle.sb_flow.specs.declared.host_plan.HostPlan.{HostPlan}
use Rattle.sb_flow.proofs.host_paths.host_paths.Given as goal

abbrev pub invariant-loop-device : goal.invariant-loop-device
invariant-loop-device l = (d : HostPlan) → l.flows.items ≡ map (flow_table_of (network_of l.bundle) l.host (host_of (get_or l.bundle.hosts.items l.host d))) (range_with_len 0 l.device)
