-- The names so far are new, so those that are left are to be tested; and the devices so far are planned, those that are left behind them.
use Rattle.std.proofs.Common.{◌≡◌, ◌+◌, ◌++◌, codes, length, map}
use Rattle.std.specs.Vec.{vec_len}
use Rattle.sb_flow.specs.Rows.{device_of}
use Rattle.sb_fields.specs.Counted.{counted_device}
use Rattle.sb_topology.specs.Names.{names_by}
use Rattle.sb_topology.specs.Places.{placed_device}
use Rattle.sb_topology.proofs.devices.device_plans.Given as goal

abbrev pub invariant-loop-number : goal.invariant-loop-number
invariant-loop-number l = record {
  names : names_by (codes "devices") 0 (map (λ n. n.now) l.initial.earlier.items) (map (λ d. d.name) (map counted_device l.fn.devices.items)) ≡ names_by (codes "devices") l.number-iterator.count (map (λ n. n.now) l.earlier.items) (map (λ d. d.name) (map counted_device l.number-iterator.iter.rest.items));
  plans : map device_of l.plans.items ++ map placed_device (map counted_device l.number-iterator.iter.rest.items) ≡ map placed_device (map counted_device l.fn.devices.items);
  many : vec_len l.plans + length l.number-iterator.iter.rest.items ≡ vec_len l.fn.devices;
}
