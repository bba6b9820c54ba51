-- The ranges are those of the bundle's devices, which lie apart and are whole pages.
use Rattle.std.proofs.Common.{ap, arith, length}
use Rattle.sb_flow.proofs.Bundles.{device_count, few_devices}
use Rattle.sb_flow.proofs.BundleRanges.{IsFilled, filled_apart, filled_in_range, filled_paged, filled_flows}
use Rattle.sb_flow.proofs.ranges.flows.Goals as goal

-- what the calls gave
filled : (c : goal.After-sizes) → IsFilled c.args.bundle.now c.len.result c.bases.result c.sizes.result
filled c = record { counted = c.len.ensures; bases = rw c.deref.ensures.value at c.bases.ensures; sizes = rw c.deref-2.ensures.value at c.sizes.ensures }

pub invariant_of-result : goal.invariant_of-result
invariant_of-result c = record {
  counted = omega (arith, c.len.ensures, device_count c.args.bundle.now, few_devices c.args.bundle.now);
  bases = ap length c.bases.ensures;
  lengths = ap length c.sizes.ensures;
  hosts = c.requires;
  apart = filled_apart c.args.bundle.now c.len.result c.bases.result c.sizes.result (filled c);
  paged = filled_paged c.args.bundle.now c.len.result c.bases.result c.sizes.result (filled c);
  in_range = filled_in_range c.args.bundle.now c.len.result c.bases.result c.sizes.result (filled c);
}

pub returns : goal.returns
returns c = filled_flows c.args.bundle.now c.len.result c.bases.result c.sizes.result c.args.through (record { counted = c.len.ensures; bases = rw c.deref.ensures.value at c.bases.ensures; sizes = rw c.deref-2.ensures.value at c.sizes.ensures })
