-- The lists are those of the text, and as long.
use Rattle.std.proofs.Common.{◌≡◌, ◌∙◌, arith, refl, length}
use Rattle.std.specs.Vec.{vec_len}
use Rattle.sb_fields.specs.Counted.{counted_bundle}
use Rattle.sb_topology.specs.Names.{names_of}
use Rattle.sb_topology.specs.Held.{given_names}
use Rattle.sb_topology.proofs.NamedParts.{named_parts}
use Rattle.sb_topology.proofs.drafts.named_draft.Goals as goal

pub invariant_of-result : goal.invariant_of-result
invariant_of-result c = record {
  few_hosts = omega (arith, c.in_ok-hosts.ensures.many);
  few_routers = omega (arith, c.in_ok-routers.ensures.many, c.as_slice.ensures.len);
  few_devices = omega (arith, c.in_ok-devices.ensures.many);
  few_links = omega (arith, c.in_ok-links.ensures.many, c.as_slice-2.ensures.len);
}

pub returns-in-Ok-wire_named-clause-ok : goal.returns-in-Ok-wire_named-clause-ok
returns-in-Ok-wire_named-clause-ok c =
    let names : given_names c.in-Ok.names ≡ names_of (counted_bundle c.args.bundle) = c.in-Ok.ensures.names in
    let hosts = rw c.new-earlier.ensures.items at c.in_ok-hosts.ensures.names in
    let routers = rw (c.as_slice.ensures.value, names) at c.in_ok-routers.ensures.names in
    let links = rw (c.as_slice-2.ensures.value, names) at c.in_ok-links.ensures.ok in
    let wire = rw names at c.in-Ok-wire_named.ensures.ok in
    let plans = rw (c.as_slice.ensures.value, names) at c.in_ok-routers.ensures.plans in
    let many : vec_len c.in-Ok.names.devices ≡ length c.in_ok-devices.devices.items = omega (arith, c.in_ok-devices.ensures.many, c.in-Ok.ensures.devices) in
    named_parts (counted_bundle c.args.bundle) _ _ _ _ _ hosts routers c.in_ok-devices.ensures.names links wire
    ∙ (rw (c.in_ok-hosts.ensures.drafts, ← many, plans, c.in_ok-devices.ensures.plans) refl)
