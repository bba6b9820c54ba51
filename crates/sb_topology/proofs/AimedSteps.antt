-- The ways of a host, one device after another.
use Rattle.std.proofs.Common.{◌≡◌, ◌<◌, ℕ, ◌+◌, ◌-◌, Bool, true, false, List, length, get_or, map, refl, ap, sym, ◌∙◌, arith, Option, Some, None}
use Rattle.std.specs.Prelude.{filter}
use Rattle.std.specs.List.{list_any, range_with_len}
use Rattle.std.proofs.lemmas.List.{get_or-map, length-map}
use Rattle.sb_packet.specs.Networks.{NetHost, Network, has_address}
use Rattle.sb_flow.specs.Ways.{aims_at}
use Rattle.sb_packet.specs.declared.transaction.Txn.{Txn}
use Rattle.sb_flow.specs.Accepted.{RouteAt, first_told, lost_on_way, overlapping_device}
use Rattle.sb_flow.specs.Rows.{device_of, host_of}
use Rattle.sb_flow.specs.declared.device_plan.DevicePlan.{DevicePlan}
use Rattle.sb_flow.specs.declared.host_plan.HostPlan.{HostPlan}
use Rattle.sb_topology.specs.Held.{whole_network}
use Rattle.sb_topology.specs.declared.plan.Rows.{Rows}
use Rattle.sb_topology.proofs.LostWays.{aimed_here, aims_more}

-- a host aims at a device that was read just where the test says so
pub aims_is : (rows : Rows) (plan : HostPlan) (i : ℕ) (d : DevicePlan) (script : List Txn) (b : Bool) → overlapping_device (whole_network rows) ≡ None → i < length rows.devices.items → d ≡ get_or rows.devices.items i d
    → script ≡ plan.script → b ≡ list_any (λ t. has_address t.addr (device_of d)) script → aims_at (whole_network rows) (host_of plan) i ≡ b
aims_is rows plan i d script b apart below read is test =
    let there : i < length (map device_of rows.devices.items) = omega (arith, length-map rows.devices.items device_of) in
    let same : get_or (map device_of rows.devices.items) i (device_of d) ≡ device_of d = get_or-map device_of rows.devices.items i d (device_of d) below ∙ ap device_of (sym read) in
    aimed_here (whole_network rows) (host_of plan) i (device_of d) apart there ∙ (rw (same, ← is) (sym test))

module _ (network : Network) (host : NetHost) (h i n : ℕ) (whole : Option RouteAt) (below : i < n)
    (so_far : whole ≡ first_told (lost_on_way network h) (filter (aims_at network host) (range_with_len i (n - i)))) where
  -- something is lost on the way to this device
  pub lost_here : (r : RouteAt) → aims_at network host i ≡ true → lost_on_way network h i ≡ Some r → whole ≡ Some r
  lost_here r aims lost = so_far ∙ aims_more network host h i n below ∙ (rw (aims, lost) refl)

  -- nothing is, so what is lost is ahead
  pub none_lost_here : aims_at network host i ≡ true → lost_on_way network h i ≡ None → whole ≡ first_told (lost_on_way network h) (filter (aims_at network host) (range_with_len (i + 1) (n - (i + 1))))
  none_lost_here aims lost = so_far ∙ aims_more network host h i n below ∙ (rw (aims, lost) refl)

  pub not_aimed_here : aims_at network host i ≡ false → whole ≡ first_told (lost_on_way network h) (filter (aims_at network host) (range_with_len (i + 1) (n - (i + 1))))
  not_aimed_here aims = so_far ∙ aims_more network host h i n below ∙ (rw aims refl)
