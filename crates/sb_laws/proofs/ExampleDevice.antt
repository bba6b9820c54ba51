-- The laws of devices at the example's: it has served what came, fresh, halfway and at the end, and is idle in the last round.
use Rattle.std.proofs.Common.{◌≡◌, ◌<◌, lit<, ℕ, zero, suc, true, false, List, [], ◌∷◌, refl, arith}
use Rattle.std.specs.Prelude.{◌⊎◌, All}
use Rattle.sb_packet.specs.Journals.{journal_accesses}
use Rattle.sb_packet.specs.Networks.{opening_memory}
use Rattle.sb_link.specs.Prefixes.{none, kept}
use Rattle.sb_link.specs.Traffic.{item_accesses}
use Rattle.sb_packet.specs.declared.entry.Entry.{Entry}
use Rattle.sb_node.specs.Idle.{IsIdleAt}
use Rattle.sb_node.specs.Sides.{has_ended, has_rest, is_drained, is_full}
use Rattle.sb_node.specs.Steps.{IsBlockedPort}
use Rattle.sb_node.proofs.Subsequences.{same_subsequence}
use Rattle.sb_node.proofs.Answering.{one_of}
use Rattle.sb_device.specs.Served.{HasServed}
use Rattle.sb_device.specs.Sides.{DeviceSide}
use Rattle.sb_laws.specs.NodeSides.{IsDeviceAt}
use Rattle.sb_laws.specs.Moments.{Moment, arrived}
use Rattle.sb_laws.specs.NetworkLayouts.{network_flows, network_layout}
use Rattle.sb_laws.specs.Runs.{IsDevice}
use Rattle.sb_laws.specs.Standstills.{IsIdleReceiver, IsIdleSender}
use Rattle.sb_laws.proofs.DeviceSides.{device_promise, device_records, idle_receiver, idle_sender}
use Rattle.sb_laws.proofs.DevicesInNetworks.{all_devices_promise}
use Rattle.sb_laws.proofs.ExampleNetwork.{small, steps, answering}
use Rattle.sb_laws.proofs.ExampleRouted.{small_is_routed}
use Rattle.sb_laws.proofs.ExampleLayout.{small_layout, the_flow}
use Rattle.sb_laws.proofs.ExampleRun.{the_end}
use Rattle.sb_laws.proofs.ExampleHalfway.{halfway, first_step}
use Rattle.sb_laws.proofs.ExampleStandstill.{last_round, small_stages}
use Rattle.sb_laws.proofs.ExampleNodes.{fresh, device_in, port_in, ring_in}
use Rattle.sb_laws.proofs.ExamplePorts.{end_is_settled, fresh_is_settled, halfway_is_settled, has_port, has_ring, is_fit}
use Rattle.sb_laws.proofs.ExampleSides.{at_rest, shows_port, shows_ring}

-- It has answered the requests of its journal: none, the first, or all.
pub fresh_has_served : HasServed (opening_memory small 0) (device_in fresh [] 3)
fresh_has_served = record { stepped = refl; answered_some = none; answered_all = λ sound few. refl }

pub halfway_has_served : HasServed (opening_memory small 0) (device_in halfway first_step 2)
halfway_has_served = record { stepped = refl; answered_some = kept none; answered_all = λ sound few. refl }

pub end_has_served : HasServed (opening_memory small 0) (device_in the_end steps 0)
end_has_served = record { stepped = refl; answered_some = same_subsequence (item_accesses answering); answered_all = λ sound few. refl }

pub devices_keep_their_promise : (IsDevice small small_layout [] fresh the_flow) × (IsDevice small small_layout first_step halfway the_flow) × (IsDevice small small_layout steps the_end the_flow)
devices_keep_their_promise = (
  device_promise small small_layout [] fresh the_flow (device_in fresh [] 3) (has_ring fresh fresh_is_settled 2) (has_port fresh fresh_is_settled 3) refl refl fresh_has_served,
  device_promise small small_layout first_step halfway the_flow (device_in halfway first_step 2) (has_ring halfway halfway_is_settled 2) (has_port halfway halfway_is_settled 3) refl refl halfway_has_served,
  device_promise small small_layout steps the_end the_flow (device_in the_end steps 0) (has_ring the_end end_is_settled 2) (has_port the_end end_is_settled 3) refl refl end_has_served,
)

-- and so for all flows, at its place
only_device : (m : Moment) (journal : List Entry) (device : DeviceSide) → IsDeviceAt small journal m 0 device → All (IsDevice small (network_layout small) journal m) (network_flows small)
only_device m journal device stands = all_devices_promise small small_is_routed journal m (λ d. device) (by_place stands)
  where
    by_place : IsDeviceAt small journal m 0 device → (d : ℕ) → d < 1 → IsDeviceAt small journal m d device
    by_place stands zero inside = stands
    by_place stands (suc d) inside = absurd (omega arith)

pub devices_keep_promises_for_all_flows : All (IsDevice small (network_layout small) [] fresh) (network_flows small)
    × All (IsDevice small (network_layout small) first_step halfway) (network_flows small) × All (IsDevice small (network_layout small) steps the_end) (network_flows small)
devices_keep_promises_for_all_flows = (
  only_device fresh [] (device_in fresh [] 3) (record { into = has_ring fresh fresh_is_settled 2; back = has_port fresh fresh_is_settled 3; plan = refl; journalled = refl; serves = fresh_has_served }),
  only_device halfway first_step (device_in halfway first_step 2) (record { into = has_ring halfway halfway_is_settled 2; back = has_port halfway halfway_is_settled 3; plan = refl; journalled = refl; serves = halfway_has_served }),
  only_device the_end steps (device_in the_end steps 0) (record { into = has_ring the_end end_is_settled 2; back = has_port the_end end_is_settled 3; plan = refl; journalled = refl; serves = end_has_served }),
)

pub devices_record : (journal_accesses [] 0 ≡ arrived fresh 2) × (journal_accesses first_step 0 ≡ arrived halfway 2) × (journal_accesses steps 0 ≡ arrived the_end 2)
devices_record = (
  device_records small_layout [] [] fresh 0 (ring_in fresh 2) (has_ring fresh fresh_is_settled 2) refl refl,
  device_records small_layout first_step first_step halfway 0 (ring_in halfway 2) (has_ring halfway halfway_is_settled 2) refl refl,
  device_records small_layout steps steps the_end 0 (ring_in the_end 2) (has_ring the_end end_is_settled 2) refl refl,
)

-- In the last round it does nothing: all has come and gone.
pub idle : IsIdleAt (λ ring. IsBlockedPort (port_in the_end 3)) (port_in the_end 3 ∷ []) (ring_in the_end 2 ∷ [])
idle = record {
  owing_ports_are_full = one_of (λ port. has_rest port ≡ true → is_full port ≡ true) (port_in the_end 3) (at_rest 3 (lit< tt));
  open_rings_are_drained = one_of (λ ring. has_ended ring ≡ false → (is_drained ring ≡ true) ⊎ IsBlockedPort (port_in the_end 3)) (ring_in the_end 2) (λ unended. absurd (cc));
}

pub idle_devices_are_idle : IsIdleReceiver small_stages last_round 2 × IsIdleSender small_stages last_round 3
idle_devices_are_idle = (
  idle_receiver small_stages last_round 2 3 (ring_in the_end 2) (port_in the_end 3) (shows_ring 2 (lit< tt)) (shows_port 3 (lit< tt)) (lit< tt) refl refl refl idle,
  idle_sender small_stages last_round 2 3 (ring_in the_end 2) (port_in the_end 3) (shows_ring 2 (lit< tt)) (shows_port 3 (lit< tt)) (lit< tt) refl refl refl (is_fit the_end end_is_settled 3 (lit< tt)) refl idle,
)
