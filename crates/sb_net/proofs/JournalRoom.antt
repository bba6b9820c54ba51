-- The journal of a run has no more entries than the scripts have words.
use Rattle.std.proofs.Common.{◌≡◌, ◌≤◌, ◌<◌, ℕ, Bool, true, false, cond, List, [], ◌∷◌, length, refl, sym, ap, ◌∙◌, subst, arith, length-append}
use Rattle.std.specs.Prelude.{◌==◌, All, filter, sum_by}
use Rattle.std.specs.List.{range_with_len}
use Rattle.std.proofs.lemmas.Bool.Decides.{nat_tests}
use Rattle.std.proofs.lemmas.List.{length-map}
use Rattle.std.proofs.lemmas.List.Elements.{All-get_or, All-head, All-tail}
use Rattle.std.proofs.lemmas.List.FromFn.{length-map-range_with_len}
use Rattle.sb_packet.specs.Accesses.{access_at, accesses_of}
use Rattle.sb_packet.specs.Messages.{message_of}
use Rattle.sb_packet.specs.Networks.{Network}
use Rattle.sb_flow.specs.Rings.{ring_budget, ring_plan}
use Rattle.sb_link.specs.Traffic.{AreInTurn, item_accesses}
use Rattle.sb_packet.specs.declared.entry.Entry.{Entry}
use Rattle.sb_packet.specs.declared.item.Item.{Item}
use Rattle.sb_packet.specs.declared.item.Item.TheVariants as items
use Rattle.sb_packet.proofs.Opcodes.{some_words}
use Rattle.sb_node.specs.Sides.{RingSide}
use Rattle.sb_device.specs.Devices.{IsWholeDevice}
use Rattle.sb_device.specs.Served.{entry_packets, item_packets}
use Rattle.sb_device.specs.Sides.{DeviceSide}
use Rattle.sb_flow.specs.Accepted.{IsAccepted, word_count}
use Rattle.sb_laws.specs.NetworkLayouts.{link_into, request_ring}
use Rattle.sb_laws.proofs.AcceptedNetworks.{accepted_is_routed}
use Rattle.sb_laws.proofs.InTurn.{turn_words_are_few}
use Rattle.sb_laws.proofs.WaysOfRouted.{ways_of_routed}
use Rattle.sb_member.specs.Ends.{ring_at, rings_of}
use Rattle.sb_member.specs.Joints.{joint_at, no_node, node_at, receiver_of}
use Rattle.sb_member.specs.Members.{IsWholeMember}
use Rattle.sb_member.specs.declared.joint.Joint.{Joint}
use Rattle.sb_member.specs.declared.member.Member.{Member}
use Rattle.sb_member.specs.declared.member.Member.TheVariants.{Host, Router, Device}
use Rattle.sb_net.specs.Recorded.{IsRecorded, device_entries, member_entries}
use Rattle.sb_net.specs.RingEnds.{AreLinked}
use Rattle.sb_net.specs.Standing.{IsDeviceBuilt, IsDeviceNode, IsReceivedBy, StandsFor, device_number}
use Rattle.sb_net.proofs.GrownSums.{range_grows, range_grows_more}
use Rattle.sb_net.proofs.SpendingBounds.{come_in_turn}
use Rattle.sb_net.proofs.WordsAtDevices.{into_devices_le}

-- each packet among items has a word, so there are no more packets than words
packets_are_few : (list : List Item) → length (item_packets list) ≤ length (item_accesses list)
packets_are_few [] = omega arith
packets_are_few (items.Packet p ∷ list) =
    let rest = packets_are_few list in
    let some = some_words p.cmd.op p.cmd.len in
    omega (arith, rest, some, length-append (accesses_of p) (item_accesses list), length-map-range_with_len (access_at (message_of p)) 0 (message_of p).count)
packets_are_few (items.Close ∷ list) = packets_are_few list

-- a journal has one entry of a device more, or none
more_entries : (e : Entry) (es : List Entry) (d : ℕ) → length (filter (λ x. x.device == d) es) ≤ length (filter (λ x. x.device == d) (e ∷ es))
more_entries e es d = by_test (e.device == d)
  where
    by_test : (b : Bool) → length (filter (λ x. x.device == d) es) ≤ length (cond b (e ∷ filter (λ x. x.device == d) es) (filter (λ x. x.device == d) es))
    by_test true = omega arith
    by_test false = omega arith

one_entry : (e : Entry) (es : List Entry) → length (filter (λ x. x.device == e.device) es) < length (filter (λ x. x.device == e.device) (e ∷ es))
one_entry e es = by_test (e.device == e.device) (grind (arith, nat_tests))
  where
    by_test : (b : Bool) → b ≡ true → length (filter (λ x. x.device == e.device) es) < length (cond b (e ∷ filter (λ x. x.device == e.device) es) (filter (λ x. x.device == e.device) es))
    by_test true is = omega arith
    by_test false is = absurd (cc)

-- each entry is counted at its device
counted_out : (n : ℕ) (journal : List Entry) → All (λ e. e.device < n) journal → length journal ≤ sum_by (λ d. length (filter (λ x. x.device == d) journal)) (range_with_len 0 n)
counted_out n [] all = omega arith
counted_out n (e ∷ es) all =
    let rest = counted_out n es (All-tail (λ e. e.device < n) e es all) in
    let inside : e.device < n = All-head (λ e. e.device < n) e es all in
    let more = range_grows_more (λ d. length (filter (λ x. x.device == d) es)) (λ d. length (filter (λ x. x.device == d) (e ∷ es))) 0 n e.device
    (λ d below. more_entries e es d) (omega arith) (omega (arith, inside)) (one_entry e es) in
    omega (arith, rest, more)

module _ {F T U : Type 0} (network : Network) (joints : List Joint) (nodes : List (Member F T U)) (stands : StandsFor network joints nodes) (linked : AreLinked joints nodes) where
  -- the entries of a device are at most the budget of the ring into it
  of_device : (k d : ℕ) (x : DeviceSide) → k < length nodes → node_at nodes k ≡ Device x → IsDeviceBuilt network d x → length x.journal.entries ≤ ring_budget network (request_ring (link_into network d))
  of_device k d x inside is built =
      let r = x.requests.plan.ring in
      let whole : IsWholeDevice x = subst (λ (m : Member F T U). IsWholeMember m) is (All-get_or IsWholeMember nodes k no_node inside stands.joined.whole) in
      let place : 0 < length (rings_of (node_at nodes k)) = subst (λ (m : Member F T U). 0 < length (rings_of m)) (sym is) (omega arith) in
      let at : IsReceivedBy joints r k 0 = subst (λ (m : Member F T U). IsReceivedBy joints (ring_at m 0).plan.ring k 0) is (stands.covered.rings k 0 inside place) in
      let same : receiver_of nodes (joint_at joints r) ≡ x.requests =
      ap (λ n. ring_at (node_at nodes n) (joint_at joints r).into) at.to ∙ ap (ring_at (node_at nodes k)) at.into ∙ ap (λ (m : Member F T U). ring_at m 0) is in
      let turn : AreInTurn (ring_plan network r) x.requests.received = subst (λ (ring : RingSide). AreInTurn (ring_plan network r) ring.received) same (come_in_turn network joints nodes stands linked r at.ring) in
      let words : length (item_accesses x.requests.received) ≤ ring_budget network r = turn_words_are_few (ring_plan network r) x.requests.received turn in
      let packets = packets_are_few x.requests.received in
      let entries : length (entry_packets x.journal.entries) ≡ length (item_packets x.requests.received) = ap length whole.in_order.journalled in
      let number : ring_budget network r ≡ ring_budget network (request_ring (link_into network d)) = ap (ring_budget network) built.into in
      omega (arith, words, packets, entries, number, length-map x.journal.entries (λ e. e.packet))

  pub device_within : (d : ℕ) → d < length network.devices → length (device_entries network nodes d) ≤ ring_budget network (request_ring (link_into network d))
  device_within d there = by_node (node_at nodes (device_number network d)) refl (stands.devices d there)
    where
      inside : device_number network d < length nodes
      inside = let count = stands.nodes_count in omega (arith, count, there)

      by_node : (m : Member F T U) → node_at nodes (device_number network d) ≡ m → IsDeviceNode network d m → length (member_entries m) ≤ ring_budget network (request_ring (link_into network d))
      by_node (Host h) is built = absurd built
      by_node (Router r) is built = absurd built
      by_node (Device x) is built = of_device (device_number network d) d x inside is built

  pub journal_within : IsAccepted network → (journal : List Entry) → IsRecorded network journal nodes → length journal ≤ word_count network
  journal_within accepted journal recorded =
      let counted = counted_out (length network.devices) journal recorded.devices in
      let each = range_grows (λ d. length (filter (λ e. e.device == d) journal)) (λ d. ring_budget network (request_ring (link_into network d))) 0 (length network.devices)
      (λ d below.
      let there : d < length network.devices = omega (arith, below) in
      subst (λ (list : List Entry). length list ≤ ring_budget network (request_ring (link_into network d))) (sym (recorded.entries d there)) (device_within d there)) in
      let all = into_devices_le network (ways_of_routed network (accepted_is_routed network accepted)) in
      omega (arith, counted, each, all)
