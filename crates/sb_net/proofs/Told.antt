-- What the nodes of a network tell when they are taken apart: the transactions of its hosts, and the memories of its devices, each in order.
use Rattle.std.proofs.Common.{◌≡◌, ℕ, ◌+◌, ◌-◌, ◌<◌, ◌≤◌, true, false, Bool, List, [], ◌∷◌, length, refl, sym, ap, ◌∙◌, subst, arith, ltb-true, ltb-false}
use Rattle.std.specs.Prelude.{Option, Some, None, flat_map, nat_lt, slice_get, slice_index_or, vec_capacity}
use Rattle.std.proofs.Math.Nat.{add-sub_of_le}
use Rattle.std.proofs.lemmas.Option.{slice_get_within}
use Rattle.sb_packet.specs.Answers.{final_memory, host_outcomes}
use Rattle.sb_packet.specs.Memories.{MemoryState}
use Rattle.sb_packet.specs.Networks.{NetHost, Network}
use Rattle.sb_packet.specs.declared.entry.Entry.{Entry}
use Rattle.sb_node.specs.Sides.{received_words}
use Rattle.sb_host.specs.Hosts.{HostSide, IsWholeHost}
use Rattle.sb_host.specs.Outcomes.{outcomes_so_far}
use Rattle.sb_host.specs.Progress.{TransactionsSide}
use Rattle.sb_member.specs.Groups.{IsDealt, dealt_nodes}
use Rattle.sb_member.specs.Joints.{no_node, node_at}
use Rattle.sb_member.specs.Members.{IsWholeMember}
use Rattle.sb_member.specs.declared.joint.Joint.{Joint}
use Rattle.sb_member.specs.declared.member.Member.{Member}
use Rattle.sb_member.specs.declared.member.Member.TheVariants.{Host, Router, Device}
use Rattle.sb_member.proofs.Dealt.{total_of}
use Rattle.sb_net.specs.Apart.{CanBeTakenApart, IsRoomFor, member_memories, member_transactions}
use Rattle.sb_net.specs.Over.{HasFinalMemory, IsOver, TellsOutcomes}
use Rattle.sb_net.specs.Running.{HasRun}
use Rattle.sb_net.specs.Settled.{SettledSide, TellsHost, TellsRun, memory_at, transactions_at}
use Rattle.sb_net.specs.Standing.{IsDeviceNode, IsHostNode, IsRouterNode, StandsFor, device_number, router_number}
use Rattle.sb_net.specs.declared.settling.apart.Apart.{Apart}
use Rattle.sb_net.proofs.NodeKinds.{device_of, host_of}
use Rattle.sb_net.proofs.OneEach.{GiveOneEach, given_at, given_count}
use Rattle.sb_net.proofs.RingsLie.{ports_within, rings_within}

module _ {F T U : Type 0} where
  abbrev pub transactions_in : Member F T U → TransactionsSide
  transactions_in m = (host_of m).transactions

  abbrev pub memory_in : Member F T U → MemoryState
  memory_in m = (device_of m).memory

  host_gives : (network : Network) (k : ℕ) (m : Member F T U) → IsHostNode network k m → member_transactions m ≡ transactions_in m ∷ []
  host_gives network k (Host h) is = refl
  host_gives network k (Router r) is = absurd is
  host_gives network k (Device d) is = absurd is

  host_has_none : (network : Network) (k : ℕ) (m : Member F T U) → IsHostNode network k m → member_memories m ≡ []
  host_has_none network k (Host h) is = refl
  host_has_none network k (Router r) is = absurd is
  host_has_none network k (Device d) is = absurd is

  router_gives_none : (network : Network) (k : ℕ) (m : Member F T U) → IsRouterNode network k m → (member_transactions m ≡ []) × (member_memories m ≡ [])
  router_gives_none network k (Host h) is = absurd is
  router_gives_none network k (Router r) is = (refl, refl)
  router_gives_none network k (Device d) is = absurd is

  device_gives : (network : Network) (k : ℕ) (m : Member F T U) → IsDeviceNode network k m → member_memories m ≡ memory_in m ∷ []
  device_gives network k (Host h) is = absurd is
  device_gives network k (Router r) is = absurd is
  device_gives network k (Device d) is = refl

  device_has_none : (network : Network) (k : ℕ) (m : Member F T U) → IsDeviceNode network k m → member_transactions m ≡ []
  device_has_none network k (Host h) is = absurd is
  device_has_none network k (Router r) is = absurd is
  device_has_none network k (Device d) is = refl

-- a number is below another, or it is not
below_or_not : {P : Type 0} (k n : ℕ) → (k < n → P) → (n ≤ k → P) → P
below_or_not {P = P} k n is is_not = by_test (nat_lt k n) refl
  where
    by_test : (b : Bool) → nat_lt k n ≡ b → P
    by_test true e = is (ltb-true k n e)
    by_test false e = is_not (ltb-false k n e)

module _ {F T U : Type 0} (network : Network) (joints : List Joint) (nodes : List (Member F T U)) (s : StandsFor network joints nodes) where
  -- the node behind the hosts and routers, by its number
  at_router_number : (k : ℕ) → length network.hosts ≤ k → k < length network.hosts + length network.routers → (member_transactions (node_at nodes k) ≡ []) × (member_memories (node_at nodes k) ≡ [])
  at_router_number k le lt =
      let back : length network.hosts + (k - length network.hosts) ≡ k = add-sub_of_le le in
      let low : k - length network.hosts < length network.routers = omega (arith, back, lt) in
      subst (λ n. (member_transactions (node_at nodes n) ≡ []) × (member_memories (node_at nodes n) ≡ [])) back
      (router_gives_none network (k - length network.hosts) (node_at nodes (router_number network (k - length network.hosts))) (s.routers (k - length network.hosts) low))

  is_device_at : (k : ℕ) → length network.hosts + length network.routers ≤ k → k < length nodes → IsDeviceNode network (k - (length network.hosts + length network.routers)) (node_at nodes k)
  is_device_at k le lt =
      let first = length network.hosts + length network.routers in
      let back : first + (k - first) ≡ k = add-sub_of_le le in
      let all = s.nodes_count in
      let low : k - first < length network.devices = omega (arith, back, lt, all) in
      subst (λ n. IsDeviceNode network (k - first) (node_at nodes n)) back (s.devices (k - first) low)

  hosts_give : GiveOneEach member_transactions no_node nodes 0 (length network.hosts) (λ k. transactions_in (node_at nodes k))
  hosts_give = let all = s.nodes_count in record {
    long = omega (arith, all);
    before = λ k lt. absurd (omega (arith, lt));
    within = λ k le lt. host_gives network k (node_at nodes k) (s.hosts k (omega (arith, lt)));
    behind = λ k le lt. below_or_not k (length network.hosts + length network.routers)
        (λ low. (at_router_number k (omega (arith, le)) low).0)
        (λ high. device_has_none network (k - (length network.hosts + length network.routers)) (node_at nodes k) (is_device_at k high lt));
  }

  devices_give : GiveOneEach member_memories no_node nodes (length network.hosts + length network.routers) (length network.devices) (λ k. memory_in (node_at nodes k))
  devices_give = let all = s.nodes_count in record {
    long = omega (arith, all);
    before = λ k lt. below_or_not k (length network.hosts)
        (λ low. host_has_none network k (node_at nodes k) (s.hosts k low))
        (λ high. (at_router_number k high lt).1);
    within = λ k le lt. device_gives network (k - (length network.hosts + length network.routers)) (node_at nodes k) (is_device_at k le (omega (arith, lt, all)));
    behind = λ k le lt. absurd (omega (arith, le, lt, all));
  }

  pub transactions_count : length (flat_map member_transactions nodes) ≡ length network.hosts
  transactions_count = given_count member_transactions no_node nodes 0 (length network.hosts) (λ k. transactions_in (node_at nodes k)) hosts_give

  pub memories_count : length (flat_map member_memories nodes) ≡ length network.devices
  memories_count = given_count member_memories no_node nodes (length network.hosts + length network.routers) (length network.devices) (λ k. memory_in (node_at nodes k)) devices_give

  pub transactions_there : (n : ℕ) (t : TransactionsSide) → n < length network.hosts → slice_index_or (flat_map member_transactions nodes) n t ≡ transactions_in (node_at nodes n)
  transactions_there n t lt = given_at member_transactions no_node nodes 0 (length network.hosts) (λ k. transactions_in (node_at nodes k)) hosts_give n t lt
      ∙ (let plain : 0 + n ≡ n = omega arith in ap (λ k. transactions_in (node_at nodes k)) plain)

  pub memory_there : (d : ℕ) (m : MemoryState) → d < length network.devices → slice_index_or (flat_map member_memories nodes) d m ≡ memory_in (node_at nodes (device_number network d))
  memory_there d m lt = given_at member_memories no_node nodes (length network.hosts + length network.routers) (length network.devices) (λ k. memory_in (node_at nodes k)) devices_give d m lt

  -- there is room for all that they give, where there are places for so many rings, hosts and devices
  pub room_there : (room : Apart F T U) → length room.ports.items ≡ length joints → length room.ends.items ≡ length joints → room.hosts.items ≡ [] → room.devices.items ≡ []
      → length network.hosts ≤ vec_capacity room.hosts → length network.devices ≤ vec_capacity room.devices → IsRoomFor nodes room
  room_there room ports ends no_hosts no_devices hosts devices = let many = transactions_count in let much = memories_count in record {
    ports = λ k d lt. let w = ports_within network joints nodes s k d lt in omega (arith, w, ports);
    ends = λ k d lt. let w = rings_within network joints nodes s k d lt in omega (arith, w, ends);
    no_hosts = no_hosts;
    no_devices = no_devices;
    hosts = omega (arith, many, hosts);
    devices = omega (arith, much, devices);
  }

module _ {F T U : Type 0} (network : Network) (journal : List Entry) where
  -- what a whole host of the network tells at the end of a run
  host_tells : (place : ℕ) (host : NetHost) (m : Member F T U) → slice_get network.hosts place ≡ Some host → IsHostNode network place m → IsWholeMember m → TellsOutcomes network journal host m
      → TellsHost network journal host (transactions_in m)
  host_tells place host (Host h) there built whole tells = record {
    asked = built.asked host there;
    received = received_words h.answers;
    table = whole.in_order.table;
    outcomes = tells;
  }
  host_tells place host (Router r) there built whole tells = absurd built
  host_tells place host (Device d) there built whole tells = absurd built

  device_tells : (place : ℕ) (m : Member F T U) → HasFinalMemory network journal place m → memory_in m ≡ final_memory network journal place
  device_tells place (Host h) has = absurd has
  device_tells place (Router r) has = absurd has
  device_tells place (Device d) has = has

-- Nodes that have run to the end tell what the journal says.
pub run_told : {F T U : Type 0} (network : Network) (journal : List Entry) (joints : List Joint) (nodes : List (Member F T U)) (settled : SettledSide) → HasRun network journal joints nodes
    → settled.hosts ≡ flat_map member_transactions nodes → settled.memories ≡ flat_map member_memories nodes → TellsRun network journal settled
run_told network journal joints nodes settled run hosts memories =
    let s = run.stands in record {
      hosts_count = ap (λ list. length list) hosts ∙ transactions_count network joints nodes s;
      devices_count = ap (λ list. length list) memories ∙ memories_count network joints nodes s;
      outcomes = λ n host there.
          let lt : n < length network.hosts = slice_get_within network.hosts n host there in
          let all = s.nodes_count in
          let whole : IsWholeMember (node_at nodes n) = s.joined.whole n no_node (omega (arith, lt, all)) in
          subst (λ t. TellsHost network journal host t)
          (sym (transactions_there network joints nodes s n (transactions_at (record { hosts = []; memories = [] }) n) lt) ∙ sym (ap (λ list. slice_index_or list n (transactions_at (record { hosts = []; memories = [] }) n)) hosts))
          (host_tells network journal n host (node_at nodes n) there (s.hosts n lt) whole (run.over.outcomes n host there));
      memories = λ d lt.
          ap (λ list. slice_index_or list d (memory_at (record { hosts = []; memories = [] }) d)) memories
          ∙ memory_there network joints nodes s d (memory_at (record { hosts = []; memories = [] }) d) lt
          ∙ device_tells network journal d (node_at nodes (device_number network d)) (run.over.memories d lt);
    }

-- Where nodes of a network stand in groups, and could be taken apart, so can those that stand there later.
pub still_apart : {F T U : Type 0} (network : Network) (joints : List Joint) (before after : List (List (Member F T U))) (count : ℕ) (room : Apart F T U) → StandsFor network joints (dealt_nodes before)
    → StandsFor network joints (dealt_nodes after) → IsDealt after → CanBeTakenApart before joints count room → CanBeTakenApart after joints count room
still_apart network joints before after count room was is dealt can =
    let many = transactions_count network joints (dealt_nodes before) was in let much = memories_count network joints (dealt_nodes before) was in
    let hosts = can.room_is.hosts in let devices = can.room_is.devices in record {
      dealt = dealt;
      count_is = can.count_is ∙ sym (total_of before) ∙ was.nodes_count ∙ sym is.nodes_count ∙ total_of after;
      few = can.few;
      room_is = room_there network joints (dealt_nodes after) is room can.ports can.ends can.room_is.no_hosts can.room_is.no_devices (omega (arith, many, hosts)) (omega (arith, much, devices));
      ports = can.ports;
      ends = can.ends;
    }

-- what holds of two values holds of what they are equal to
pub of_both : {A B : Type 0} (P : A → B → Type 0) (a a_is : A) (b b_is : B) → a_is ≡ a → b_is ≡ b → P a b → P a_is b_is
of_both P a a_is b b_is same_a same_b p = subst (λ x. P x b_is) (sym same_a) (subst (λ y. P a y) (sym same_b) p)
