-- What is spent at the rings of a network is bounded by their budgets.
use Rattle.std.proofs.Common.{◌≡◌, ◌≤◌, ◌<◌, ℕ, zero, suc, ◌+◌, ◌*◌, ◌-◌, ◌^◌, Bool, true, List, [], ◌∷◌, ◌++◌, length, map, sym, subst, arith}
use Rattle.std.specs.Prelude.{◌&&◌, get_or, nat_le, slice_index_or, Option, None, Some}
use Rattle.std.specs.List.{list_all, range_with_len}
use Rattle.std.proofs.lemmas.Bool.{and_parts, leb-true}
use Rattle.std.proofs.lemmas.List.FromFn.{length-range_with_len}
use Rattle.std.proofs.lemmas.List.Sums.{sum_by-le}
use Rattle.std.proofs.lemmas.List.Elements.{All-get_or}
use Rattle.sb_packet.specs.Networks.{Network}
use Rattle.sb_link.specs.RingPlans.{RingPlan}
use Rattle.sb_flow.specs.Rings.{ring_budget, ring_plan}
use Rattle.sb_link.specs.Traffic.{AreInTurn}
use Rattle.sb_packet.specs.declared.packet.Packet.{Packet}
use Rattle.sb_port.specs.Ports.{IsFit}
use Rattle.sb_node.specs.Sides.{RingSide, port_moves}
use Rattle.sb_router.specs.Lanes.{InletState, no_ring}
use Rattle.sb_router.specs.Rested.{free_count, inlet_moves}
use Rattle.sb_flow.specs.Accepted.{IsAccepted, is_from_to, is_limited, is_limited_device, is_limited_host, is_limited_link, is_limited_router, page_count}
use Rattle.sb_laws.specs.Moves.{move_bound}
use Rattle.sb_laws.specs.NetworkLayouts.{ring_count}
use Rattle.sb_laws.proofs.InTurn.{begins_in_turn}
use Rattle.sb_laws.proofs.PortSides.{moves_are_few, received_are_few}
use Rattle.sb_member.specs.Ends.{ring_at, rings_of}
use Rattle.sb_member.specs.Joints.{joint_at, no_node, node_at, receiver_of, sender_of}
use Rattle.sb_member.specs.Members.{IsWholeMember}
use Rattle.sb_member.specs.declared.joint.Joint.{Joint}
use Rattle.sb_member.specs.declared.member.Member.{Member}
use Rattle.sb_member.specs.declared.member.Member.TheVariants.{Host, Router, Device}
use Rattle.sb_member.proofs.EndsChanged.{below_one}
use Rattle.sb_net.specs.RingEnds.{AreLinked}
use Rattle.sb_net.specs.Spent.{network_moves, node_receipts, spent, spent_at}
use Rattle.sb_net.specs.Standing.{StandsFor, node_count}
use Rattle.sb_net.proofs.GrownSums.{range_grows}
use Rattle.sb_net.proofs.SpendingRounds.{sending_at, spent_is}
use Rattle.sb_net.proofs.StandingEnds.{fits}
use Rattle.sb_net.proofs.WordsAtDevices.{ring_budget_le}

-- a router counts each item twice at most, and one more
inlet_bound : (x : InletState) → inlet_moves x ≤ 2 * length x.ring.received + 1
inlet_bound x = let one = of_held x.held in omega (arith, one)
  where
    of_held : (held : Option Packet) → free_count held ≤ 1
    of_held None = omega arith
    of_held (Some p) = omega arith

abbrev ring_in : InletState → RingSide
ring_in x = x.ring

-- so do the lists of a direction, place by place
place_bound : (xs : List InletState) (i : ℕ) → slice_index_or (map inlet_moves xs) i 0 ≤ 2 * length (slice_index_or (map ring_in xs) i no_ring).received + 1
place_bound [] i = omega arith
place_bound (x ∷ xs) zero = inlet_bound x
place_bound (x ∷ xs) (suc i) = place_bound xs i

router_bound : (xs ys : List InletState) (i : ℕ)
    → slice_index_or (map inlet_moves xs ++ map inlet_moves ys) i 0 ≤ 2 * length (slice_index_or (map ring_in xs ++ map ring_in ys) i no_ring).received + 1
router_bound [] ys i = place_bound ys i
router_bound (x ∷ xs) ys zero = inlet_bound x
router_bound (x ∷ xs) ys (suc i) = router_bound xs ys i

module _ {F T U : Type 0} where
  -- a node counts each item that came by a ring twice at most, and one more
  receipt_bound : (m : Member F T U) (i : ℕ) → i < length (rings_of m) → slice_index_or (node_receipts m) i 0 ≤ 2 * length (ring_at m i).received + 1
  receipt_bound (Host h) i below = subst (λ k. slice_index_or (length h.answers.received ∷ []) k 0 ≤ 2 * length (slice_index_or (h.answers ∷ []) k no_ring).received + 1) (sym (below_one i below)) (omega arith)
  receipt_bound (Router r) i below = router_bound r.requests.lane.inlets r.answers.lane.inlets i
  receipt_bound (Device d) i below = subst (λ k. slice_index_or (length d.requests.received ∷ []) k 0 ≤ 2 * length (slice_index_or (d.requests ∷ []) k no_ring).received + 1) (sym (below_one i below)) (omega arith)

module _ {F T U : Type 0} (network : Network) (joints : List Joint) (nodes : List (Member F T U)) (stands : StandsFor network joints nodes) where
  -- the port in front of a ring is fit by the ring's plan
  pub sender_fits : (r : ℕ) → r < length joints → IsFit (ring_plan network r) (sender_of nodes (joint_at joints r)).state
  sender_fits r below =
      let j = joint_at joints r in
      let p = stands.joined.placed r below in
      subst (λ (plan : RingPlan). IsFit plan (sender_of nodes j).state) (stands.sends_by r below)
      (fits (node_at nodes j.from) j.out (All-get_or IsWholeMember nodes j.from no_node p.from stands.joined.whole) p.out)

  -- what came by a ring is in turn by its plan
  pub come_in_turn : AreLinked joints nodes → (r : ℕ) → r < length joints → AreInTurn (ring_plan network r) (receiver_of nodes (joint_at joints r)).received
  come_in_turn linked r below =
      let j = joint_at joints r in
      begins_in_turn (ring_plan network r) (receiver_of nodes j).received (sender_of nodes j).state.sent (linked r below) (sender_fits r below).in_turn

  at_ring : AreLinked joints nodes → (r : ℕ) → r < length joints → spent_at joints nodes r ≤ 2 * (4 * (ring_budget network r + 1))
  at_ring linked r below =
      let j = joint_at joints r in
      let p = stands.joined.placed r below in
      let fit = sender_fits r below in
      let sent : port_moves (sender_of nodes j) ≤ 3 * ring_budget network r + 1 = moves_are_few (ring_plan network r) (sender_of nodes j).state fit fit.in_turn in
      let few : length (receiver_of nodes j).received ≤ ring_budget network r + 1 = received_are_few (ring_plan network r) (receiver_of nodes j).received (come_in_turn linked r below) in
      let received = receipt_bound (node_at nodes j.to) j.into p.into in
      let counted = sending_at (node_at nodes j.from) j.out in
      omega (arith, sent, few, received, counted, spent_is joints nodes r below)

  -- what is spent is within the bound of all rings
  pub spent_within : AreLinked joints nodes → spent joints nodes ≤ network_moves network
  spent_within linked =
      subst (λ n. spent joints nodes ≤ move_bound (range_with_len 0 n) (ring_budget network)) stands.rings
      (range_grows (spent_at joints nodes) (λ r. 2 * (4 * (ring_budget network r + 1))) 0 (length joints) (λ r below. at_ring linked r (omega (arith, below))))

-- four of nine tests that all pass
first_of_nine : (a b c d e f g h i : Bool) → (a && b && c && d && e && f && g && h && i) ≡ true → (a ≡ true) × (b ≡ true) × (c ≡ true) × (d ≡ true)
first_of_nine a b c d e f g h i all =
    let eight = (and_parts (a && b && c && d && e && f && g && h) i all).0 in
    let seven = (and_parts (a && b && c && d && e && f && g) h eight).0 in
    let six = (and_parts (a && b && c && d && e && f) g seven).0 in
    let five = (and_parts (a && b && c && d && e) f six).0 in
    let four = (and_parts (a && b && c && d) e five).0 in
    let three = and_parts (a && b && c) d four in
    let two = and_parts (a && b) c three.0 in
    let one = and_parts a b two.0 in
    (one.0, one.1, two.1, three.1)

-- a limited network has few hosts, routers, devices and links
module _ (network : Network) (limited : is_limited network ≡ true) where
  abbrev parts : (is_from_to 1 32 (length network.hosts) ≡ true) × (is_from_to 1 32 (length network.routers) ≡ true) × (is_from_to 1 32 (length network.devices) ≡ true) × (is_from_to 1 128 (length network.links) ≡ true)
  parts = first_of_nine (is_from_to 1 32 (length network.hosts)) (is_from_to 1 32 (length network.routers)) (is_from_to 1 32 (length network.devices))
      (is_from_to 1 128 (length network.links)) (list_all is_limited_host network.hosts) (list_all is_limited_router network.routers)
      (list_all is_limited_device network.devices) (list_all is_limited_link network.links) (nat_le (page_count network) 4096) limited

  at_most : (most n : ℕ) → is_from_to 1 most n ≡ true → n ≤ most
  at_most most n within = leb-true n most (and_parts (nat_le 1 n) (nat_le n most) within).1

  pub links_are_few : length network.links ≤ 128
  links_are_few = at_most 128 (length network.links) parts.3

  pub nodes_are_few : node_count network ≤ 96
  nodes_are_few =
      let hosts = at_most 32 (length network.hosts) parts.0 in
      let routers = at_most 32 (length network.routers) parts.1 in
      let devices = at_most 32 (length network.devices) parts.2 in
      omega (arith, hosts, routers, devices)

  at_least : (most n : ℕ) → is_from_to 1 most n ≡ true → 1 ≤ n
  at_least most n within = leb-true 1 n (and_parts (nat_le 1 n) (nat_le n most) within).0

  pub some_node : 0 < node_count network
  some_node = let hosts = at_least 32 (length network.hosts) parts.0 in omega (arith, hosts)

-- at most 256 rings, and at each of them at most 8 times the words of all scripts and one more
pub moves_are_small : (network : Network) → IsAccepted network → network_moves network < 2 ^ 32 - 1
moves_are_small network accepted =
    let most : ℕ = 2 * (4 * 262145) in
    let rings = range_with_len 0 (ring_count network) in
    let each = sum_by-le (λ r. 2 * (4 * (ring_budget network r + 1))) most rings (λ k d below. small_ring (get_or (range_with_len 0 (ring_count network)) k d)) in
    let few = links_are_few network accepted.limits in
    omega (arith, each, few, length-range_with_len 0 (ring_count network))
  where
    small_ring : (r : ℕ) → 2 * (4 * (ring_budget network r + 1)) ≤ 2 * (4 * 262145)
    small_ring r = let one = ring_budget_le network r in let all = accepted.words in omega (arith, one, all)
