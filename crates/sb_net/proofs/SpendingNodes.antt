-- What a node did at its ports and rings: none of it is taken back, and a turn that moved adds to it.
use Rattle.std.proofs.Common.{◌≡◌, ◌<◌, ℕ, List, ◌++◌, length, arith}
use Rattle.std.specs.Prelude.{map}
use Rattle.std.proofs.lemmas.List.Sums.{sum_by-append}
use Rattle.sb_link.specs.declared.answers.Turn.TheVariants.{Moved}
use Rattle.sb_node.specs.Sides.{port_moves}
use Rattle.sb_node.proofs.Answering.{moves_kept, prefix_length}
use Rattle.sb_router.specs.Rested.{IsKeptLane, inlet_moves}
use Rattle.sb_router.specs.Lanes.{LaneState, no_inlet, no_port}
use Rattle.sb_router.specs.Routers.{RouterSide, router_moves, router_ports}
use Rattle.sb_member.specs.Ends.{ports_of}
use Rattle.sb_member.specs.Members.{IsKeptMember, IsMemberTurn}
use Rattle.sb_member.specs.declared.member.Member.{Member}
use Rattle.sb_member.specs.declared.member.Member.TheVariants.{Host, Router, Device}
use Rattle.sb_member.proofs.Turned.{ports_kept}
use Rattle.sb_net.specs.Spent.{node_receipts}
use Rattle.sb_net.proofs.GrownSums.{NoLess, both_grow, map_grows, one_grows, total, total_map}

inlets_grow : (s t : LaneState) → IsKeptLane s t → NoLess (map inlet_moves s.inlets) (map inlet_moves t.inlets)
inlets_grow s t kept = map_grows inlet_moves no_inlet s.inlets t.inlets kept.inlet_count (λ i below. (kept.inlets i).moves)

-- what a router did, as its two lists count it
router_counts : (r : RouterSide) → router_moves r ≡ total (map port_moves (router_ports r) ++ (map inlet_moves r.requests.lane.inlets ++ map inlet_moves r.answers.lane.inlets))
router_counts r =
    let us = map inlet_moves r.requests.lane.inlets in
    let vs = map inlet_moves r.answers.lane.inlets in
    let xs = r.requests.lane.outlets in
    let ys = r.answers.lane.outlets in
    let all = sum_by-append (λ (n : ℕ). n) (map port_moves (xs ++ ys)) (us ++ vs) in
    let ins = sum_by-append (λ (n : ℕ). n) us vs in
    let outs = total_map port_moves (xs ++ ys) in
    let split = sum_by-append port_moves xs ys in
    let first = total_map inlet_moves r.requests.lane.inlets in
    let second = total_map inlet_moves r.answers.lane.inlets in
    omega (arith, all, ins, outs, split, first, second)

module _ {F T U : Type 0} where
  -- what was done at each port of a node
  abbrev pub node_sendings : Member F T U → List ℕ
  node_sendings m = map port_moves (ports_of m)

  -- and at all its ends
  abbrev pub doings : Member F T U → List ℕ
  doings m = node_sendings m ++ node_receipts m

  pub sendings_grow : (round : ℕ) (x y : Member F T U) → IsKeptMember round x y → NoLess (node_sendings x) (node_sendings y)
  sendings_grow round x y kept = let ends = ports_kept round x y kept in map_grows port_moves no_port (ports_of x) (ports_of y) ends.count (λ i below. moves_kept (ends.each i below))

  pub receipts_grow : (round : ℕ) (x y : Member F T U) → IsKeptMember round x y → NoLess (node_receipts x) (node_receipts y)
  receipts_grow round (Host x) (Host y) h = one_grows (length x.answers.received) (length y.answers.received) (prefix_length h.answers.received_more)
  receipts_grow round (Router x) (Router y) h =
      both_grow (map inlet_moves x.requests.lane.inlets) (map inlet_moves y.requests.lane.inlets) (map inlet_moves x.answers.lane.inlets) (map inlet_moves y.answers.lane.inlets)
      (inlets_grow x.requests.lane y.requests.lane h.requests.lane) (inlets_grow x.answers.lane y.answers.lane h.answers.lane)
  receipts_grow round (Device x) (Device y) h = one_grows (length x.requests.received) (length y.requests.received) (prefix_length h.requests.received_more)
  receipts_grow round (Host x) (Router y) h = absurd h
  receipts_grow round (Host x) (Device y) h = absurd h
  receipts_grow round (Router x) (Host y) h = absurd h
  receipts_grow round (Router x) (Device y) h = absurd h
  receipts_grow round (Device x) (Host y) h = absurd h
  receipts_grow round (Device x) (Router y) h = absurd h

  pub doings_grow : (round : ℕ) (x y : Member F T U) → IsKeptMember round x y → NoLess (doings x) (doings y)
  doings_grow round x y kept = both_grow (node_sendings x) (node_sendings y) (node_receipts x) (node_receipts y) (sendings_grow round x y kept) (receipts_grow round x y kept)

  -- a turn that moved makes the sum greater
  pub moved_adds : (round : ℕ) (x y : Member F T U) → IsMemberTurn round x Moved y → total (doings x) < total (doings y)
  moved_adds round (Host x) (Host y) h = let more = h.answered in omega (arith, more)
  moved_adds round (Router x) (Router y) h = let more = h.answered in omega (arith, more, router_counts x, router_counts y)
  moved_adds round (Device x) (Device y) h = let more = h.answered in omega (arith, more)
  moved_adds round (Host x) (Router y) h = absurd h
  moved_adds round (Host x) (Device y) h = absurd h
  moved_adds round (Router x) (Host y) h = absurd h
  moved_adds round (Router x) (Device y) h = absurd h
  moved_adds round (Device x) (Host y) h = absurd h
  moved_adds round (Device x) (Router y) h = absurd h
