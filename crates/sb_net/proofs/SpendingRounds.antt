-- A round spends no less than was spent, and more where a node moved.
use Rattle.std.proofs.Common.{◌≡◌, ◌≤◌, ◌<◌, inl, inr, ℕ, ◌+◌, Bool, true, List, length, map, refl, sym, ap, ◌∙◌, subst, arith, length-append}
use Rattle.std.proofs.lemmas.List.{length-map}
use Rattle.std.specs.Prelude.{slice_index_or, if◌then◌else◌}
use Rattle.std.proofs.Math.ListN.{get_or-map}
use Rattle.std.proofs.lemmas.Bool.{cases_lt}
use Rattle.std.proofs.lemmas.List.Sums.{sum_by-append}
use Rattle.sb_drive.specs.Rounds.{HasMoved}
use Rattle.sb_link.specs.declared.answers.Turn.{Turn}
use Rattle.sb_node.specs.Sides.{port_moves}
use Rattle.sb_router.specs.Lanes.{no_port}
use Rattle.sb_router.specs.Rested.{inlet_moves}
use Rattle.sb_packet.specs.Networks.{Network}
use Rattle.sb_member.specs.Ends.{port_at, ports_of, rings_of, ring_at}
use Rattle.sb_member.specs.Joints.{joint_at, no_node, node_at, sender_of}
use Rattle.sb_member.specs.Members.{IsKeptMember, IsMemberTurn}
use Rattle.sb_member.specs.declared.joint.Joint.{Joint}
use Rattle.sb_member.specs.declared.member.Member.{Member}
use Rattle.sb_member.specs.declared.member.Member.TheVariants.{Host, Router, Device}
use Rattle.sb_member.proofs.Turned.{EachKept, each_kept}
use Rattle.sb_net.specs.Running.{AreNetTurns}
use Rattle.sb_net.specs.Spent.{node_receipts, spent, spent_at}
use Rattle.sb_net.specs.Standing.{StandsFor}
use Rattle.sb_net.proofs.GrownSums.{GrewAt, NoLess, one_grew, range_grows, range_grows_more, total, total_grows}
use Rattle.sb_net.proofs.SpendingNodes.{doings, doings_grow, moved_adds, node_sendings, receipts_grow, sendings_grow}
use Rattle.sb_net.proofs.StandingEnds.{is_below}

module _ {F T U : Type 0} where
  -- a port's number among those of its node
  pub sending_at : (m : Member F T U) (o : ℕ) → slice_index_or (node_sendings m) o 0 ≡ port_moves (port_at m o)
  sending_at m o = get_or-map port_moves (ports_of m) o no_port

  -- a node counts something of each of its rings
  pub receipts_count : (m : Member F T U) → length (node_receipts m) ≡ length (rings_of m)
  receipts_count (Host h) = refl
  receipts_count (Router r) =
      let us = r.requests.lane.inlets in let vs = r.answers.lane.inlets in
      length-append (map inlet_moves us) (map inlet_moves vs) ∙ omega (arith, length-map us inlet_moves, length-map vs inlet_moves, length-map us (λ x. x.ring), length-map vs (λ x. x.ring), length-append (map (λ x. x.ring) us) (map (λ x. x.ring) vs))
  receipts_count (Device d) = refl

  module _ (joints : List Joint) (nodes : List (Member F T U)) (r : ℕ) (below : r < length joints) where
    abbrev j : Joint
    j = joint_at joints r

    -- what is spent at a ring, as its two nodes count it
    pub spent_is : spent_at joints nodes r ≡ slice_index_or (node_sendings (node_at nodes j.from)) j.out 0 + slice_index_or (node_receipts (node_at nodes j.to)) j.into 0
    spent_is =
        ap (λ b. port_moves (if b then sender_of nodes j else no_port) + (if b then slice_index_or (node_receipts (node_at nodes j.to)) j.into 0 else 0)) (is_below r (length joints) below)
        ∙ ap (λ (n : ℕ). n + slice_index_or (node_receipts (node_at nodes j.to)) j.into 0) (sym (sending_at (node_at nodes j.from) j.out))

module _ {F T U : Type 0} (network : Network) (joints : List Joint) (before after : List (Member F T U)) (round : ℕ) (stands : StandsFor network joints before) (kept : EachKept round before after) where
  sendings : (k : ℕ) → k < length before → NoLess (node_sendings (node_at before k)) (node_sendings (node_at after k))
  sendings k inside = sendings_grow round (node_at before k) (node_at after k) (kept k inside)

  receipts : (k : ℕ) → k < length before → NoLess (node_receipts (node_at before k)) (node_receipts (node_at after k))
  receipts k inside = receipts_grow round (node_at before k) (node_at after k) (kept k inside)

  -- nothing is taken back at a ring
  spent_grows : (r : ℕ) → r < length joints → spent_at joints before r ≤ spent_at joints after r
  spent_grows r below =
      let j = joint_at joints r in
      let p = stands.joined.placed r below in
      let sent = (sendings j.from p.from).each j.out in
      let received = (receipts j.to p.to).each j.into in
      omega (arith, sent, received, spent_is joints before r below, spent_is joints after r below)

  in_row : (r : ℕ) → r < 0 + length joints → spent_at joints before r ≤ spent_at joints after r
  in_row r below = spent_grows r (omega (arith, below))

  pub round_grows : spent joints before ≤ spent joints after
  round_grows = range_grows (spent_at joints before) (spent_at joints after) 0 (length joints) in_row

  -- where more was done at one end, more was spent at its ring
  at_port : (k o : ℕ) → k < length before → o < length (ports_of (node_at before k))
      → slice_index_or (node_sendings (node_at before k)) o 0 < slice_index_or (node_sendings (node_at after k)) o 0 → spent joints before < spent joints after
  at_port k o inside place more =
      let r = (port_at (node_at before k) o).plan.ring in
      let at = stands.covered.ports k o inside place in
      let j = joint_at joints r in
      let p = stands.joined.placed r at.ring in
      let here : slice_index_or (node_sendings (node_at before j.from)) j.out 0 < slice_index_or (node_sendings (node_at after j.from)) j.out 0
      = subst (λ n. slice_index_or (node_sendings (node_at before n)) j.out 0 < slice_index_or (node_sendings (node_at after n)) j.out 0) (sym at.from)
      (subst (λ n. slice_index_or (node_sendings (node_at before k)) n 0 < slice_index_or (node_sendings (node_at after k)) n 0) (sym at.out) more) in
      let received = (receipts j.to p.to).each j.into in
      range_grows_more (spent_at joints before) (spent_at joints after) 0 (length joints) r in_row (omega arith) (let lt = at.ring in omega (arith, lt))
      (omega (arith, here, received, spent_is joints before r at.ring, spent_is joints after r at.ring))

  at_ring : (k i : ℕ) → k < length before → i < length (rings_of (node_at before k))
      → slice_index_or (node_receipts (node_at before k)) i 0 < slice_index_or (node_receipts (node_at after k)) i 0 → spent joints before < spent joints after
  at_ring k i inside place more =
      let r = (ring_at (node_at before k) i).plan.ring in
      let at = stands.covered.rings k i inside place in
      let j = joint_at joints r in
      let p = stands.joined.placed r at.ring in
      let here : slice_index_or (node_receipts (node_at before j.to)) j.into 0 < slice_index_or (node_receipts (node_at after j.to)) j.into 0
      = subst (λ n. slice_index_or (node_receipts (node_at before n)) j.into 0 < slice_index_or (node_receipts (node_at after n)) j.into 0) (sym at.to)
      (subst (λ n. slice_index_or (node_receipts (node_at before k)) n 0 < slice_index_or (node_receipts (node_at after k)) n 0) (sym at.into) more) in
      let sent = (sendings j.from p.from).each j.out in
      range_grows_more (spent_at joints before) (spent_at joints after) 0 (length joints) r in_row (omega arith) (let lt = at.ring in omega (arith, lt))
      (omega (arith, here, sent, spent_is joints before r at.ring, spent_is joints after r at.ring))

  -- a node that did more did so at one of its ends
  by_node : (k : ℕ) → k < length before → total (doings (node_at before k)) < total (doings (node_at after k)) → spent joints before < spent joints after
  by_node k inside more = elim (cases_lt (total (node_sendings x)) (total (node_sendings y))) [
    | inl lt ↦ let at : GrewAt (node_sendings x) (node_sendings y) = one_grew (node_sendings x) (node_sendings y) (sendings k inside) lt in
        at_port k at.place inside (let place = at.inside in omega (arith, place, length-map (ports_of x) port_moves)) at.more
    | inr le ↦ let at : GrewAt (node_receipts x) (node_receipts y) = one_grew (node_receipts x) (node_receipts y) (receipts k inside)
        (omega (arith, more, le, sum_by-append (λ (n : ℕ). n) (node_sendings x) (node_receipts x), sum_by-append (λ (n : ℕ). n) (node_sendings y) (node_receipts y))) in
        at_ring k at.place inside (let place = at.inside in omega (arith, place, receipts_count x)) at.more
  ]
    where
      x : Member F T U
      x = node_at before k

      y : Member F T U
      y = node_at after k

module _ {F T U : Type 0} (network : Network) (joints : List Joint) (before after : List (Member F T U)) (round : ℕ) (stands : StandsFor network joints before) where
  pub turned : (moved : Bool) → AreNetTurns round before after moved → spent joints before ≤ spent joints after
  turned moved went = round_grows network joints before after round stands (each_kept round before after went.reached)

  pub round_adds : AreNetTurns round before after true → spent joints before < spent joints after
  round_adds went = by_node network joints before after round stands (each_kept round before after went.reached) some.0 some.1
      (omega (arith, first, turn, rest))
    where
      some : (k : ℕ) × (k < length before) × ((none : Member F T U) → HasMoved (λ number x y. IsKeptMember number x y) (λ x number answer y. IsMemberTurn number x answer y) round (slice_index_or before k none) (slice_index_or after k none))
      some = went.some_moved refl

      h : HasMoved (λ number x y. IsKeptMember number x y) (λ x number answer y. IsMemberTurn number x answer y) round (node_at before some.0) (node_at after some.0)
      h = some.2 no_node

      first : total (doings (node_at before some.0)) ≤ total (doings h.start)
      first = total_grows (doings (node_at before some.0)) (doings h.start) (doings_grow round (node_at before some.0) h.start h.to_turn)

      turn : total (doings h.start) < total (doings h.end)
      turn = moved_adds round h.start h.end h.turn

      rest : total (doings h.end) ≤ total (doings (node_at after some.0))
      rest = total_grows (doings h.end) (doings (node_at after some.0)) (doings_grow round h.end (node_at after some.0) h.from_turn)
