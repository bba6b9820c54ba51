-- A ring between nodes that are dealt to groups: where its ends stand, and what a meeting of them does to all nodes.
use Rattle.std.proofs.Common.{◌≡◌, ◌≢◌, ℕ, zero, suc, ◌/◌, ◌%◌, ◌<◌, List, [], ◌∷◌, length, set, refl, sym, ap, ◌∙◌, subst}
use Rattle.std.proofs.lemmas.List.{length-set}
use Rattle.sb_member.specs.Ends.{HaveJoined, HaveMetAt, member_with_port, member_with_ring, port_at, ports_of, ring_at, rings_of}
use Rattle.sb_member.specs.Groups.{HasMetAcross, HasMetInside, IsDealt, IsRingAcross, dealt_nodes, node_total, nodes_in}
use Rattle.sb_member.specs.Joints.{HasRingMet, IsRingPlaced, no_node, node_at}
use Rattle.sb_member.specs.declared.joint.Joint.{Joint}
use Rattle.sb_member.specs.declared.member.Member.{Member}
use Rattle.sb_member.proofs.Dealt.{dealt_set, dealt_still, group_there, nodes_elsewhere, nodes_there, place_there, places_differ, stands_in, total_of, total_stays}
use Rattle.sb_member.proofs.RingsMet.{met_in, within_list}

-- what was set at a place is forgotten once something else is set there
set_again : {A : Type 0} (xs : List A) (k : ℕ) (x y : A) → set (set xs k x) k y ≡ set xs k y
set_again [] k x y = refl
set_again (z ∷ xs) zero x y = refl
set_again (z ∷ xs) (suc k) x y = ap (λ list. z ∷ list) (set_again xs k x y)

module _ {F T U : Type 0} (groups : List (List (Member F T U))) (dealt : IsDealt groups) (j : Joint) (p : IsRingPlaced (dealt_nodes groups) j) where
  abbrev w : ℕ
  w = length groups

  abbrev places : Joint
  places = record { from = j.from / w; out = j.out; to = j.to / w; into = j.into }

  from_below : j.from < node_total groups
  from_below = subst (λ n. j.from < n) (total_of groups) p.from

  to_below : j.to < node_total groups
  to_below = subst (λ n. j.to < n) (total_of groups) p.to

  at_from : node_at (dealt_nodes groups) j.from ≡ node_at (nodes_in groups (j.from % w)) (j.from / w)
  at_from = stands_in groups j.from from_below

  at_to : node_at (dealt_nodes groups) j.to ≡ node_at (nodes_in groups (j.to % w)) (j.to / w)
  at_to = stands_in groups j.to to_below

  -- both nodes have their end
  pub stands_across : IsRingAcross (nodes_in groups (j.from % w)) (nodes_in groups (j.to % w)) places
  stands_across = record {
    from_place = place_there groups dealt j.from from_below;
    to_place = place_there groups dealt j.to to_below;
    out = subst (λ m. j.out < length (ports_of m)) at_from p.out;
    into = subst (λ m. j.into < length (rings_of m)) at_to p.into;
    marks = ap (λ m. (port_at m j.out).mark) (sym at_from) ∙ p.marks ∙ ap (λ m. (ring_at m j.into).mark) at_to;
  }

  pub stands_inside : j.from % w ≡ j.to % w → IsRingPlaced (nodes_in groups (j.from % w)) places
  stands_inside same = record {
    from = stands_across.from_place;
    to = subst (λ g. j.to / w < length (nodes_in groups g)) (sym same) stands_across.to_place;
    apart = places_differ j.from j.to w p.apart same;
    out = stands_across.out;
    into = subst (λ g. j.into < length (rings_of (node_at (nodes_in groups g) (j.to / w)))) (sym same) stands_across.into;
    marks = subst (λ g. (port_at (node_at (nodes_in groups (j.from % w)) (j.from / w)) j.out).mark ≡ (ring_at (node_at (nodes_in groups g) (j.to / w)) j.into).mark) (sym same) stands_across.marks;
  }

  module _ (a_then b_then : Member F T U) where
    abbrev senders : List (Member F T U)
    senders = set (nodes_in groups (j.from % w)) (j.from / w) a_then

    abbrev mid : List (List (Member F T U))
    mid = set groups (j.from % w) senders

    long : length senders ≡ length (nodes_in groups (j.from % w))
    long = length-set (nodes_in groups (j.from % w)) (j.from / w) a_then

    mid_dealt : IsDealt mid
    mid_dealt = dealt_still groups dealt (j.from % w) senders (group_there groups dealt j.from) long

    mid_count : length mid ≡ w
    mid_count = length-set groups (j.from % w) senders

    mid_below : j.to < node_total mid
    mid_below = subst (λ n. j.to < n) (sym (total_stays groups dealt (j.from % w) senders (group_there groups dealt j.from) long)) to_below

    mid_there : nodes_in mid (j.from % w) ≡ senders
    mid_there = nodes_there groups dealt (j.from % w) senders (group_there groups dealt j.from) long

    mid_elsewhere : j.to % w ≢ j.from % w → nodes_in mid (j.to % w) ≡ nodes_in groups (j.to % w)
    mid_elsewhere = nodes_elsewhere groups dealt (j.from % w) senders (group_there groups dealt j.from) long (j.to % w)

    -- all groups with both nodes changed
    abbrev both : List (List (Member F T U))
    both = set mid (j.to % w) (set (nodes_in mid (j.to % w)) (j.to / w) b_then)

    both_by_mid : both ≡ set mid (j.to % length mid) (set (nodes_in mid (j.to % length mid)) (j.to / length mid) b_then)
    both_by_mid = ap (λ n. set mid (j.to % n) (set (nodes_in mid (j.to % n)) (j.to / n) b_then)) (sym mid_count)

    both_dealt : IsDealt both
    both_dealt = subst IsDealt (sym both_by_mid) (dealt_still mid mid_dealt (j.to % length mid) (set (nodes_in mid (j.to % length mid)) (j.to / length mid) b_then) (group_there mid mid_dealt j.to)
        (length-set (nodes_in mid (j.to % length mid)) (j.to / length mid) b_then))

    both_nodes : dealt_nodes both ≡ set (set (dealt_nodes groups) j.from a_then) j.to b_then
    both_nodes = ap dealt_nodes both_by_mid ∙ dealt_set mid mid_dealt j.to b_then mid_below ∙ ap (λ list. set list j.to b_then) (dealt_set groups dealt j.from a_then from_below)

    -- the ends met in the two nodes
    both_met : HaveMetAt j.out j.into (node_at (nodes_in groups (j.from % w)) (j.from / w)) a_then (node_at (nodes_in groups (j.to % w)) (j.to / w)) b_then → HasRingMet j (dealt_nodes groups) (dealt_nodes both)
    both_met met = subst (λ list. HasRingMet j (dealt_nodes groups) list) (sym both_nodes)
        (met_in (dealt_nodes groups) j (node_at (nodes_in groups (j.from % w)) (j.from / w)) a_then (node_at (nodes_in groups (j.to % w)) (j.to / w)) b_then p
        (sym at_from ∙ within_list (dealt_nodes groups) j.from no_node (node_at (nodes_in groups (j.from % w)) (j.from / w)) p.from)
        (sym at_to ∙ within_list (dealt_nodes groups) j.to no_node (node_at (nodes_in groups (j.to % w)) (j.to / w)) p.to) met)

  module _ (after : List (List (Member F T U))) where
    -- A ring between two groups.
    module _ (apart : j.to % w ≢ j.from % w) (m : HasMetAcross (j.from % w) (j.to % w) places groups after) where
      across_is : both m.met.sender m.met.receiver ≡ after
      across_is = ap (λ list. set (mid m.met.sender m.met.receiver) (j.to % w) (set list (j.to / w) m.met.receiver)) (mid_elsewhere m.met.sender m.met.receiver apart)
          ∙ sym (m.set_there ∙ ap (λ list. set (set groups (j.from % w) list) (j.to % w) m.receivers) m.met.from_set ∙ ap (λ list. set (mid m.met.sender m.met.receiver) (j.to % w) list) m.met.to_set)

      pub across_dealt : IsDealt after
      across_dealt = subst IsDealt across_is (both_dealt m.met.sender m.met.receiver)

      pub across_met : HasRingMet j (dealt_nodes groups) (dealt_nodes after)
      across_met = subst (λ list. HasRingMet j (dealt_nodes groups) (dealt_nodes list)) across_is (both_met m.met.sender m.met.receiver m.met.met)

    -- A ring within one group.
    module _ (same : j.from % w ≡ j.to % w) (m : HasMetInside (j.from % w) places groups after) where
      abbrev here : List (Member F T U)
      here = nodes_in groups (j.from % w)

      abbrev a_then : Member F T U
      a_then = member_with_port (node_at here (j.from / w)) j.out m.met.port_then

      abbrev b_then : Member F T U
      b_then = member_with_ring (node_at here (j.to / w)) j.into m.met.ring_then

      inside_is : both a_then b_then ≡ after
      inside_is = ap (λ g. set (mid a_then b_then) g (set (nodes_in (mid a_then b_then) g) (j.to / w) b_then)) (sym same)
          ∙ ap (λ list. set (mid a_then b_then) (j.from % w) (set list (j.to / w) b_then)) (mid_there a_then b_then)
          ∙ set_again groups (j.from % w) (senders a_then b_then) (set (senders a_then b_then) (j.to / w) b_then)
          ∙ ap (λ list. set groups (j.from % w) list) (sym m.met.nodes) ∙ sym m.set_there

      pub inside_dealt : IsDealt after
      inside_dealt = subst IsDealt inside_is (both_dealt a_then b_then)

      pub inside_met : HasRingMet j (dealt_nodes groups) (dealt_nodes after)
      inside_met = subst (λ list. HasRingMet j (dealt_nodes groups) (dealt_nodes list)) inside_is (both_met a_then b_then
          (subst (λ g. HaveMetAt j.out j.into (node_at here (j.from / w)) a_then (node_at (nodes_in groups g) (j.to / w)) b_then) same
          (record { port_then = m.met.port_then; ring_then = m.met.ring_then; sender = refl; receiver = refl; joined = m.met.joined })))
