-- Nodes that were taken apart have the ends of each ring at its number, as the fabric that made them takes them back.
use Rattle.std.proofs.Common.{◌≡◌, ℕ, ◌+◌, ◌<◌, List, length, map, refl, sym, ap, ◌∙◌, subst, arith}
use Rattle.std.specs.Prelude.{Contains, Option, None, Some, flat_map, slice_index_or}
use Rattle.std.specs.Option.{option_map}
use Rattle.std.specs.List.{range_with_len}
use Rattle.std.proofs.lemmas.List.{get_or-map, length-map}
use Rattle.std.proofs.lemmas.List.FromFn.{get_or-range_with_len, length-range_with_len}
use Rattle.sb_packet.specs.Networks.{Network}
use Rattle.sb_link.specs.declared.ends.RxEnd as rx
use Rattle.sb_link.specs.RingPlans.{RingPlan}
use Rattle.sb_flow.specs.Rings.{ring_plan}
use Rattle.sb_port.specs.Ports.{PortSide}
use Rattle.sb_node.specs.Sides.{RingSide, ring_side}
use Rattle.sb_member.specs.Ends.{ports_of, rings_of}
use Rattle.sb_member.specs.Joints.{joint_at, receiver_of, sender_of}
use Rattle.sb_member.specs.declared.joint.Joint.{Joint}
use Rattle.sb_member.specs.declared.member.Member.{Member}
use Rattle.sb_net.specs.Apart.{end_places, put_by, ring_ahead, ring_behind}
use Rattle.sb_net.specs.RingEnds.{HasEndsAt}
use Rattle.sb_net.specs.Legs.{first_plans}
use Rattle.sb_net.specs.Standing.{StandsFor}
use Rattle.sb_net.proofs.PutBy.{put_length}
use Rattle.sb_net.proofs.RingsLie.{end_lies, port_lies}
use Rattle.sb_net.proofs.TakenNodes.{ends_stay}
use Rattle.sb_net.proofs.TakenPlaces.{not_both, one_held}

-- the end that lies where a ring does
pub record HasEnd {U : Type 0} (rx : rx.Ghosts U) (o : Option U) (ring : RingSide) : Type 0 where
  pub end : U
  pub there : o ≡ Some end
  pub is : ring_side rx end ≡ ring

end_under : {U : Type 0} (rx : rx.Ghosts U) (o : Option U) (ring : RingSide) → option_map (ring_side rx) o ≡ Some ring → HasEnd rx o ring
end_under rx None ring e = absurd (not_both None ring refl e)
end_under rx (Some u) ring e = record { end = u; there = refl; is = one_held (Some (ring_side rx u)) (ring_side rx u) ring refl e }

-- the plan of each ring is among those of the rings that were made
pub plan_made : (network : Network) (n r : ℕ) → r < n → Contains (first_plans network n) (ring_plan network r)
plan_made network n r lt =
    let plain : 0 + r ≡ r = omega arith in (
      r,
      omega (arith, lt, length-map (range_with_len 0 n) (ring_plan network), length-range_with_len 0 n),
      get_or-map (ring_plan network) (range_with_len 0 n) r 0 (ring_plan network r) (omega (arith, lt, length-range_with_len 0 n)) ∙ ap (ring_plan network) (get_or-range_with_len 0 n r 0 lt ∙ plain),
    )

module _ {F T U : Type 0} (rx : rx.Ghosts U) (network : Network) (joints : List Joint) (nodes : List (Member F T U)) (s : StandsFor network joints nodes) (ports_before ports : List (Option PortSide)) (ends_before ends : List (Option U))
    (ports_are : ports ≡ put_by ring_ahead (flat_map ports_of nodes) ports_before) (ends_are : end_places rx ends ≡ put_by ring_behind (flat_map rings_of nodes) (end_places rx ends_before))
    (ports_long : length ports_before ≡ length joints) (ends_long : length ends_before ≡ length joints) where
  pub ports_count : length ports ≡ length joints
  ports_count = ap (λ list. length list) ports_are ∙ put_length ring_ahead (flat_map ports_of nodes) ports_before ∙ ports_long

  pub ends_count : length ends ≡ length joints
  ends_count = ends_stay rx (flat_map rings_of nodes) ends_before ends ends_are ∙ ends_long

  port_there : (r : ℕ) → r < length joints → slice_index_or ports r None ≡ Some (sender_of nodes (joint_at joints r))
  port_there r lt = ap (λ list. slice_index_or list r None) ports_are ∙ port_lies network joints nodes s ports_before r ports_long lt

  pub end_of : (r : ℕ) → r < length joints → HasEnd rx (slice_index_or ends r None) (receiver_of nodes (joint_at joints r))
  end_of r lt = let long = ends_count in
      end_under rx (slice_index_or ends r None) (receiver_of nodes (joint_at joints r))
      (sym (get_or-map (option_map (ring_side rx)) ends r None None (omega (arith, lt, long))) ∙ ap (λ list. slice_index_or list r None) ends_are
      ∙ end_lies network joints nodes s (end_places rx ends_before) r (length-map ends_before (option_map (ring_side rx)) ∙ ends_long) lt)

  pub ends_at : (r : ℕ) → r < length ports → HasEndsAt rx r ports ends
  ends_at r below = let long = ports_count in let lt : r < length joints = omega (arith, below, long) in let e = end_of r lt in record {
    port = sender_of nodes (joint_at joints r);
    end = e.end;
    port_there = port_there r lt;
    end_there = e.there;
    ring = s.joined.sent_by r lt;
    marks = (s.joined.placed r lt).marks ∙ ap (λ ring. ring.mark) (sym e.is);
  }

  pub made_at : (made : List RingPlan) (n : ℕ) → made ≡ first_plans network n → length joints ≡ n → (r : ℕ) (port : PortSide) → r < length ports → slice_index_or ports r None ≡ Some port → Contains made port.plan
  made_at made n are count r port below is = let long = ports_count in let lt : r < length joints = omega (arith, below, long) in
      subst (λ list. Contains list port.plan) (sym are)
      (subst (λ plan. Contains (first_plans network n) plan) (sym (s.sends_by r lt) ∙ ap (λ p. p.plan) (one_held (slice_index_or ports r None) (sender_of nodes (joint_at joints r)) port (port_there r lt) is))
      (plan_made network n r (omega (arith, lt, count))))
