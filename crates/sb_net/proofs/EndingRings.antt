-- The ports and rings of a network's nodes once each ring has given its Close.
use Rattle.std.proofs.Common.{◌≡◌, ℕ, zero, suc, ◌<◌, Bool, true, false, List, [], ◌∷◌, length, refl, sym, ap, ◌∙◌, arith}
use Rattle.std.specs.Prelude.{◌&&◌, slice_index_or}
use Rattle.std.specs.List.{list_all}
use Rattle.std.proofs.lemmas.List.Elements.{All-get_or}
use Rattle.sb_link.specs.Traffic.{has_close}
use Rattle.sb_port.specs.Ports.{PortSide}
use Rattle.sb_node.specs.Sides.{RingSide, has_ended, is_done}
use Rattle.sb_router.specs.Lanes.{no_port, no_ring}
use Rattle.sb_member.specs.Ends.{port_at, ports_of, ring_at, rings_of}
use Rattle.sb_member.specs.Joints.{IsJoined, joint_at, no_node, node_at}
use Rattle.sb_member.specs.Members.{IsWholeMember}
use Rattle.sb_member.specs.declared.joint.Joint.{Joint}
use Rattle.sb_member.specs.declared.member.Member.{Member}
use Rattle.sb_net.specs.RingEnds.{port_here, ring_here}
use Rattle.sb_net.specs.Standing.{IsCovered}
use Rattle.sb_net.proofs.StandingEnds.{fits, port_stands, ring_stands}

pub both : (a b : Bool) → a ≡ true → b ≡ true → (a && b) ≡ true
both a b first second = ap (λ (c : Bool). c && b) first ∙ second

pub halves : (a b : Bool) → (a && b) ≡ true → (a ≡ true) × (b ≡ true)
halves true b e = (refl, e)
halves false b e = absurd (cc)

-- each element passes a test where that at each place does
pub each_passes : {A : Type 0} (test : A → Bool) (xs : List A) (none : A) → ((k : ℕ) → k < length xs → test (slice_index_or xs k none) ≡ true) → list_all test xs ≡ true
each_passes test [] none h = refl
each_passes test (x ∷ xs) none h = both (test x) (list_all test xs) (h 0 (omega arith)) (each_passes test xs none (λ k lt. h (suc k) (omega (arith, lt))))

-- and the other way
pub passes_each : {A : Type 0} (test : A → Bool) (xs : List A) (none : A) → list_all test xs ≡ true → (k : ℕ) → k < length xs → test (slice_index_or xs k none) ≡ true
passes_each test [] none h k lt = absurd (omega (arith, lt))
passes_each test (x ∷ xs) none h zero lt = (halves (test x) (list_all test xs) h).0
passes_each test (x ∷ xs) none h (suc k) lt = passes_each test xs none (halves (test x) (list_all test xs) h).1 k (omega (arith, lt))

module _ {F T U : Type 0} (joints : List Joint) (nodes : List (Member F T U)) where
  module _ (covered : IsCovered joints nodes) where
    -- what stands at the ring of each port of each node is that port, and the same of its rings
    pub port_found : (k o : ℕ) → k < length nodes → o < length (ports_of (node_at nodes k)) → port_here joints nodes (port_at (node_at nodes k) o).plan.ring ≡ port_at (node_at nodes k) o
    port_found k o node place =
        let at = covered.ports k o node place in
        let j = joint_at joints (port_at (node_at nodes k) o).plan.ring in
        port_stands joints nodes (port_at (node_at nodes k) o).plan.ring at.ring ∙ ap (λ n. port_at (node_at nodes n) j.out) at.from ∙ ap (port_at (node_at nodes k)) at.out

    pub ring_found : (k i : ℕ) → k < length nodes → i < length (rings_of (node_at nodes k)) → ring_here joints nodes (ring_at (node_at nodes k) i).plan.ring ≡ ring_at (node_at nodes k) i
    ring_found k i node place =
        let at = covered.rings k i node place in
        let j = joint_at joints (ring_at (node_at nodes k) i).plan.ring in
        ring_stands joints nodes (ring_at (node_at nodes k) i).plan.ring at.ring ∙ ap (λ n. ring_at (node_at nodes n) j.into) at.to ∙ ap (ring_at (node_at nodes k)) at.into

    module _ (joined : IsJoined joints nodes)
        (closed : (r : ℕ) → r < length joints → has_close (port_here joints nodes r).state.sent ≡ true)
        (ended : (r : ℕ) → r < length joints → has_close (ring_here joints nodes r).received ≡ true) where
      pub node_whole : (k : ℕ) → k < length nodes → IsWholeMember (node_at nodes k)
      node_whole k node = All-get_or IsWholeMember nodes k no_node node joined.whole

      -- each port has sent its Close, and each ring has given its own
      pub port_shut : (k o : ℕ) → k < length nodes → o < length (ports_of (node_at nodes k)) → (port_at (node_at nodes k) o).state.close_sent ≡ true
      port_shut k o node place =
          (fits (node_at nodes k) o (node_whole k node) place).close ∙ sym (ap (λ (p : PortSide). has_close p.state.sent) (port_found k o node place))
          ∙ closed (port_at (node_at nodes k) o).plan.ring (covered.ports k o node place).ring

      pub port_told : (k o : ℕ) → k < length nodes → o < length (ports_of (node_at nodes k)) → (port_at (node_at nodes k) o).state.close_requested ≡ true
      port_told k o node place = (fits (node_at nodes k) o (node_whole k node) place).told (port_shut k o node place)

      ring_ended : (k i : ℕ) → k < length nodes → i < length (rings_of (node_at nodes k)) → has_ended (ring_at (node_at nodes k) i) ≡ true
      ring_ended k i node place =
          sym (ap (λ (x : RingSide). has_close x.received) (ring_found k i node place)) ∙ ended (ring_at (node_at nodes k) i).plan.ring (covered.rings k i node place).ring

      -- so each node is done
      pub node_done : (k : ℕ) → k < length nodes → is_done (ports_of (node_at nodes k)) (rings_of (node_at nodes k)) ≡ true
      node_done k node =
          let ports = ports_of (node_at nodes k) in
          let rings = rings_of (node_at nodes k) in
          both (list_all (λ (p : PortSide). p.state.close_sent) ports) (list_all has_ended rings)
          (each_passes (λ (p : PortSide). p.state.close_sent) ports no_port (λ o place. port_shut k o node place))
          (each_passes has_ended rings no_ring (λ i place. ring_ended k i node place))
