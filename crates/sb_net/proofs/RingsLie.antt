-- Where all nodes of a network were taken apart, at the number of each ring lie its port and its end.
use Rattle.std.proofs.Common.{◌≡◌, ℕ, zero, suc, ◌+◌, ◌<◌, List, [], ◌∷◌, ◌++◌, length, refl, sym, ap, ◌∙◌, subst, arith}
use Rattle.std.specs.Prelude.{All, Option, None, Some, flat_map, slice_index_or}
use Rattle.std.proofs.lemmas.List.Elements.{All-append}
use Rattle.sb_packet.proofs.Lists.{All-left, All-right}
use Rattle.sb_packet.specs.Networks.{Network}
use Rattle.sb_port.specs.Ports.{PortSide}
use Rattle.sb_node.specs.Sides.{RingSide}
use Rattle.sb_router.specs.Lanes.{no_port, no_ring}
use Rattle.sb_member.specs.Ends.{port_at, ports_of, ring_at, rings_of}
use Rattle.sb_member.specs.Joints.{joint_at, node_at, receiver_of, sender_of}
use Rattle.sb_member.specs.declared.joint.Joint.{Joint}
use Rattle.sb_member.specs.declared.member.Member.{Member}
use Rattle.sb_member.proofs.RingsMet.{within_list}
use Rattle.sb_net.specs.Apart.{put_by, ring_ahead, ring_behind}
use Rattle.sb_net.specs.Standing.{StandsFor}
use Rattle.sb_net.proofs.PutBy.{put_append, put_keeps, put_length, put_there}

module _ {A F T U : Type 0} (f : Member F T U → List A) where
  -- what holds of what each node has holds of what all have
  all_of : (P : A → Type 0) (nodes : List (Member F T U)) → ((k : ℕ) → k < length nodes → All P (f (node_at nodes k))) → All P (flat_map f nodes)
  all_of P [] each = λ k d lt. absurd (omega (arith, lt))
  all_of P (m ∷ ms) each = All-append P (f m) (flat_map f ms) (each 0 (omega arith)) (all_of P ms (λ k lt. each (suc k) (omega (arith, lt))))

  -- the thing of a number lies at its place, where a node has it
  lies_there : (number : A → ℕ) (want : ℕ → A) (nodes : List (Member F T U)) (places : List (Option A)) (k o r : ℕ) (d : A) → All (λ x. x ≡ want (number x)) (flat_map f nodes) → k < length nodes
      → o < length (f (node_at nodes k)) → number (slice_index_or (f (node_at nodes k)) o d) ≡ r → r < length places → slice_index_or (put_by number (flat_map f nodes) places) r None ≡ Some (want r)
  lies_there number want [] places k o r d all below has is lt = absurd (omega (arith, below))
  lies_there number want (m ∷ ms) places zero o r d all below has is lt =
      ap (λ list. slice_index_or list r None) (put_append number (f m) (flat_map f ms) places)
      ∙ put_there number want (f m) (put_by number (flat_map f ms) places) r o d (All-left (λ x. x ≡ want (number x)) (f m) (flat_map f ms) all) has is
      (subst (λ n. r < n) (sym (put_length number (flat_map f ms) places)) lt)
  lies_there number want (m ∷ ms) places (suc k) o r d all below has is lt =
      ap (λ list. slice_index_or list r None) (put_append number (f m) (flat_map f ms) places)
      ∙ put_keeps number want (f m) (put_by number (flat_map f ms) places) r (All-left (λ x. x ≡ want (number x)) (f m) (flat_map f ms) all)
      (lies_there number want ms places k o r d (All-right (λ x. x ≡ want (number x)) (f m) (flat_map f ms) all) (omega (arith, below)) has is lt)
      (subst (λ n. r < n) (sym (put_length number (flat_map f ms) places)) lt)

module _ {F T U : Type 0} (network : Network) (joints : List Joint) (nodes : List (Member F T U)) (s : StandsFor network joints nodes) where
  -- each port is the one of its ring, and so is each end
  ports_wanted : All (λ port. port ≡ sender_of nodes (joint_at joints (ring_ahead port))) (flat_map ports_of nodes)
  ports_wanted = all_of ports_of (λ port. port ≡ sender_of nodes (joint_at joints (ring_ahead port))) nodes (λ k below o d lt.
      let by = s.covered.ports k o below lt in
      let same : slice_index_or (ports_of (node_at nodes k)) o d ≡ port_at (node_at nodes k) o = within_list (ports_of (node_at nodes k)) o d no_port lt in
      let back : sender_of nodes (joint_at joints (port_at (node_at nodes k) o).plan.ring) ≡ port_at (node_at nodes k) o = ap (λ n. port_at (node_at nodes n) (joint_at joints (port_at (node_at nodes k) o).plan.ring).out) by.from ∙ ap (λ n. port_at (node_at nodes k) n) by.out in
      same ∙ sym back ∙ sym (ap (λ port. sender_of nodes (joint_at joints (ring_ahead port))) same))

  rings_wanted : All (λ ring. ring ≡ receiver_of nodes (joint_at joints (ring_behind ring))) (flat_map rings_of nodes)
  rings_wanted = all_of rings_of (λ ring. ring ≡ receiver_of nodes (joint_at joints (ring_behind ring))) nodes (λ k below i d lt.
      let by = s.covered.rings k i below lt in
      let same : slice_index_or (rings_of (node_at nodes k)) i d ≡ ring_at (node_at nodes k) i = within_list (rings_of (node_at nodes k)) i d no_ring lt in
      let back : receiver_of nodes (joint_at joints (ring_at (node_at nodes k) i).plan.ring) ≡ ring_at (node_at nodes k) i = ap (λ n. ring_at (node_at nodes n) (joint_at joints (ring_at (node_at nodes k) i).plan.ring).into) by.to ∙ ap (λ n. ring_at (node_at nodes k) n) by.into in
      same ∙ sym back ∙ sym (ap (λ ring. receiver_of nodes (joint_at joints (ring_behind ring))) same))

  -- all of them have a place, where there is one for each ring
  pub ports_within : All (λ port. ring_ahead port < length joints) (flat_map ports_of nodes)
  ports_within = all_of ports_of (λ port. ring_ahead port < length joints) nodes (λ k below o d lt.
      subst (λ port. ring_ahead port < length joints) (within_list (ports_of (node_at nodes k)) o no_port d lt) (s.covered.ports k o below lt).ring)

  pub rings_within : All (λ ring. ring_behind ring < length joints) (flat_map rings_of nodes)
  rings_within = all_of rings_of (λ ring. ring_behind ring < length joints) nodes (λ k below i d lt.
      subst (λ ring. ring_behind ring < length joints) (within_list (rings_of (node_at nodes k)) i no_ring d lt) (s.covered.rings k i below lt).ring)

  -- at the number of each ring lies its port, and its end
  pub port_lies : (places : List (Option PortSide)) (r : ℕ) → length places ≡ length joints → r < length joints
      → slice_index_or (put_by ring_ahead (flat_map ports_of nodes) places) r None ≡ Some (sender_of nodes (joint_at joints r))
  port_lies places r long lt = let p = s.joined.placed r lt in
      lies_there ports_of ring_ahead (λ n. sender_of nodes (joint_at joints n)) nodes places (joint_at joints r).from (joint_at joints r).out r no_port ports_wanted p.from p.out (s.joined.sent_by r lt)
      (subst (λ n. r < n) (sym long) lt)

  pub end_lies : (places : List (Option RingSide)) (r : ℕ) → length places ≡ length joints → r < length joints
      → slice_index_or (put_by ring_behind (flat_map rings_of nodes) places) r None ≡ Some (receiver_of nodes (joint_at joints r))
  end_lies places r long lt = let p = s.joined.placed r lt in
      lies_there rings_of ring_behind (λ n. receiver_of nodes (joint_at joints n)) nodes places (joint_at joints r).to (joint_at joints r).into r no_ring rings_wanted p.to p.into (s.joined.received_by r lt)
      (subst (λ n. r < n) (sym long) lt)
