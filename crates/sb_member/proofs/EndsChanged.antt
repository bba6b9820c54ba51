-- What a node has once one of its ends is another, as after a meeting.
use Rattle.std.proofs.Common.{◌≡◌, ℕ, ◌<◌, [], ◌∷◌, length, set, refl, sym, ap, subst, arith}
use Rattle.std.specs.Prelude.{slice_index_or}
use Rattle.sb_port.specs.Ports.{PortSide}
use Rattle.sb_node.specs.Kept.{IsPortMet, IsRingMet}
use Rattle.sb_node.specs.Sides.{RingSide}
use Rattle.sb_router.specs.Lanes.{no_port, no_ring}
use Rattle.sb_host.proofs.StillWhole as hosts
use Rattle.sb_device.proofs.Meetings as devices
use Rattle.sb_router.proofs.EndPlaces as routers
use Rattle.sb_member.specs.Members.{IsWholeMember}
use Rattle.sb_member.specs.Ends.{port_at, ports_of, ring_at, rings_of, member_with_port, member_with_ring}
use Rattle.sb_member.specs.declared.member.Member.{Member}
use Rattle.sb_member.specs.declared.member.Member.TheVariants.{Host, Router, Device}

-- below one there is nothing but zero
pub below_one : (k : ℕ) → k < 1 → k ≡ 0
below_one k lt = omega (arith, lt)

module _ {F T U : Type 0} where
  pub ports_with_port : (m : Member F T U) (k : ℕ) (p : PortSide) → k < length (ports_of m) → ports_of (member_with_port m k p) ≡ set (ports_of m) k p
  ports_with_port (Host h) k p lt = ap (λ i. set (h.requests ∷ []) i p) (sym (below_one k lt))
  ports_with_port (Router r) k p lt = routers.port_ports r k p
  ports_with_port (Device d) k p lt = ap (λ i. set (d.answers ∷ []) i p) (sym (below_one k lt))

  pub rings_with_ring : (m : Member F T U) (k : ℕ) (p : RingSide) → k < length (rings_of m) → rings_of (member_with_ring m k p) ≡ set (rings_of m) k p
  rings_with_ring (Host h) k p lt = ap (λ i. set (h.answers ∷ []) i p) (sym (below_one k lt))
  rings_with_ring (Router r) k p lt = routers.ring_rings r k p
  rings_with_ring (Device d) k p lt = ap (λ i. set (d.requests ∷ []) i p) (sym (below_one k lt))

  pub rings_with_port : (m : Member F T U) (k : ℕ) (p : PortSide) → rings_of (member_with_port m k p) ≡ rings_of m
  rings_with_port (Host h) k p = refl
  rings_with_port (Router r) k p = routers.port_rings r k p
  rings_with_port (Device d) k p = refl

  pub ports_with_ring : (m : Member F T U) (k : ℕ) (p : RingSide) → ports_of (member_with_ring m k p) ≡ ports_of m
  ports_with_ring (Host h) k p = refl
  ports_with_ring (Router r) k p = routers.ring_ports r k p
  ports_with_ring (Device d) k p = refl

  -- a node is whole still where nothing but learning happened to its end
  pub whole_with_port : (m : Member F T U) (k : ℕ) (p : PortSide) → k < length (ports_of m) → IsWholeMember m → IsPortMet (port_at m k) p → IsWholeMember (member_with_port m k p)
  whole_with_port (Host h) k p lt w is = hosts.whole_at_port h p w (subst (λ i. IsPortMet (slice_index_or (h.requests ∷ []) i no_port) p) (below_one k lt) is)
  whole_with_port (Router r) k p lt w is = routers.port_whole r k p lt is w
  whole_with_port (Device d) k p lt w is = devices.whole_with_port d p w (subst (λ i. IsPortMet (slice_index_or (d.answers ∷ []) i no_port) p) (below_one k lt) is)

  pub whole_with_ring : (m : Member F T U) (k : ℕ) (p : RingSide) → k < length (rings_of m) → IsWholeMember m → IsRingMet (ring_at m k) p → IsWholeMember (member_with_ring m k p)
  whole_with_ring (Host h) k p lt w is = hosts.whole_at_ring h p w (subst (λ i. IsRingMet (slice_index_or (h.answers ∷ []) i no_ring) p) (below_one k lt) is)
  whole_with_ring (Router r) k p lt w is = routers.ring_whole r k p lt is w
  whole_with_ring (Device d) k p lt w is = devices.whole_with_ring d p w (subst (λ i. IsRingMet (slice_index_or (d.requests ∷ []) i no_ring) p) (below_one k lt) is)
