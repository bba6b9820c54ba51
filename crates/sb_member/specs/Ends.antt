-- The ends of a node by their places: its ports, and the rings that come into it.
use Rattle.std.specs.Prelude.{◌≡◌, ℕ, Bool, true, List, [], ◌∷◌, slice_index_or}
use Rattle.sb_link.specs.Ends.{HaveMet}
use Rattle.sb_port.specs.Ports.{PortSide}
use Rattle.sb_node.specs.Sides.{RingSide}
use Rattle.sb_node.specs.Kept.{IsPortMet, IsRingMet}
use Rattle.sb_router.specs.Lanes.{no_port, no_ring}
use Rattle.sb_router.specs.Routers.{router_ports, router_rings, router_with_port, router_with_ring}
use Rattle.sb_member.specs.declared.member.Member.{Member}
use Rattle.sb_member.specs.declared.member.Member.TheVariants.{Host, Router, Device}

module _ {F T U : Type 0} where
  -- the ports of a node, and the rings that come into it, in the order of their places; of a router those of requests come first
  abbrev pub ports_of : Member F T U → List PortSide
  ports_of (Host h) = h.requests ∷ []
  ports_of (Router r) = router_ports r
  ports_of (Device d) = d.answers ∷ []

  abbrev pub rings_of : Member F T U → List RingSide
  rings_of (Host h) = h.answers ∷ []
  rings_of (Router r) = router_rings r
  rings_of (Device d) = d.requests ∷ []

  abbrev pub port_at : Member F T U → ℕ → PortSide
  port_at m k = slice_index_or (ports_of m) k no_port

  abbrev pub ring_at : Member F T U → ℕ → RingSide
  ring_at m k = slice_index_or (rings_of m) k no_ring

  -- another port stands at a place, or another ring's end
  abbrev pub member_with_port : Member F T U → ℕ → PortSide → Member F T U
  member_with_port (Host h) k port = Host (record h { requests = port })
  member_with_port (Router r) k port = Router (router_with_port r k port)
  member_with_port (Device d) k port = Device (record d { answers = port })

  abbrev pub member_with_ring : Member F T U → ℕ → RingSide → Member F T U
  member_with_ring (Host h) k ring = Host (record h { answers = ring })
  member_with_ring (Router r) k ring = Router (router_with_ring r k ring)
  member_with_ring (Device d) k ring = Device (record d { requests = ring })

-- Two ends of a ring have met: both are as before, but for what they learnt, and are of one ring still.
pub record HaveJoined (port port_then : PortSide) (ring ring_then : RingSide) : Type 0 where
  pub sent : IsPortMet port port_then
  pub received : IsRingMet ring ring_then
  pub marks : port_then.mark ≡ ring_then.mark
  pub met : HaveMet port_then.state.sent port_then.taken ring_then.received ring_then.known

module _ {F T U : Type 0} where
  -- the port at a place of one node met the ring's end at a place of another
  pub record HaveMetAt (out into : ℕ) (from from_then to to_then : Member F T U) : Type 0 where
    pub port_then : PortSide
    pub ring_then : RingSide
    pub sender : from_then ≡ member_with_port from out port_then
    pub receiver : to_then ≡ member_with_ring to into ring_then
    pub joined : HaveJoined (port_at from out) port_then (ring_at to into) ring_then
