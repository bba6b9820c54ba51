-- What holds of a node after a turn in which it did nothing.
use Rattle.std.specs.Prelude.{◌≡◌, ◌⊎◌, true, false, List, All}
use Rattle.sb_port.specs.Ports.{PortSide}
use Rattle.sb_node.specs.Sides.{RingSide, has_rest, is_full, has_ended, is_drained}

-- each port that has something left to send found its ring full
abbrev pub OwingPortsAreFull : List PortSide → Type 0
OwingPortsAreFull ports = All (λ port. has_rest port ≡ true → is_full port ≡ true) ports

-- each ring that hasn't given Close was found empty, or the node had a cause to leave it
abbrev pub OpenRingsAreDrained : (RingSide → Type 0) → List RingSide → Type 0
OpenRingsAreDrained left rings = All (λ ring. has_ended ring ≡ false → (is_drained ring ≡ true) ⊎ left ring) rings

-- A node did nothing in its turn only where it could do nothing: by its ports, and by its rings, of which it leaves some for a cause.
pub record IsIdleAt (left : RingSide → Type 0) (ports : List PortSide) (rings : List RingSide) : Type 0 where
  pub owing_ports_are_full : OwingPortsAreFull ports
  pub open_rings_are_drained : OpenRingsAreDrained left rings
