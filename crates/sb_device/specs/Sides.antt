-- A device, as contracts see it.
use Rattle.std.specs.Prelude.{ℕ, length}
use Rattle.sb_packet.specs.Memories.{MemoryState}
use Rattle.sb_packet.specs.Journals.{Ledger}
use Rattle.sb_port.specs.Ports.{PortSide}
use Rattle.sb_node.specs.Sides.{RingSide}

-- a device, as rounds see it
pub record DeviceSide : Type 0 where
  -- its place in the network's list
  pub number : ℕ
  pub memory : MemoryState
  pub journal : Ledger
  -- the ring by which requests come in, and the port by which answers go out
  pub requests : RingSide
  pub answers : PortSide

-- how many bytes a device holds in its memory
abbrev pub held_bytes : MemoryState → ℕ
held_bytes m = length m.bytes
