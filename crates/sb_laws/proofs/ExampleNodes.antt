-- The ports, the rings and the device of the example's network, fresh, halfway and at the end.
use Rattle.std.proofs.Common.{ℕ, List, [], length, None}
use Rattle.sb_packet.specs.Memories.{memory_after}
use Rattle.sb_packet.specs.Networks.{opening_memory}
use Rattle.sb_flow.specs.Rings.{ring_plan}
use Rattle.sb_link.specs.Traffic.{has_close, item_accesses}
use Rattle.sb_packet.specs.declared.entry.Entry.{Entry}
use Rattle.sb_packet.specs.declared.item.Item.{Item}
use Rattle.sb_link.specs.Ends.{Mark}
use Rattle.sb_port.specs.Ports.{PortSide}
use Rattle.sb_port.specs.Waiting.{nothing_waits}
use Rattle.sb_node.specs.Sides.{RingSide}
use Rattle.sb_device.specs.Served.{entry_accesses}
use Rattle.sb_device.specs.Sides.{DeviceSide}
use Rattle.sb_laws.specs.Moments.{Moment}
use Rattle.sb_laws.proofs.ExampleNetwork.{small}

-- before the first round nothing has gone over any ring
abbrev pub fresh : Moment
fresh = record { sent = λ r. []; received = λ r. []; offered = λ r. []; held = λ r. [] }

-- the mark of the ends of a ring, which keep nothing back
abbrev pub small_mark : ℕ → Mark
small_mark r = record { plan = ring_plan small r; table = None; handed = []; told = 0 }

-- a port that has sent all that it was offered, and was told to close where it sent the Close
abbrev pub settled_port : ℕ → List Item → ℕ → PortSide
settled_port r sent taken = record {
  plan = ring_plan small r;
  mark = small_mark r;
  published = sent;
  taken = taken;
  state = record { sent = sent; waiting = nothing_waits 32; close_requested = has_close sent; close_sent = has_close sent; words_offered = length (item_accesses sent) };
}

-- the two ends of a ring at a moment, once they have met
abbrev pub port_in : Moment → ℕ → PortSide
port_in m r = settled_port r (m.sent r) (length (m.received r))

abbrev pub ring_in : Moment → ℕ → RingSide
ring_in m r = record { plan = ring_plan small r; mark = small_mark r; received = m.received r; known = length (m.sent r) }

-- The device at a moment, with these entries in its journal and places for so many more.
abbrev pub device_in : Moment → List Entry → ℕ → DeviceSide
device_in m entries spare = record {
  number = 0;
  memory = memory_after (opening_memory small 0) (entry_accesses entries);
  journal = record { entries = entries; spare = spare };
  requests = ring_in m 2;
  answers = port_in m 3;
}
