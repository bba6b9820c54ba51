-- What a node has of its rings: of those that it sends on, and of those that it receives from.
use Rattle.std.specs.Prelude.{ℕ, ◌+◌, Bool, ◌&&◌, ◌||◌, ◌==◌, List, length, is_some}
use Rattle.std.specs.List.{sum_by, list_all}
use Rattle.sb_link.specs.Ends.{Mark}
use Rattle.sb_link.specs.declared.ends.RxEnd as rx
use Rattle.sb_link.specs.RingPlans.{RingPlan}
use Rattle.sb_packet.specs.Accesses.{Access}
use Rattle.sb_link.specs.Traffic.{item_accesses, has_close}
use Rattle.sb_packet.specs.declared.item.Item.{Item}
use Rattle.sb_port.specs.Ports.{PortSide, offered_words, let_go, owes}

-- a ring that comes into a node
pub record RingSide : Type 0 where
  pub plan : RingPlan
  pub mark : Mark
  pub received : List Item
  -- how many items it has learnt to have been sent
  pub known : ℕ

-- the receiving end of a ring as its node has it
abbrev pub ring_side : {U : Type 0} → rx.Ghosts U → U → RingSide
ring_side end ring = record { plan = end.planned ring; mark = end.mark ring; received = end.received ring; known = end.known ring }

-- a port has something left to send: it owes an item, or holds a message for merging
abbrev pub has_rest : PortSide → Bool
has_rest port = owes port.state || is_some port.state.waiting.held

-- a port's ring is full, by what it has learnt
abbrev pub is_full : PortSide → Bool
is_full port = length port.state.sent == port.taken + port.plan.capacity

-- the words that came by a ring
abbrev pub received_words : RingSide → List Access
received_words ring = item_accesses ring.received

-- a ring is empty, by what it has learnt
abbrev pub is_drained : RingSide → Bool
is_drained ring = length ring.received == ring.known

-- a ring has given its Close
abbrev pub has_ended : RingSide → Bool
has_ended ring = has_close ring.received

-- A node is done where all its ports have sent their Close, and all its rings have given theirs.
abbrev pub is_done : List PortSide → List RingSide → Bool
is_done ports rings = list_all (λ port. port.state.close_sent) ports && list_all has_ended rings

-- how much a port did so far: the words that it was offered, the messages that it let go, and the items that it sent
abbrev pub port_moves : PortSide → ℕ
port_moves port = length (offered_words port) + length (let_go port.state) + length port.state.sent

-- How much went through a node so far: with what its ports did, the items that it popped.
abbrev pub node_moves : List PortSide → List RingSide → ℕ
node_moves ports rings = sum_by port_moves ports + sum_by (λ ring. length ring.received) rings
