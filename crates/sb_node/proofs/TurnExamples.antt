-- Turns of a node, computed.
use Rattle.std.proofs.Common.{◌≡◌, [], ◌∷◌, true, false, refl}
use Rattle.std.specs.Prelude.{Some, None}
use Rattle.sb_link.specs.Ends.{Mark}
use Rattle.sb_link.specs.declared.answers.Cause.TheVariants as causes
use Rattle.sb_link.specs.RingPlans.{RingPlan}
use Rattle.sb_word.specs.declared.command.Op.TheVariants.{ReqRd}
use Rattle.sb_packet.specs.Messages.{Message}
use Rattle.sb_packet.specs.declared.item.Item.TheVariants as items
use Rattle.sb_port.specs.Waiting.{nothing_waits}
use Rattle.sb_port.specs.Ports.{PortSide, owes}
use Rattle.sb_node.specs.Sides.{RingSide, has_rest, is_full, is_done, node_moves}
use Rattle.sb_node.specs.Turns.{first_cause, idle_causes}

-- rings 4 and 5, of one place each
abbrev requests_plan : RingPlan
requests_plan = record { ring = 4; up = false; width = 32; capacity = 1; budget = 4; flows = record { devices = 0; ranges = []; through = [] } }

abbrev answers_plan : RingPlan
answers_plan = record requests_plan { ring = 5; up = true }

abbrev mark_of : RingPlan → Mark
mark_of plan = record { plan = plan; table = None; handed = []; told = 0 }

-- a ring by which nothing came, and one that gave its Close
abbrev open_ring : RingSide
open_ring = record { plan = requests_plan; mark = mark_of requests_plan; received = []; known = 0 }

abbrev ended_ring : RingSide
ended_ring = record open_ring { received = items.Close ∷ []; known = 1 }

-- a read of one word, which doesn't end its transaction
abbrev held_read : Message
held_read = record { op = ReqRd; atomic = None; size = 3; host = 0; dst = 0; src = 0; count = 1; bytes = []; eom = false; qos = 0; prot = 0; eof = false; ex = false; tail = 0 }

-- a port that has nothing to send, and one that was told to close
abbrev ready_port : PortSide
ready_port = record {
  plan = answers_plan;
  mark = mark_of answers_plan;
  published = [];
  taken = 0;
  state = record { sent = []; waiting = nothing_waits 32; close_requested = false; close_sent = false; words_offered = 0 };
}

abbrev told_port : PortSide
told_port = record ready_port { state = record { sent = []; waiting = nothing_waits 32; close_requested = true; close_sent = false; words_offered = 0 } }

-- a port that holds a message for merging
abbrev holding_port : PortSide
holding_port = record ready_port { state = record { sent = []; waiting = record (nothing_waits 32) { held = Some held_read }; close_requested = false; close_sent = false; words_offered = 1 } }

-- a port that sent its Close, which fills its ring until it is taken
abbrev shut_port : PortSide
shut_port = record ready_port { state = record { sent = items.Close ∷ []; waiting = nothing_waits 32; close_requested = true; close_sent = true; words_offered = 0 } }

-- a node with nothing to do waits at its empty ring
waits_at_ring : idle_causes (ready_port ∷ []) [] (open_ring ∷ []) ≡ None ∷ Some (causes.Empty 4 0 0) ∷ []
waits_at_ring = refl

-- a full port comes before what the node waits for itself, and that before an empty ring
full_port_first : first_cause (idle_causes (told_port ∷ []) (Some (causes.Window 3) ∷ []) (open_ring ∷ [])) ≡ Some (causes.Full 5 0 0)
full_port_first = refl

wait_before_ring : first_cause (idle_causes (ready_port ∷ []) (Some (causes.Window 3) ∷ []) (open_ring ∷ [])) ≡ Some (causes.Window 3)
wait_before_ring = refl

-- a ring that gave its Close is no cause
ended_ring_passed_over : first_cause (idle_causes [] [] (ended_ring ∷ open_ring ∷ [])) ≡ Some (causes.Empty 4 0 0)
ended_ring_passed_over = refl

-- a node is done where all its rings gave Close and all its ports sent theirs
done_once_closed : is_done (shut_port ∷ []) (ended_ring ∷ []) ≡ true
done_once_closed = refl

not_done_while_told : is_done (told_port ∷ []) (ended_ring ∷ []) ≡ false
not_done_while_told = refl

not_done_while_open : is_done (shut_port ∷ []) (open_ring ∷ []) ≡ false
not_done_while_open = refl

-- a Close that is owed is left to send, and so is what is held; a Close that was sent fills a ring of one place
close_is_left : has_rest told_port ≡ true
close_is_left = refl

held_is_left : has_rest holding_port ≡ true
held_is_left = refl

-- what is held is not owed: the port can be offered more
held_is_not_owed : owes holding_port.state ≡ false
held_is_not_owed = refl

-- a port that holds a message is a cause, like one that owes
full_port_that_holds : first_cause (idle_causes (holding_port ∷ []) [] (open_ring ∷ [])) ≡ Some (causes.Full 5 0 0)
full_port_that_holds = refl

close_fills : is_full shut_port ≡ true
close_fills = refl

-- the Close that came, and that which was sent, are what went through
moved_by_closes : node_moves (shut_port ∷ []) (ended_ring ∷ []) ≡ 2
moved_by_closes = refl
