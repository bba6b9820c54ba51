-- What a host does in the steps of one turn: with what comes in, and with what goes out.
use Rattle.std.specs.Prelude.{◌≡◌, ◌<◌, ◌++◌, ◌⊎◌, Bool, true, false, List, [], ◌∷◌, Option, None, Some, is_some}
use Rattle.sb_link.specs.declared.answers.Cause.{Cause}
use Rattle.sb_packet.specs.Accesses.{message_accesses}
use Rattle.sb_packet.specs.Messages.{Message}
use Rattle.sb_link.specs.Prefixes.{IsPrefix}
use Rattle.sb_port.specs.Ports.{PortSide, offered_words, owes}
use Rattle.sb_node.specs.Sides.{RingSide, port_moves}
use Rattle.sb_node.specs.Idle.{IsIdleAt}
use Rattle.sb_node.specs.Found.{or_else}
use Rattle.sb_node.specs.Steps.{IsRingEmpty, HasPopped, IsBlockedPort}
use Rattle.sb_node.specs.declared.findings.Findings.{Findings}
use Rattle.sb_host.specs.Progress.{TransactionsSide, left_of}
use Rattle.sb_host.specs.Windows.{window_cause}

-- What a host did with its ring: it says whether it popped.
abbrev pub IsReceiveStep : RingSide → RingSide → Findings → Findings → Bool → Type 0
IsReceiveStep ring ring_then found found_then true = HasPopped ring ring_then found found_then
IsReceiveStep ring ring_then found found_then false = IsRingEmpty ring ring_then found found_then

-- a packet was offered: the host moved
pub record HasOfferedOne (port port_then : PortSide) (found found_then : Findings) : Type 0 where
  pub more : port_moves port < port_moves port_then
  pub found_move : found_then ≡ record found { moved = true }

-- what a host waits for itself was found, where it waits
abbrev pub IsWaitFound : Option Cause → Findings → Findings → Type 0
IsWaitFound None found found_then = found_then ≡ found
IsWaitFound (Some cause) found found_then = found_then ≡ record found { waits = or_else found.waits cause }

-- none was: all are offered, and the port is told to close, or it wasn't ready, or the next transaction waits for a slot
pub record HasOfferedNone (t_then : TransactionsSide) (port port_then : PortSide) (found found_then : Findings) : Type 0 where
  pub same : port_then ≡ record port { state = record port.state { close_requested = port_then.state.close_requested } }
  pub found_wait : IsWaitFound (window_cause t_then) found found_then
  pub waits : port_then.state.close_requested ≡ false → (owes port_then.state ≡ true) ⊎ (is_some (window_cause t_then) ≡ true)

-- What a host did with its port: it says whether it offered a packet.
abbrev pub IsIssued : TransactionsSide → PortSide → PortSide → Findings → Findings → Bool → Type 0
IsIssued t_then port port_then found found_then true = HasOfferedOne port port_then found found_then
IsIssued t_then port port_then found found_then false = HasOfferedNone t_then port port_then found found_then

-- Where the port owes nothing, the first packet that is left is offered, behind all that was offered before.
abbrev pub IsNextOffered : TransactionsSide → PortSide → PortSide → Type 0
IsNextOffered t port port_then = owes port.state ≡ false → (m : Message) (rest : List Message) → left_of t ≡ m ∷ rest
    → IsPrefix (offered_words port ++ message_accesses m) (offered_words port_then)

-- What holds of a host after a turn in which it did nothing. It leaves no ring that isn't empty.
pub record IsIdleHost (t : TransactionsSide) (port : PortSide) (ring : RingSide) : Type 0 where
  pub at_rest : IsIdleAt (λ ring. ⊥) (port ∷ []) (ring ∷ [])
  -- a host that has packets left waits at its port, or for a slot
  pub open_host_is_blocked : port.state.close_requested ≡ false → IsBlockedPort port ⊎ (is_some (window_cause t) ≡ true)
