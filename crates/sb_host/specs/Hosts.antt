-- Hosts: they issue the packets of their scripts in order, and keep what was answered.
use Rattle.std.specs.Prelude.{◌≡◌, ◌≢◌, ◌≤◌, ℕ, Bool, true, List, [], ◌∷◌, length, Option, ◌⊎◌}
use Rattle.std.proofs.Common.{refl, ◌∙◌, arith}
use Rattle.sb_link.specs.declared.answers.Cause.{Cause}
use Rattle.sb_link.specs.declared.answers.Turn.{Turn}
use Rattle.sb_link.specs.declared.answers.Turn.TheVariants.{Moved}
use Rattle.sb_port.specs.Ports.{PortSide, IsFit, offered_words}
use Rattle.sb_link.specs.declared.ends.RxEnd as rx
use Rattle.sb_node.specs.Sides.{RingSide, is_done, node_moves, received_words, has_ended, ring_side}
use Rattle.sb_node.specs.Kept.{IsKeptPort, IsKeptRing, kept_port_same, kept_port_then, kept_ring_same, kept_ring_then}
use Rattle.sb_node.specs.Turns.{IsAnswered, idle_causes}
use Rattle.sb_node.specs.Steps.{HasFewMore, IsPortServed, IsRingServed}
use Rattle.sb_host.specs.Progress.{HasComeTo, HasOffered, IsMadeFor, IsNextAimed, TransactionsSide}
use Rattle.sb_host.specs.Places.{AreIssuable}
use Rattle.sb_host.specs.Rows.{IsTable}
use Rattle.sb_host.specs.Steps.{IsIdleHost, IsNextOffered}
use Rattle.sb_host.specs.Windows.{IsHeldBack, KeepsWindow, window_cause}
use Rattle.sb_host.specs.declared.host_core.HostCore.{HostCore}

-- a host, as rounds see it: its transactions, and its two ends
pub record HostSide : Type 0 where
  pub transactions : TransactionsSide
  pub requests : PortSide
  pub answers : RingSide

-- a host over ends of any kind, as rounds see it
abbrev pub host_core_side : {T U : Type 0} → rx.Ghosts U → HostCore T U → HostSide
host_core_side rx core = record { transactions = core.transactions; requests = core.requests; answers = ring_side rx core.answers }

-- What always holds of a host's transactions and its ends.
pub record IsHostInOrder (t : TransactionsSide) (port : PortSide) (ring : RingSide) : Type 0 where
  pub issuable : AreIssuable t.asked
  pub made : IsMadeFor port.plan t.asked
  -- what it has offered begins its words that go to devices: the words of its packets before the next one
  pub come : HasComeTo t.asked t.next t.part
  pub offered : HasOffered t.asked t.next t.part (offered_words port)
  -- it told its port to close only where no packet is left
  pub closes : port.state.close_requested ≡ true → t.next ≡ length t.asked.lines
  -- its table keeps the first answer to each word, of all that came
  pub table : IsTable t.asked (received_words ring) t.rows
  pub ends : t.ended ≡ has_ended ring
  -- of its transactions that are answered from the network, at most 64 are under way
  pub window : KeepsWindow t

-- A host is whole.
pub record IsWholeHost (h : HostSide) : Type 0 where
  pub fit : IsFit h.requests.plan h.requests.state
  pub in_order : IsHostInOrder h.transactions h.requests h.answers

-- What turns of a round keep of a host: nothing is taken back. Nothing of it depends on the round yet.
pub record IsKeptHost (round : ℕ) (before after : HostSide) : Type 0 where
  pub asked : after.transactions.asked ≡ before.transactions.asked
  pub onward : before.transactions.next ≤ after.transactions.next
  pub requests : IsKeptPort before.requests after.requests
  pub answers : IsKeptRing before.answers after.answers

-- how much went through a host so far
abbrev pub host_moves : HostSide → ℕ
host_moves h = node_moves (h.requests ∷ []) (h.answers ∷ [])

-- a host is done where its port sent its Close, and its ring gave one
abbrev pub is_done_host : HostSide → Bool
is_done_host h = is_done (h.requests ∷ []) (h.answers ∷ [])

-- what a host waits for itself: that the transaction which took the next one's slot before misses no word
abbrev pub host_wait : HostSide → Option Cause
host_wait h = window_cause h.transactions

-- the causes for which a host did nothing: its port, what it waits for itself, and its ring
abbrev pub host_causes : HostSide → List (Option Cause)
host_causes h = idle_causes (h.requests ∷ []) (host_wait h ∷ []) (h.answers ∷ [])

-- What one turn of a host does in a round, and answers. Nothing of it depends on the round yet.
pub record IsHostTurn (before : HostSide) (round : ℕ) (answer : Turn) (after : HostSide) : Type 0 where
  pub answered : IsAnswered (host_moves before) (host_moves after) (is_done_host after) (host_causes after) answer
  pub idle : answer ≢ Moved → IsIdleHost after.transactions after.requests after.answers
  pub few : HasFewMore before.answers after.answers
  pub port_served : IsPortServed before.requests after.requests
  pub ring_served : IsRingServed before.answers after.answers
  -- its next packet was offered where its port was ready, whatever else moved, or its transaction waits for a slot after what came
  pub next_offered : IsNextOffered before.transactions before.requests after.requests ⊎ IsHeldBack before.transactions after.transactions
  -- it has passed over all that was next and is aimed at no device, and told its port to close where nothing is left
  pub aimed : IsNextAimed after.transactions
  pub closes_when_due : after.transactions.next ≡ length after.transactions.asked.lines → after.requests.state.close_requested ≡ true

-- nothing happened to a host
pub kept_host_same : (round : ℕ) (h : HostSide) → IsKeptHost round h h
kept_host_same round h = record { asked = refl; onward = omega arith; requests = kept_port_same h.requests; answers = kept_ring_same h.answers }

-- one thing after another happened to a host
pub kept_host_then : (round : ℕ) (x y z : HostSide) → IsKeptHost round x y → IsKeptHost round y z → IsKeptHost round x z
kept_host_then round x y z a b = record {
  asked = b.asked ∙ a.asked;
  onward = let first = a.onward in let second = b.onward in omega (arith, first, second);
  requests = kept_port_then a.requests b.requests;
  answers = kept_ring_then a.answers b.answers;
}
