-- Flows: what one host asks of one device, and what it is answered; and their course, in one direction of a network.
use Rattle.std.specs.Prelude.{ℕ, Bool, ◌&&◌, ◌==◌, true, false, List, [], filter, filter_map, ◌≡◌, ◌∷◌, length, sum_by, All, AllPairs}
use Rattle.std.specs.List.{find, list_any}
use Rattle.std.specs.Option.{option_map_or}
use Rattle.sb_packet.specs.Accesses.{Access}
use Rattle.sb_packet.specs.Networks.{Network, device_at}
use Rattle.sb_packet.specs.Scripts.{script_accesses}
use Rattle.sb_packet.specs.Journals.{is_at, journal_accesses}
use Rattle.sb_packet.specs.Answers.{access_reply, access_run}
use Rattle.sb_link.specs.RingPlans.{NetFlow}
use Rattle.sb_flow.specs.Rings.{is_answered}
use Rattle.sb_packet.specs.declared.entry.Entry.{Entry}
use Rattle.sb_laws.specs.Moments.{Moment, arrived}

-- a word is of a flow: of its host, and at its device
abbrev pub is_of : Network → NetFlow → Access → Bool
is_of network f a = (a.host == f.host) && is_at network f.device a

-- those of some words that are of a flow, in order
abbrev pub words_of_flow : Network → NetFlow → List Access → List Access
words_of_flow network f list = filter (is_of network f) list

-- two flows have the same host and the same device
abbrev pub is_same_flow : NetFlow → NetFlow → Bool
is_same_flow f g = (f.host == g.host) && (f.device == g.device)

-- a flow is one of these
abbrev pub is_among_flows : NetFlow → List NetFlow → Bool
is_among_flows f flows = list_any (is_same_flow f) flows

-- the words of the script of the host with that id
abbrev pub words_of_script : Network → ℕ → List Access
words_of_script network id = option_map_or script_accesses (find (λ h. h.id == id) network.hosts) []

-- Those of them that a device has: the others never enter the network.
abbrev pub aimed_script : Network → ℕ → List Access
aimed_script network id = filter (λ a. option_map_or (λ d. true) (device_at network a.dst) false) (words_of_script network id)

-- What a flow's host asks of its device.
abbrev pub asked_words : Network → NetFlow → List Access
asked_words network f = words_of_flow network f (words_of_script network f.host)

-- the words of a flow that are answered
abbrev pub answered_of : Network → NetFlow → List Access
answered_of network f = filter (λ a. is_answered a.op) (asked_words network f)

-- the answers that a device gives to the words that a journal has there, one after another
abbrev pub device_answers : Network → List Entry → ℕ → List Access
device_answers network journal d = filter_map (λ answer. answer) (access_run network d (journal_accesses journal d)).answers

-- those of them that are a flow's
abbrev pub given_to : Network → List Entry → NetFlow → List Access
given_to network journal f = words_of_flow network f (device_answers network journal f.device)

-- What a journal answers to all that a flow's host asks of its device, in the script's order.
abbrev pub replies_to : Network → List Entry → NetFlow → List Access
replies_to network journal f = filter_map (access_reply network journal) (asked_words network f)

-- A course of flows: one direction of a network, requests or answers.

-- the flows of one direction and the rings on their ways, by number
pub record Course : Type 0 where
  pub flows : List NetFlow
  -- a flow's way: its first ring, and the rings that follow it one after another
  pub first : NetFlow → ℕ
  pub rest : NetFlow → List ℕ
  -- how many words a flow may bring
  pub allowance : NetFlow → ℕ
  -- the ring is of this direction
  pub has : ℕ → Bool
  -- the rings of this direction into the router that a ring leaves; none where it leaves a host or a device
  pub ins : ℕ → List ℕ

-- all rings of a flow's way
abbrev pub way_rings : Course → NetFlow → List ℕ
way_rings c f = c.first f ∷ c.rest f

-- a ring is on a flow's way
abbrev pub goes_over : Course → ℕ → NetFlow → Bool
goes_over c r f = list_any (λ k. k == r) (way_rings c f)

-- the flows that have a ring on their way
abbrev pub flows_over : Course → ℕ → List NetFlow
flows_over c r = filter (goes_over c r) c.flows

-- how many words may go over a ring
abbrev pub budget_over : Course → ℕ → ℕ
budget_over c r = sum_by c.allowance (flows_over c r)

-- a word is of one of a ring's flows
abbrev pub is_of_ring : Network → Course → ℕ → Access → Bool
is_of_ring network c r a = list_any (λ f. is_of network f a) (flows_over c r)

-- Only words of a ring's flows came by it.
abbrev pub CarriesItsFlows : Network → Course → Moment → ℕ → Type 0
CarriesItsFlows network c m r = All (λ a. is_of_ring network c r a ≡ true) (arrived m r)

-- how many words came to the router that a ring leaves and go on by that ring
abbrev pub came_for_ring : Network → Course → Moment → ℕ → ℕ
came_for_ring network c m r = sum_by (λ k. length (filter (is_of_ring network c r) (arrived m k))) (c.ins r)

-- Each flow comes to a router by at most one ring.
pub record IsOneWay (c : Course) (r : ℕ) : Type 0 where
  pub here : All (λ k. c.has k ≡ true) (c.ins r)
  pub once : All (λ f. AllPairs (λ j k. goes_over c j f ≡ true → goes_over c k f ≡ false) (c.ins r)) c.flows

-- a fact of each two neighbouring rings of a way
abbrev pub AlongWay : (ℕ → ℕ → Type 0) → ℕ → List ℕ → Type 0
AlongWay P k [] = Unit {0}
AlongWay P k (j ∷ js) = P k j × AlongWay P j js

-- the last ring of a way
abbrev pub last_of : ℕ → List ℕ → ℕ
last_of k [] = k
last_of k (j ∷ js) = last_of j js
