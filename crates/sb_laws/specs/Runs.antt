-- A run of a whole network: what rings and nodes promise at any moment of it, and what it has done by then.
use Rattle.std.specs.Prelude.{◌≡◌, ◌≤◌, ℕ, true, List, [], ◌++◌, length, All, ◌<◌, IsTrue}
use Rattle.std.specs.List.{find}
use Rattle.sb_packet.specs.Accesses.{Access}
use Rattle.sb_packet.specs.Networks.{Network, width_to}
use Rattle.sb_link.specs.RingPlans.{NetFlow}
use Rattle.sb_link.specs.Traffic.{has_close, item_accesses}
use Rattle.sb_link.specs.Prefixes.{IsPrefix, IsSubsequence}
use Rattle.sb_laws.specs.Flows.{AlongWay, CarriesItsFlows, Course, IsOneWay, aimed_script, asked_words, budget_over, came_for_ring, device_answers, flows_over, replies_to, way_rings, words_of_flow}
use Rattle.sb_device.specs.Served.{AreSound}
use Rattle.sb_laws.specs.Moments.{ClosesLast, Moment, arrived}
use Rattle.sb_packet.specs.Spans.{span_of}
use Rattle.sb_packet.specs.Journals.{flow_part, is_in_round_order, journal_accesses}
use Rattle.sb_packet.specs.declared.entry.Entry.{Entry}
use Rattle.sb_laws.specs.Layouts.{Layout, ring_home}
use Rattle.sb_packet.specs.Scripts.{script_accesses}
use Rattle.sb_packet.specs.Answers.{access_reply}
use Rattle.sb_host.specs.Outcomes.{is_answer_to}

-- What rings and nodes promise at any moment at which the two ends of each ring have met. Each promise is of one ring or one node alone.

-- A link: what was received is a prefix of what was sent, and nothing was sent after a Close.
pub record IsLink (m : Moment) (r : ℕ) : Type 0 where
  pub in_order : IsPrefix (m.received r) (m.sent r)
  pub closes_last : ClosesLast (m.sent r)

-- A port: it sends the words that it was offered, in order, and packets that are sound; before its Close it sends all of them.
pub record IsPort (m : Moment) (r : ℕ) : Type 0 where
  pub in_order : IsPrefix (item_accesses (m.sent r)) (m.offered r)
  pub sound : AreSound (m.sent r)
  pub closed : has_close (m.sent r) ≡ true → item_accesses (m.sent r) ≡ m.offered r

-- A forwarding node, for a flow that comes by one ring and goes on by another.
pub record ForwardsFlow (network : Network) (c : Course) (m : Moment) (f : NetFlow) (from to : ℕ) : Type 0 where
  -- it offers what came, in order, perhaps with some left out
  pub in_order : IsSubsequence (words_of_flow network f (m.offered to)) (words_of_flow network f (arrived m from))
  -- and leaves nothing out, while all that came is sound and what goes on by that ring is within its budget
  pub whole : All (λ k. AreSound (m.received k)) (c.ins to) → came_for_ring network c m to ≤ budget_over c to →
      words_of_flow network f (arrived m from) ≡ words_of_flow network f (m.offered to) ++ words_of_flow network f (m.held from)
  -- where its port has sent the Close, it holds nothing
  pub closed : has_close (m.sent to) ≡ true → words_of_flow network f (m.held from) ≡ []

-- A source: the node at the start of a flow's way offers what there is of the flow, in order, and before the Close all of it.
pub record IsFlowSource (network : Network) (c : Course) (m : Moment) (source : NetFlow → List Access) (f : NetFlow) : Type 0 where
  pub in_order : IsPrefix (words_of_flow network f (m.offered (c.first f))) (source f)
  pub closed : has_close (m.sent (c.first f)) ≡ true → words_of_flow network f (m.offered (c.first f)) ≡ source f

-- All rings and nodes of one direction keep their promises, and no flow has more than it may bring.
pub record KeepsPromises (network : Network) (c : Course) (m : Moment) (source : NetFlow → List Access) : Type 0 where
  pub links : (r : ℕ) → IsLink m r
  pub ports : (r : ℕ) → IsPort m r
  pub one_way : (r : ℕ) → IsOneWay c r
  pub carried : (r : ℕ) → c.has r ≡ true → CarriesItsFlows network c m r
  pub allowed : All (λ f. length (source f) ≤ c.allowance f) c.flows
  pub sources : All (IsFlowSource network c m source) c.flows
  pub routers : All (λ f. AlongWay (ForwardsFlow network c m f) (c.first f) (c.rest f)) c.flows

-- The same but for budgets, and where a source too may leave some out: all that is known where a neighbour is dishonest.
pub record KeepsOrder (network : Network) (c : Course) (m : Moment) (source : NetFlow → List Access) : Type 0 where
  pub links : (r : ℕ) → IsLink m r
  pub ports : (r : ℕ) → IsPort m r
  pub sources : All (λ f. IsSubsequence (words_of_flow network f (m.offered (c.first f))) (source f)) c.flows
  pub routers : All (λ f. AlongWay (ForwardsFlow network c m f) (c.first f) (c.rest f)) c.flows

-- A host, for one of its flows: it offers its script in order, and before the Close all of it.
pub record IsHost (network : Network) (layout : Layout) (m : Moment) (f : NetFlow) : Type 0 where
  pub in_order : IsPrefix (m.offered (layout.requests.first f)) (aimed_script network f.host)
  pub closed : has_close (m.sent (layout.requests.first f)) ≡ true → m.offered (layout.requests.first f) ≡ aimed_script network f.host

-- A device, for one of its flows: it offers the answers to what it took, in order, and leaves none out while all that came is sound and
-- the answers are within the budget of the ring that they go by.
pub record IsDevice (network : Network) (layout : Layout) (journal : List Entry) (m : Moment) (f : NetFlow) : Type 0 where
  pub whole : AreSound (m.received (layout.into f.device)) →
      length (device_answers network journal f.device) ≤ budget_over layout.answers (layout.answers.first f) →
      m.offered (layout.answers.first f) ≡ device_answers network journal f.device

-- All promises, at a moment at which the ends of each ring have met.
pub record IsMomentOf (network : Network) (layout : Layout) (journal : List Entry) (m : Moment) : Type 0 where
  pub links : (r : ℕ) → IsLink m r
  pub ports : (r : ℕ) → IsPort m r
  -- a ring carries only words of its flows
  pub carried : (r : ℕ) → layout.requests.has r ≡ true → CarriesItsFlows network layout.requests m r
  pub carried_back : (r : ℕ) → layout.answers.has r ≡ true → CarriesItsFlows network layout.answers m r
  -- the journal has at each device the words that came by the ring into it
  pub recorded : (d : ℕ) → d < length network.devices → journal_accesses journal d ≡ arrived m (layout.into d)
  pub hosts : All (IsHost network layout m) layout.requests.flows
  pub devices : All (IsDevice network layout journal m) layout.requests.flows
  pub routers : All (λ f. AlongWay (ForwardsFlow network layout.requests m f) (layout.requests.first f) (layout.requests.rest f)) layout.requests.flows
  pub routers_back : All (λ f. AlongWay (ForwardsFlow network layout.answers m f) (layout.answers.first f) (layout.answers.rest f)) layout.requests.flows

-- The entries of the journal are of devices that there are, no wider than the links that lead there, and their rounds don't go back.
pub record HasEntries (network : Network) (journal : List Entry) : Type 0 where
  pub devices : All (λ e. e.device < length network.devices) journal
  pub narrow : All (λ e. span_of e.packet.cmd ≤ width_to network e.device) journal
  pub in_round_order : IsTrue (is_in_round_order journal)

-- What came by each ring, of each of its flows.

-- Of each of a ring's flows a first part of its source came.
abbrev pub BeginsSources : Network → Course → Moment → (NetFlow → List Access) → ℕ → Type 0
BeginsSources network c m source r = All (λ f. IsPrefix (words_of_flow network f (arrived m r)) (source f)) (flows_over c r)

-- Of each of a ring's flows its source came, in order, with some left out.
abbrev pub PicksSources : Network → Course → Moment → (NetFlow → List Access) → ℕ → Type 0
PicksSources network c m source r = All (λ f. IsSubsequence (words_of_flow network f (arrived m r)) (source f)) (flows_over c r)

-- Of each of a ring's flows all of its source came.
abbrev pub CarriesSources : Network → Course → Moment → (NetFlow → List Access) → ℕ → Type 0
CarriesSources network c m source r = All (λ f. words_of_flow network f (arrived m r) ≡ source f) (flows_over c r)

-- Each ring of a flow's way has given its Close.
abbrev pub HasEnded : Course → Moment → NetFlow → Type 0
HasEnded c m f = All (λ r. has_close (m.received r) ≡ true) (way_rings c f)

-- What a run has done by some moment, and what a whole run has done.

-- Each ring of all ways, there and back, has given its Close.
pub record HasAllEnded (layout : Layout) (m : Moment) : Type 0 where
  pub there : All (HasEnded layout.requests m) layout.requests.flows
  pub back : All (HasEnded layout.answers m) layout.requests.flows

-- Each device has taken a first part of what each host asks of it, in order.
abbrev pub IsHistorySoFar : Network → List Entry → Type 0
IsHistorySoFar network journal =
    All (λ host. (d : ℕ) → IsPrefix (flow_part network host d (journal_accesses journal d)) (flow_part network host d (script_accesses host))) network.hosts

-- Each device has taken just what each host asks of it, in order; each ring carried its flows' words and their answers, and nothing else.
pub record IsWholeRun (network : Network) (layout : Layout) (journal : List Entry) (m : Moment) : Type 0 where
  pub history : All (λ host. (d : ℕ) → flow_part network host d (journal_accesses journal d) ≡ flow_part network host d (script_accesses host)) network.hosts
  pub requests : (r : ℕ) → CarriesSources network layout.requests m (asked_words network) r
  pub answers : (r : ℕ) → CarriesSources network layout.answers m (replies_to network journal) r
  pub no_others : (r : ℕ) → layout.requests.has r ≡ true → CarriesItsFlows network layout.requests m r
  pub no_other_answers : (r : ℕ) → layout.answers.has r ≡ true → CarriesItsFlows network layout.answers m r

-- For each word that a host asks for, the first word that came to it and looks like the answer is the journal's answer; none came where the journal has none.
abbrev pub AreAnswered : Network → Layout → List Entry → Moment → NetFlow → Type 0
AreAnswered network layout journal m f = All (λ a. find (is_answer_to a) (arrived m (ring_home layout f)) ≡ access_reply network journal a) (asked_words network f)
