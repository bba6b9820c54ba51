-- A router as it stands in a network: its rings by number, its tables, and its ends between its turns.
use Rattle.std.specs.Prelude.{◌≡◌, ◌<◌, ℕ, false, List, map, All, Option, slice_index_or, Bool, true, length, Some}
use Rattle.std.specs.Option.{option_and_then, option_map}
use Rattle.sb_packet.specs.Networks.{Network}
use Rattle.sb_router.specs.Forwarding.{Words}
use Rattle.sb_router.specs.Lanes.{InletState, LaneState, Route, held_words, inlet_at, next_place, outlet_at}
use Rattle.sb_laws.specs.Flows.{AlongWay, Course, budget_over, is_of, is_of_ring}
use Rattle.sb_laws.specs.Moments.{Moment}
use Rattle.sb_laws.specs.NodeSides.{HasPort, HasRing, ShowsPort, ShowsRing}
use Rattle.sb_laws.specs.Standstills.{IsIdleReceiver, IsIdleSender, RoundEnd, Stages}
use Rattle.sb_link.specs.RingPlans.{NetFlow, goes_through}
use Rattle.sb_flow.specs.Rings.{ring_plan}
use Rattle.sb_router.specs.Ways.{IsTableOf, route_of}
use Rattle.sb_router.specs.Routers.{DirectionSide, ForwardsAll, IsWholeDirection}
use Rattle.sb_laws.specs.NetworkLayouts.{answer_rings, first_ring, last_ring, links_into, links_out_of, request_rings}
use Rattle.sb_laws.specs.Runs.{ForwardsFlow}
use Rattle.sb_node.specs.Kept.{IsPortMet, IsRingMet}

-- the numbers of the rings that come in, and of those that go out
abbrev pub ring_ins : LaneState → List ℕ
ring_ins s = map (λ x. x.ring.plan.ring) s.inlets

abbrev pub ring_outs : LaneState → List ℕ
ring_outs s = map (λ y. y.plan.ring) s.outlets

-- The words of a course at a direction that sends by rings of these numbers: a word goes to a place where its ring carries it.
abbrev pub course_words : Network → Course → List ℕ → Words
course_words network c outs = record { is_of = is_of network; goes_to = λ o. is_of_ring network c (slice_index_or outs o 0) }

-- A direction sends by rings of these numbers. Each has the budget of the course, and is passed what comes by the rings of the direction.
pub record IsRouterOf (c : Course) (outs : List ℕ) (s : LaneState) : Type 0 where
  pub sends_by : ring_outs s ≡ outs
  pub ins : All (λ y. c.ins y.plan.ring ≡ ring_ins s) s.outlets
  pub budgets : All (λ y. y.plan.budget ≡ budget_over c y.plan.ring) s.outlets

-- the lists of a ring that comes in are those of its end, and the words that are held of it those of the packet that waits
pub record HasInlet (m : Moment) (x : InletState) : Type 0 where
  pub ring : HasRing m x.ring.plan.ring x.ring
  pub held : m.held x.ring.plan.ring ≡ held_words x.held

-- the lists of a direction's rings are those of its ends and ports
pub record HasLane (m : Moment) (s : LaneState) : Type 0 where
  pub inlets : All (HasInlet m) s.inlets
  pub outlets : All (λ y. HasPort m y.plan.ring y) s.outlets

-- the ring to which goes what is held; none where nothing is held, or it goes nowhere
abbrev pub ring_next : Route → LaneState → InletState → Option ℕ
ring_next route s x = option_map (λ o. (outlet_at s o).plan.ring) (option_and_then (next_place route x.ring.plan) x.held)

-- and so is what there is after a round
pub record ShowsInlet (e : RoundEnd) (route : Route) (s : LaneState) (x : InletState) : Type 0 where
  pub lists : HasInlet e.at x
  pub ring : ShowsRing e x.ring.plan.ring x.ring
  pub holds : e.holds x.ring.plan.ring ≡ ring_next route s x

pub record ShowsLane (e : RoundEnd) (route : Route) (s : LaneState) : Type 0 where
  pub inlets : All (ShowsInlet e route s) s.inlets
  pub outlets : All (λ y. ShowsPort e y.plan.ring y) s.outlets

-- a ring comes into a stage, with its end there
pub record ComesInto (stages : Stages) (stage ring : ℕ) : Type 0 where
  pub is_ring : ring < stages.rings
  pub to : stages.to ring ≡ stage
  pub ends_here : stages.goes_out ring ≡ false

-- a ring leaves a stage that isn't the hosts'
pub record Leaves (stages : Stages) (stage ring : ℕ) : Type 0 where
  pub is_ring : ring < stages.rings
  pub from : stages.from ring ≡ stage
  pub no_host : stages.leaves_host ring ≡ false

-- A direction's rings come into a stage, and leave it.
pub record IsAtStage (stages : Stages) (stage : ℕ) (s : LaneState) : Type 0 where
  pub ins : All (λ x. ComesInto stages stage x.ring.plan.ring) s.inlets
  pub outs : All (λ y. Leaves stages stage y.plan.ring) s.outlets

-- A direction is idle at each of its rings.
pub record IsIdleAtRings (stages : Stages) (e : RoundEnd) (s : LaneState) : Type 0 where
  pub receivers : All (λ x. IsIdleReceiver stages e x.ring.plan.ring) s.inlets
  pub senders : All (λ y. IsIdleSender stages e y.plan.ring) s.outlets

-- The routers of a network: the rings at which each stands, and where its tables lead.

-- Requests come to a router by the last ring of each link that leads to it, and go on by the first ring of each that leaves it.
abbrev pub request_ins : Network → ℕ → List ℕ
request_ins network r = map (λ k. last_ring (request_rings network k)) (links_into network (Some r))

abbrev pub request_outs : Network → ℕ → List ℕ
request_outs network r = map (λ k. first_ring (request_rings network k)) (links_out_of network (Some r))

-- Answers come by the last ring of each link that leaves it, and go on by the first ring of each that leads to it.
abbrev pub answer_ins : Network → ℕ → List ℕ
answer_ins network r = map (λ k. last_ring (answer_rings network k)) (links_out_of network (Some r))

abbrev pub answer_outs : Network → ℕ → List ℕ
answer_outs network r = map (λ k. first_ring (answer_rings network k)) (links_into network (Some r))

-- A direction's table leads a flow to a ring just where that ring carries it. Hosts' ids and devices are below 32.
pub record LeadsByPlans (d : DirectionSide) : Type 0 where
  pub within : (f : NetFlow) (o : ℕ) → route_of d.rows f ≡ Some o → o < length d.lane.outlets
  pub leads : (f : NetFlow) (o : ℕ) → f.host < 32 → f.device < 32 → route_of d.rows f ≡ Some o → goes_through (outlet_at d.lane o).plan.flows f ≡ true
  pub led : (f : NetFlow) (o : ℕ) → o < length d.lane.outlets → goes_through (outlet_at d.lane o).plan.flows f ≡ true → route_of d.rows f ≡ Some o

-- A direction is built for a network: it stands at these rings, which have the plans of the network's, and its table leads by them.
pub record IsBuiltFor (network : Network) (ins outs : List ℕ) (d : DirectionSide) : Type 0 where
  pub comes_by : ring_ins d.lane ≡ ins
  pub sends_by : ring_outs d.lane ≡ outs
  pub in_plans : All (λ x. x.ring.plan ≡ ring_plan network x.ring.plan.ring) d.lane.inlets
  pub out_plans : All (λ y. y.plan ≡ ring_plan network y.plan.ring) d.lane.outlets
  pub table : LeadsByPlans d

-- A direction stands in a network at a moment of a run: it is built for it, is whole, and has forwarded what came.
pub record IsRouterAt (network : Network) (c : Course) (m : Moment) (ins outs : List ℕ) (d : DirectionSide) : Type 0 where
  pub built : IsBuiltFor network ins outs d
  pub has : HasLane m d.lane
  pub whole : IsWholeDirection d
  pub forwards : ForwardsAll (course_words network c outs) d

-- each flow's promise is kept by each router on its way
abbrev pub KeepsAlongWays : Network → Course → Moment → Type 0
KeepsAlongWays network c m = All (λ f. AlongWay (ForwardsFlow network c m f) (c.first f) (c.rest f)) c.flows

-- A direction's table is that of the network, by the links of the rings that go out.
pub record HasTable (network : Network) (up : Bool) (r : ℕ) (links : List ℕ) (d : DirectionSide) : Type 0 where
  pub table : IsTableOf network up r links d.rows
  pub within : (f : NetFlow) (o : ℕ) → route_of d.rows f ≡ Some o → o < length links

-- The ends of a router's rings between its turns: as they are once they met the other ones.

-- the end of a ring that comes in met the other one
pub record IsInletMet (before after : InletState) : Type 0 where
  pub ring : IsRingMet before.ring after.ring
  pub ended : after.ended ≡ before.ended
  pub held : after.held ≡ before.held

-- The ends of a direction met the others.
pub record IsDirectionMet (before after : DirectionSide) : Type 0 where
  pub rows : after.rows ≡ before.rows
  pub inlet_count : length after.lane.inlets ≡ length before.lane.inlets
  pub outlet_count : length after.lane.outlets ≡ length before.lane.outlets
  pub inlets : (i : ℕ) → IsInletMet (inlet_at before.lane i) (inlet_at after.lane i)
  pub outlets : (o : ℕ) → IsPortMet (outlet_at before.lane o) (outlet_at after.lane o)
