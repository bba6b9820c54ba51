-- A router as rounds see it: its two directions, its ends by their places, and what stays of it where nothing moved.
use Rattle.std.specs.Prelude.{◌≡◌, ◌≢◌, ◌<◌, ◌+◌, ◌++◌, ℕ, true, List, [], ◌∷◌, length, map, All, Option, ◌-◌, nat_lt, set, slice_index_or, if◌then◌else◌}
use Rattle.std.proofs.Common.{refl, ◌∙◌, subst}
use Rattle.sb_link.specs.declared.answers.Turn.{Turn}
use Rattle.sb_link.specs.declared.answers.Turn.TheVariants.{Moved}
use Rattle.sb_port.specs.Ports.{PortSide}
use Rattle.sb_node.specs.Sides.{RingSide, is_done}
use Rattle.sb_node.specs.Turns.{IsAnswered, empty_cause, full_cause}
use Rattle.sb_router.specs.Lanes.{LaneState, inlet_at, no_port, no_ring, outlet_at}
use Rattle.sb_router.specs.Ways.{route_of}
use Rattle.sb_router.specs.Steps.{HeldAwaitsBusy, IsSilent, Steps, none, steps_then}
use Rattle.sb_router.specs.Forwarding.{Forwards, IsLaid, IsWholeLane, Words}
use Rattle.sb_router.specs.Rested.{IsKeptLane, IsRestedLane, kept_lane_same, kept_lane_then, lane_moves, rested_lane_same, rested_lane_then}
use Rattle.sb_router.specs.Popping.{lowest}
use Rattle.sb_router.specs.Turning.{FewItemsEach, IsIdleLane, ServesEach, ServesPorts}

-- one direction, and where its flows go
pub record DirectionSide : Type 0 where
  pub rows : List (List (Option ℕ))
  pub lane : LaneState

-- a router
pub record RouterSide : Type 0 where
  pub requests : DirectionSide
  pub answers : DirectionSide

-- a direction is whole
abbrev pub IsWholeDirection : DirectionSide → Type 0
IsWholeDirection d = IsWholeLane (route_of d.rows) d.lane

-- A router is whole: it has all its ends, and knows the truth about them.
pub record IsWholeRouter (r : RouterSide) : Type 0 where
  pub requests : IsWholeDirection r.requests
  pub answers : IsWholeDirection r.answers

-- A direction forwards words: its rings belong together, and of each flow it has handed on what came, less what it dropped.
pub record ForwardsAll (words : Words) (d : DirectionSide) : Type 0 where
  pub laid : IsLaid words (route_of d.rows) d.lane
  pub forwards : Forwards words (route_of d.rows) d.lane

-- What turns keep of a direction: nothing is taken back, and it goes on to forward.
pub record IsKeptDirection (before after : DirectionSide) : Type 0 where
  pub rows : after.rows ≡ before.rows
  pub lane : IsKeptLane before.lane after.lane
  -- step by step: a packet is dropped just where it doesn't pass
  pub steps : Steps (route_of before.rows) before.lane after.lane
  pub forwards : (words : Words) → IsWholeDirection before → ForwardsAll words before → ForwardsAll words after
  pub whole : IsWholeDirection before → IsWholeDirection after

pub record IsKeptRouter (before after : RouterSide) : Type 0 where
  pub requests : IsKeptDirection before.requests after.requests
  pub answers : IsKeptDirection before.answers after.answers

-- how much went through a router so far
abbrev pub router_moves : RouterSide → ℕ
router_moves r = lane_moves r.requests.lane + lane_moves r.answers.lane

-- its ports and its rings
abbrev pub router_ports : RouterSide → List PortSide
router_ports r = r.requests.lane.outlets ++ r.answers.lane.outlets

abbrev pub router_rings : RouterSide → List RingSide
router_rings r = map (λ x. x.ring) r.requests.lane.inlets ++ map (λ x. x.ring) r.answers.lane.inlets

-- all ports of a direction were told to close once nothing more comes
abbrev pub ClosesWhenDue : DirectionSide → Type 0
ClosesWhenDue d = All IsSilent d.lane.inlets → (o : ℕ) → o < length d.lane.outlets → (outlet_at d.lane o).state.close_requested ≡ true

-- What one turn of a router does, and answers: of two causes of one kind it answers that at the ring of the lower number.
pub record IsRouterTurn (before : RouterSide) (answer : Turn) (after : RouterSide) : Type 0 where
  pub answered : IsAnswered (router_moves before) (router_moves after) (is_done (router_ports after) (router_rings after))
      (lowest (map full_cause (router_ports after)) ∷ lowest (map empty_cause (router_rings after)) ∷ []) answer
  pub idle_requests : answer ≢ Moved → IsIdleLane (route_of after.requests.rows) after.requests.lane
  pub idle_answers : answer ≢ Moved → IsIdleLane (route_of after.answers.rows) after.answers.lane
  pub closed_requests : ClosesWhenDue after.requests
  pub closed_answers : ClosesWhenDue after.answers
  -- of each ring at most so many items were popped as a turn takes
  pub few_requests : FewItemsEach before.requests.lane after.requests.lane
  pub few_answers : FewItemsEach before.answers.lane after.answers.lane
  -- and just so many where as many waited, the ring was open, and nothing of it was held
  pub served_requests : ServesEach before.requests.lane after.requests.lane
  pub served_answers : ServesEach before.answers.lane after.answers.lane
  -- whatever was held and could be handed on was: what is held still is for a port that was busy
  pub held_requests : HeldAwaitsBusy (route_of after.requests.rows) before.requests.lane after.requests.lane
  pub held_answers : HeldAwaitsBusy (route_of after.answers.rows) before.answers.lane after.answers.lane
  -- by each port at most so many items were sent as a turn sends, and just so many unless it owes nothing then or its ring is full
  pub sent_requests : ServesPorts before.requests.lane after.requests.lane
  pub sent_answers : ServesPorts before.answers.lane after.answers.lane

-- nothing happened to a router
pub kept_router_same : (r : RouterSide) → IsKeptRouter r r
kept_router_same r = record { requests = same r.requests; answers = same r.answers }
  where
    same : (d : DirectionSide) → IsKeptDirection d d
    same d = record { rows = refl; lane = kept_lane_same d.lane; steps = none; forwards = λ words w h. h; whole = λ w. w }

-- one thing after another happened to a router
pub kept_router_then : (x y z : RouterSide) → IsKeptRouter x y → IsKeptRouter y z → IsKeptRouter x z
kept_router_then x y z a b = record { requests = both a.requests b.requests; answers = both a.answers b.answers }
  where
    both : {p q r : DirectionSide} → IsKeptDirection p q → IsKeptDirection q r → IsKeptDirection p r
    both {p} {q} {r} f g = record {
      rows = g.rows ∙ f.rows;
      lane = kept_lane_then f.lane g.lane;
      steps = steps_then f.steps (subst (λ (rows : List (List (Option ℕ))). Steps (route_of rows) q.lane r.lane) f.rows g.steps);
      forwards = λ words w h. g.forwards words (f.whole w) (f.forwards words w h);
      whole = λ w. g.whole (f.whole w);
    }

-- What stays of a router where nothing moved.

-- nothing moved in a direction
pub record IsRestedDirection (before after : DirectionSide) : Type 0 where
  pub rows : after.rows ≡ before.rows
  pub lane : IsRestedLane before.lane after.lane

-- Nothing moved in either direction.
pub record IsRestedRouter (before after : RouterSide) : Type 0 where
  pub requests : IsRestedDirection before.requests after.requests
  pub answers : IsRestedDirection before.answers after.answers

-- nothing happened to a router
pub rested_router_same : (r : RouterSide) → IsRestedRouter r r
rested_router_same r = record { requests = same r.requests; answers = same r.answers }
  where
    same : (d : DirectionSide) → IsRestedDirection d d
    same d = record { rows = refl; lane = rested_lane_same d.lane }

-- one thing after another happened to a router
pub rested_router_then : (x y z : RouterSide) → IsRestedRouter x y → IsRestedRouter y z → IsRestedRouter x z
rested_router_then x y z a b = record { requests = both a.requests b.requests; answers = both a.answers b.answers }
  where
    both : {p q r : DirectionSide} → IsRestedDirection p q → IsRestedDirection q r → IsRestedDirection p r
    both f g = record { rows = g.rows ∙ f.rows; lane = rested_lane_then f.lane g.lane }

-- The ends of a router by their places, those of requests first, and how they are lent.

-- the port at a place, and the ring that comes in at a place
abbrev pub router_port : RouterSide → ℕ → PortSide
router_port r k = slice_index_or (router_ports r) k no_port

abbrev pub router_ring : RouterSide → ℕ → RingSide
router_ring r k = slice_index_or (router_rings r) k no_ring

-- another port stands at a place of a direction, or another ring
abbrev pub with_port : DirectionSide → ℕ → PortSide → DirectionSide
with_port d k port = record d { lane = record d.lane { outlets = set d.lane.outlets k port } }

abbrev pub with_ring : DirectionSide → ℕ → RingSide → DirectionSide
with_ring d k ring = record d { lane = record d.lane { inlets = set d.lane.inlets k (record (inlet_at d.lane k) { ring = ring }) } }

-- Another port stands at a place of a router, or another ring.
abbrev pub router_with_port : RouterSide → ℕ → PortSide → RouterSide
router_with_port r k port = if nat_lt k (length r.requests.lane.outlets)
    then record r { requests = with_port r.requests k port }
    else record r { answers = with_port r.answers (k - length r.requests.lane.outlets) port }

abbrev pub router_with_ring : RouterSide → ℕ → RingSide → RouterSide
router_with_ring r k ring = if nat_lt k (length r.requests.lane.inlets)
    then record r { requests = with_ring r.requests k ring }
    else record r { answers = with_ring r.answers (k - length r.requests.lane.inlets) ring }
