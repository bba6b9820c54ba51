-- The laws of routers' turns, meetings and tables at the example's router.
use Rattle.std.proofs.Common.{◌≡◌, ◌<◌, lit≤, lit<, ℕ, zero, suc, true, false, [], refl, arith, inl, inr, Some, None}
use Rattle.std.specs.Prelude.{All, slice_index_or}
use Rattle.sb_link.specs.declared.answers.Turn.TheVariants.{Done}
use Rattle.sb_flow.specs.Rings.{ring_plan}
use Rattle.sb_packet.specs.declared.packet.Packet.{Packet}
use Rattle.sb_link.specs.Traffic.{has_close}
use Rattle.sb_packet.proofs.FoundAnswers.{eq_below}
use Rattle.sb_node.specs.Sides.{has_rest, is_full}
use Rattle.sb_node.proofs.Answering.{one_of}
use Rattle.sb_router.specs.Lanes.{inlet_at}
use Rattle.sb_router.specs.Ways.{place_on, route_of}
use Rattle.sb_router.specs.Routers.{ClosesWhenDue, DirectionSide, IsRouterTurn, IsWholeRouter, RouterSide}
use Rattle.sb_router.specs.Turning.{IsIdleLane, IsSeen, ServesEach, ServesPorts}
use Rattle.sb_laws.specs.NetworkLayouts.{links_into, links_out_of}
use Rattle.sb_laws.specs.RouterSides.{ComesInto, HasTable, IsAtStage, IsIdleAtRings, LeadsByPlans, Leaves, ShowsInlet, ShowsLane}
use Rattle.sb_laws.specs.NodeSides.{ShowsPort}
use Rattle.sb_laws.specs.Standstills.{IsIdleReceiver, IsIdleSender}
use Rattle.sb_laws.proofs.RouterSides.{idle_receivers, idle_senders, unmoved_answers, unmoved_requests}
use Rattle.sb_laws.proofs.RouterTables.{answer_tables, request_tables}
use Rattle.sb_laws.proofs.ExampleNetwork.{small, cpu}
use Rattle.sb_laws.proofs.ExampleRouted.{small_is_routed}
use Rattle.sb_laws.proofs.ExampleRun.{the_end}
use Rattle.sb_laws.proofs.ExampleStandstill.{last_round, small_stages}
use Rattle.sb_laws.proofs.ExampleNodes.{fresh, port_in}
use Rattle.sb_laws.proofs.ExamplePorts.{end_is_settled, has_ring}
use Rattle.sb_laws.proofs.ExampleSides.{at_rest, shows_port, shows_ring}
use Rattle.sb_laws.proofs.ExampleRouter.{direction_in, direction_is_whole, end_answers, end_requests, inlet_in, small_rows, within}

-- the router at the end
abbrev end_router : RouterSide
end_router = record { requests = direction_in the_end 0 2 None; answers = direction_in the_end 3 1 None }

end_router_is_whole : IsWholeRouter end_router
end_router_is_whole = record { requests = direction_is_whole the_end end_is_settled 0 2 None end_requests; answers = direction_is_whole the_end end_is_settled 3 1 None end_answers }

-- after the last round each direction is as its ends say, and stands at its stage
shows_requests : ShowsLane last_round (route_of small_rows) end_router.requests.lane
shows_requests = record {
  inlets = one_of (ShowsInlet last_round (route_of small_rows) end_router.requests.lane) (inlet_in the_end 0 None) (record { lists = record { ring = has_ring the_end end_is_settled 0; held = refl }; ring = shows_ring 0 (lit< tt); holds = refl });
  outlets = one_of (λ y. ShowsPort last_round y.plan.ring y) (port_in the_end 2) (shows_port 2 (lit< tt));
}

shows_answers : ShowsLane last_round (route_of small_rows) end_router.answers.lane
shows_answers = record {
  inlets = one_of (ShowsInlet last_round (route_of small_rows) end_router.answers.lane) (inlet_in the_end 3 None) (record { lists = record { ring = has_ring the_end end_is_settled 3; held = refl }; ring = shows_ring 3 (lit< tt); holds = refl });
  outlets = one_of (λ y. ShowsPort last_round y.plan.ring y) (port_in the_end 1) (shows_port 1 (lit< tt));
}

requests_stage : IsAtStage small_stages 1 end_router.requests.lane
requests_stage = record {
  ins = one_of (λ x. ComesInto small_stages 1 x.ring.plan.ring) (inlet_in the_end 0 None) (record { is_ring = lit< tt; to = refl; ends_here = refl });
  outs = one_of (λ y. Leaves small_stages 1 y.plan.ring) (port_in the_end 2) (record { is_ring = lit< tt; from = refl; no_host = refl });
}

answers_stage : IsAtStage small_stages 3 end_router.answers.lane
answers_stage = record {
  ins = one_of (λ x. ComesInto small_stages 3 x.ring.plan.ring) (inlet_in the_end 3 None) (record { is_ring = lit< tt; to = refl; ends_here = refl });
  outs = one_of (λ y. Leaves small_stages 3 y.plan.ring) (port_in the_end 1) (record { is_ring = lit< tt; from = refl; no_host = refl });
}

-- a direction whose ring has ended, which holds nothing, and has told its port to close
module _ (r q : ℕ) (goes_on : q < 4) (ended : has_close (the_end.received r) ≡ true) (told : has_close (the_end.sent q) ≡ true) where
  abbrev ended_direction : DirectionSide
  ended_direction = direction_in the_end r q None

  none_held : (i : ℕ) (p : Packet) → (inlet_at ended_direction.lane i).held ≡ Some p → ⊥
  none_held zero p e = cc
  none_held (suc i) p e = cc

  is_idle : IsIdleLane (route_of small_rows) ended_direction.lane
  is_idle = record {
    held_awaits_full = λ i p inside e. absurd (none_held i p e);
    owing_are_full = one_of (λ port. has_rest port ≡ true → is_full port ≡ true) (port_in the_end q) (at_rest q goes_on);
    open_are_seen = one_of IsSeen (inlet_in the_end r None) (inl ended);
  }

  closes : ClosesWhenDue ended_direction
  closes silent zero inside = told
  closes silent (suc o) inside = absurd (omega arith)

pub idle_routers_are_idle : All (λ x. IsIdleReceiver small_stages last_round x.ring.plan.ring) end_router.requests.lane.inlets
    × All (λ y. IsIdleSender small_stages last_round y.plan.ring) end_router.requests.lane.outlets
    × All (λ x. IsIdleReceiver small_stages last_round x.ring.plan.ring) end_router.answers.lane.inlets
    × All (λ y. IsIdleSender small_stages last_round y.plan.ring) end_router.answers.lane.outlets
idle_routers_are_idle = (
  idle_receivers small_stages last_round 1 (route_of small_rows) end_router.requests.lane shows_requests requests_stage end_router_is_whole.requests (is_idle 0 2 (lit< tt) refl refl),
  idle_senders small_stages last_round 1 (route_of small_rows) end_router.requests.lane shows_requests requests_stage end_router_is_whole.requests (is_idle 0 2 (lit< tt) refl refl) (closes 0 2 (lit< tt) refl refl),
  idle_receivers small_stages last_round 3 (route_of small_rows) end_router.answers.lane shows_answers answers_stage end_router_is_whole.answers (is_idle 3 1 (lit< tt) refl refl),
  idle_senders small_stages last_round 3 (route_of small_rows) end_router.answers.lane shows_answers answers_stage end_router_is_whole.answers (is_idle 3 1 (lit< tt) refl refl) (closes 3 1 (lit< tt) refl refl),
)

-- a turn in which it is done
pub done_turn : IsRouterTurn end_router Done end_router
done_turn = record {
  answered = (refl, refl);
  idle_requests = λ still. is_idle 0 2 (lit< tt) refl refl;
  idle_answers = λ still. is_idle 3 1 (lit< tt) refl refl;
  closed_requests = closes 0 2 (lit< tt) refl refl;
  closed_answers = closes 3 1 (lit< tt) refl refl;
  few_requests = λ i. omega arith;
  few_answers = λ i. omega arith;
  served_requests = served_requests;
  served_answers = served_answers;
  held_requests = λ i p inside e. absurd (none_held 0 2 (lit< tt) refl refl i p e);
  held_answers = λ i p inside e. absurd (none_held 3 1 (lit< tt) refl refl i p e);
  sent_requests = sent_requests;
  sent_answers = sent_answers;
}
  where
    served_requests : ServesEach end_router.requests.lane end_router.requests.lane
    served_requests zero inside = λ open_yet free. inr refl
    served_requests (suc i) inside = absurd (omega arith)

    served_answers : ServesEach end_router.answers.lane end_router.answers.lane
    served_answers zero inside = λ open_yet free. inr refl
    served_answers (suc i) inside = absurd (omega arith)

    sent_requests : ServesPorts end_router.requests.lane end_router.requests.lane
    sent_requests zero inside = record { few = lit≤ tt; served = inr (inl refl) }
    sent_requests (suc o) inside = absurd (omega arith)

    sent_answers : ServesPorts end_router.answers.lane end_router.answers.lane
    sent_answers zero inside = record { few = lit≤ tt; served = inr (inl refl) }
    sent_answers (suc o) inside = absurd (omega arith)

pub unmoved_routers_are_idle : IsIdleAtRings small_stages last_round end_router.requests.lane × IsIdleAtRings small_stages last_round end_router.answers.lane
unmoved_routers_are_idle = (
  unmoved_requests small_stages last_round 1 end_router end_router Done end_router_is_whole done_turn (λ e. cc) shows_requests requests_stage,
  unmoved_answers small_stages last_round 3 end_router end_router Done end_router_is_whole done_turn (λ e. cc) shows_answers answers_stage,
)

-- its tables are those of the network's ways, of which there is one
requests_table : HasTable small false 0 (links_out_of small (Some 0)) (direction_in fresh 0 2 None)
requests_table = record { table = λ f host device. table f.host f.device; within = within }
  where
    table : (h d : ℕ) → slice_index_or (slice_index_or small_rows h []) d None ≡ place_on small false 0 (links_out_of small (Some 0)) (record { host = h; device = d })
    table zero zero = refl
    table zero (suc d) = rw (eq_below 0 (suc d) (omega arith)) refl
    table (suc h) d = rw (eq_below 0 (suc h) (omega arith)) refl

answers_table : HasTable small true 0 (links_into small (Some 0)) (direction_in fresh 3 1 None)
answers_table = record { table = λ f host device. table f.host f.device; within = within }
  where
    table : (h d : ℕ) → slice_index_or (slice_index_or small_rows h []) d None ≡ place_on small true 0 (links_into small (Some 0)) (record { host = h; device = d })
    table zero zero = refl
    table zero (suc d) = rw (eq_below 0 (suc d) (omega arith)) refl
    table (suc h) d = rw (eq_below 0 (suc h) (omega arith)) refl

ids_are_low : All (λ host. host.id < 32) small.hosts
ids_are_low = one_of (λ host. host.id < 32) cpu (lit< tt)

pub tables_lead_by_plans : LeadsByPlans (direction_in fresh 0 2 None) × LeadsByPlans (direction_in fresh 3 1 None)
tables_lead_by_plans = (
  request_tables small 0 (direction_in fresh 0 2 None) small_is_routed ids_are_low refl (one_of (λ y. y.plan ≡ ring_plan small y.plan.ring) (port_in fresh 2) refl) requests_table,
  answer_tables small 0 (direction_in fresh 3 1 None) small_is_routed ids_are_low refl (one_of (λ y. y.plan ≡ ring_plan small y.plan.ring) (port_in fresh 1) refl) answers_table,
)
