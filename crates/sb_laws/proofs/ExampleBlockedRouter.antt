-- A router in front of a full ring of one place: it holds the read, for a port that owes the posted write, and can do nothing with its requests.
use Rattle.std.proofs.Common.{◌≡◌, ◌<◌, lit≤, lit<, ℕ, zero, suc, true, false, List, [], ◌∷◌, refl, subst, arith, inl, inr, Some, None}
use Rattle.std.specs.Prelude.{◌==◌, All, Option}
use Rattle.std.proofs.lemmas.List.Elements.{All-nil}
use Rattle.sb_packet.specs.Messages.{message_of}
use Rattle.sb_flow.specs.Rings.{ring_plan}
use Rattle.sb_packet.specs.Cuts.{IsSound}
use Rattle.sb_link.specs.Traffic.{IsCarriable, item_accesses}
use Rattle.sb_packet.specs.declared.item.Item.{Item}
use Rattle.sb_packet.specs.declared.item.Item.TheVariants as items
use Rattle.sb_packet.specs.declared.packet.Packet.{Packet}
use Rattle.sb_packet.proofs.FineParts.{packet_whole}
use Rattle.sb_port.specs.Ports.{IsFit, IsSendable, PortSide}
use Rattle.sb_node.specs.Sides.{has_rest, is_full}
use Rattle.sb_node.proofs.Answering.{one_of}
use Rattle.sb_router.specs.Steps.{AwaitsFullPort, IsSilent}
use Rattle.sb_router.specs.Lanes.{InletState, inlet_at, no_inlet, outlet_at}
use Rattle.sb_router.specs.Ways.{route_of}
use Rattle.sb_router.specs.Routers.{ClosesWhenDue, DirectionSide, IsWholeDirection}
use Rattle.sb_router.specs.Turning.{IsIdleLane, IsSeen}
use Rattle.sb_router.specs.Forwarding.{IsLast, IsWholeInlet, IsWholeOutlet}
use Rattle.sb_laws.specs.RouterSides.{ComesInto, IsAtStage, Leaves, ShowsInlet, ShowsLane}
use Rattle.sb_laws.specs.NodeSides.{ShowsPort}
use Rattle.sb_laws.specs.Standstills.{IsIdleReceiver, IsIdleSender, RoundEnd}
use Rattle.sb_laws.proofs.RouterSides.{idle_receivers, idle_senders}
use Rattle.sb_laws.proofs.ExampleNetwork.{small, posted, read, write}
use Rattle.sb_laws.proofs.ExampleRun.{end_of_small}
use Rattle.sb_laws.proofs.ExampleStandstill.{small_stages}
use Rattle.sb_laws.proofs.ExampleNodes.{fresh, ring_in}
use Rattle.sb_laws.proofs.ExamplePorts.{from_host, one_packet, small_apart, small_paged}
use Rattle.sb_laws.proofs.ExampleRouter.{small_rows, within}
use Rattle.sb_laws.proofs.ExampleBlocked.{blocked_port, narrow}

abbrev came : List Item
came = items.Packet write ∷ items.Packet posted ∷ items.Packet read ∷ []

abbrev full_port : PortSide
full_port = blocked_port 2 write posted

abbrev holding : InletState
holding = record { ring = record (ring_in fresh 0) { received = came; known = 4 }; ended = false; held = Some read }

abbrev blocked : DirectionSide
blocked = record { rows = small_rows; lane = record { inlets = holding ∷ []; outlets = full_port ∷ [] } }

full_port_is_fit : IsFit (narrow 2) full_port.state
full_port_is_fit = record {
  width = refl;
  wide = inr (inr refl);
  limit = lit≤ tt;
  apart = small_apart 2;
  paged = small_paged 2;
  close = refl;
  told = λ e. absurd (cc);
  none_owed = λ e. absurd (cc);
  none_held = λ e. absurd (cc);
  in_turn = one_packet (narrow 2) write refl refl (lit≤ tt) refl (lit≤ tt);
  sound = one_of IsSound (message_of write) ((end_of_small.ports 0).sound 0 (message_of write) (lit< tt));
  owed = one_of (IsSendable (narrow 2)) (message_of posted) (record {
    fine = record { sound = (end_of_small.ports 0).sound 1 (message_of posted) (lit< tt); whole = packet_whole posted; narrow = lit≤ tt };
    planned = record { direction = refl; allowed = refl };
  });
  held = All-nil (IsSendable (narrow 2));
  counted = refl;
  room = lit≤ tt;
}

is_whole : IsWholeDirection blocked
is_whole = record {
  inlets = one_of IsWholeInlet holding (record {
    ended = refl;
    last = λ p e. (let same : read ≡ p = cc in subst (λ (x : Packet). IsLast x came) same (record { before = items.Packet write ∷ items.Packet posted ∷ []; joined = refl }));
    carriable = λ p e. (let same : read ≡ p = cc in subst (λ (x : Packet). IsCarriable (ring_plan small 0) (message_of x)) same from_host.read);
  });
  outlets = one_of IsWholeOutlet full_port (record { fit = full_port_is_fit });
  silent = silent;
  routed = within;
}
  where
    silent : (o : ℕ) → o < 1 → (outlet_at blocked.lane o).state.close_requested ≡ true → All IsSilent (holding ∷ [])
    silent zero inside told = absurd (cc)
    silent (suc o) inside told = absurd (omega arith)

is_idle : IsIdleLane (route_of small_rows) blocked.lane
is_idle = record {
  held_awaits_full = awaits;
  owing_are_full = one_of (λ port. has_rest port ≡ true → is_full port ≡ true) full_port (λ rest. refl);
  open_are_seen = one_of IsSeen holding (inr (inl (λ e. cc)));
}
  where
    awaits : (i : ℕ) (p : Packet) → i < 1 → (inlet_at blocked.lane i).held ≡ Some p → AwaitsFullPort (route_of small_rows) blocked.lane i p
    awaits zero p inside e = let same : read ≡ p = cc in subst (λ (x : Packet). AwaitsFullPort (route_of small_rows) blocked.lane 0 x) same (record { place = 0; within = lit< tt; next = refl; owing = refl; full = refl })
    awaits (suc i) p inside e = absurd (omega arith)

closes : ClosesWhenDue blocked
closes silent o inside = absurd (let ended : false ≡ true = (silent 0 no_inlet (lit< tt)).ended in cc)

-- the round, by ring
abbrev sent_items : ℕ → List Item
sent_items zero = came
sent_items (suc zero) = []
sent_items (suc (suc r)) = items.Packet write ∷ []

abbrev offered_items : ℕ → List Item
offered_items zero = came
offered_items (suc zero) = []
offered_items (suc (suc r)) = items.Packet write ∷ items.Packet posted ∷ []

abbrev received_items : ℕ → List Item
received_items zero = came
received_items (suc r) = []

abbrev held_items : ℕ → List Item
held_items zero = items.Packet read ∷ []
held_items (suc r) = []

abbrev next_ring : ℕ → Option ℕ
next_ring zero = Some 2
next_ring (suc r) = None

abbrev blocked_round : RoundEnd
blocked_round = record {
  at = record { sent = sent_items; received = received_items; offered = λ r. item_accesses (offered_items r); held = λ r. item_accesses (held_items r) };
  full = λ r. r == 2;
  empty = λ r. false;
  owes = λ r. r == 2;
  merges = λ r. false;
  told = λ r. false;
  holds = next_ring;
  waits = λ r. false;
}

shows : ShowsLane blocked_round (route_of small_rows) blocked.lane
shows = record {
  inlets = one_of (ShowsInlet blocked_round (route_of small_rows) blocked.lane) holding (record { lists = record { ring = record { received = refl }; held = refl }; ring = record { lists = record { received = refl }; empty = refl }; holds = refl });
  outlets = one_of (λ y. ShowsPort blocked_round y.plan.ring y) full_port (record { lists = record { sent = refl; offered = refl }; full = refl; owes = refl; merges = refl; told = refl });
}

stage : IsAtStage small_stages 1 blocked.lane
stage = record {
  ins = one_of (λ x. ComesInto small_stages 1 x.ring.plan.ring) holding (record { is_ring = lit< tt; to = refl; ends_here = refl });
  outs = one_of (λ y. Leaves small_stages 1 y.plan.ring) full_port (record { is_ring = lit< tt; from = refl; no_host = refl });
}

pub idle_routers_are_idle : All (λ x. IsIdleReceiver small_stages blocked_round x.ring.plan.ring) (holding ∷ []) × All (λ y. IsIdleSender small_stages blocked_round y.plan.ring) (full_port ∷ [])
idle_routers_are_idle = (
  idle_receivers small_stages blocked_round 1 (route_of small_rows) blocked.lane shows stage is_whole is_idle,
  idle_senders small_stages blocked_round 1 (route_of small_rows) blocked.lane shows stage is_whole is_idle closes,
)
