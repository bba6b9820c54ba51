-- Nodes in front of full rings: the host's ring and the device's have one place here, it is taken, and each port owes a packet more. Neither node can do anything.
use Rattle.std.proofs.Common.{◌≡◌, lit≤, lit<, ℕ, zero, suc, true, false, List, [], ◌∷◌, refl, inl, inr, None}
use Rattle.std.specs.Prelude.{◌⊎◌, ◌==◌, ◌||◌}
use Rattle.std.proofs.lemmas.List.Elements.{All-nil}
use Rattle.sb_packet.specs.Messages.{message_of}
use Rattle.sb_link.specs.RingPlans.{RingPlan}
use Rattle.sb_flow.specs.Rings.{ring_plan}
use Rattle.sb_packet.specs.Cuts.{IsSound}
use Rattle.sb_link.specs.Traffic.{item_accesses}
use Rattle.sb_packet.specs.declared.item.Item.{Item}
use Rattle.sb_packet.specs.declared.item.Item.TheVariants as items
use Rattle.sb_packet.specs.declared.packet.Packet.{Packet}
use Rattle.sb_packet.proofs.FineParts.{packet_whole}
use Rattle.sb_port.specs.Ports.{IsFit, IsSendable, PortSide}
use Rattle.sb_node.specs.Idle.{IsIdleAt}
use Rattle.sb_node.specs.Sides.{RingSide, has_ended, has_rest, is_drained, is_full}
use Rattle.sb_node.specs.Steps.{IsBlockedPort}
use Rattle.sb_node.proofs.Answering.{one_of}
use Rattle.sb_host.specs.Steps.{IsIdleHost}
use Rattle.sb_laws.specs.NodeSides.{ShowsPort, ShowsRing}
use Rattle.sb_laws.specs.Standstills.{IsIdlePort, IsIdleReceiver, IsIdleSender, RoundEnd}
use Rattle.sb_laws.proofs.DeviceSides.{idle_receiver, idle_sender}
use Rattle.sb_laws.proofs.HostSides.{idle_host_receives, idle_host_sends}
use Rattle.sb_laws.proofs.SidePromises.{idle_port}
use Rattle.sb_laws.proofs.ExampleNetwork.{small, posted, read_back, write, written}
use Rattle.sb_laws.proofs.ExampleRun.{end_of_small}
use Rattle.sb_laws.proofs.ExampleStandstill.{small_stages}
use Rattle.sb_laws.proofs.ExampleNodes.{fresh, ring_in, small_mark}
use Rattle.sb_laws.proofs.ExampleHost.{host_in}
use Rattle.sb_laws.proofs.ExamplePorts.{one_packet, small_apart, small_paged}

-- a ring of one place
abbrev pub narrow : ℕ → RingPlan
narrow r = record (ring_plan small r) { capacity = 1 }

-- a port that has sent one packet, which wasn't taken, and owes another
abbrev pub blocked_port : ℕ → Packet → Packet → PortSide
blocked_port r first second = record {
  plan = narrow r;
  mark = record (small_mark r) { plan = narrow r };
  published = items.Packet first ∷ [];
  taken = 0;
  state = record { sent = items.Packet first ∷ []; waiting = record { width = 32; owed = message_of second ∷ []; held = None }; close_requested = false; close_sent = false; words_offered = 2 };
}

-- the host's has sent the write and owes the posted write, and the device's has sent the answer to the write and owes that to the read
abbrev host_port : PortSide
host_port = blocked_port 0 write posted

abbrev device_port : PortSide
device_port = blocked_port 3 written read_back

host_port_is_fit : IsFit (narrow 0) host_port.state
host_port_is_fit = record {
  width = refl;
  wide = inr (inr refl);
  limit = lit≤ tt;
  apart = small_apart 0;
  paged = small_paged 0;
  close = refl;
  told = λ e. absurd (cc);
  none_owed = λ e. absurd (cc);
  none_held = λ e. absurd (cc);
  in_turn = one_packet (narrow 0) write refl refl (lit≤ tt) refl (lit≤ tt);
  sound = one_of IsSound (message_of write) ((end_of_small.ports 0).sound 0 (message_of write) (lit< tt));
  owed = one_of (IsSendable (narrow 0)) (message_of posted) (record {
    fine = record { sound = (end_of_small.ports 0).sound 1 (message_of posted) (lit< tt); whole = packet_whole posted; narrow = lit≤ tt };
    planned = record { direction = refl; allowed = refl };
  });
  held = All-nil (IsSendable (narrow 0));
  counted = refl;
  room = lit≤ tt;
}

device_port_is_fit : IsFit (narrow 3) device_port.state
device_port_is_fit = record {
  width = refl;
  wide = inr (inr refl);
  limit = lit≤ tt;
  apart = small_apart 3;
  paged = small_paged 3;
  close = refl;
  told = λ e. absurd (cc);
  none_owed = λ e. absurd (cc);
  none_held = λ e. absurd (cc);
  in_turn = one_packet (narrow 3) written refl refl (lit≤ tt) refl (lit≤ tt);
  sound = one_of IsSound (message_of written) ((end_of_small.ports 3).sound 0 (message_of written) (lit< tt));
  owed = one_of (IsSendable (narrow 3)) (message_of read_back) (record {
    fine = record { sound = (end_of_small.ports 3).sound 1 (message_of read_back) (lit< tt); whole = packet_whole read_back; narrow = lit≤ tt };
    planned = record { direction = refl; allowed = refl };
  });
  held = All-nil (IsSendable (narrow 3));
  counted = refl;
  room = lit≤ tt;
}

-- the device has taken one request, and knows of one more, which it leaves
abbrev waiting_ring : RingSide
waiting_ring = record (ring_in fresh 2) { received = items.Packet write ∷ []; known = 2 }

-- the round, by ring
abbrev sent_items : ℕ → List Item
sent_items zero = items.Packet write ∷ []
sent_items (suc zero) = []
sent_items (suc (suc zero)) = items.Packet write ∷ items.Packet posted ∷ []
sent_items (suc (suc (suc r))) = items.Packet written ∷ []

abbrev received_items : ℕ → List Item
received_items zero = []
received_items (suc zero) = []
received_items (suc (suc zero)) = items.Packet write ∷ []
received_items (suc (suc (suc r))) = []

abbrev offered_items : ℕ → List Item
offered_items zero = items.Packet write ∷ items.Packet posted ∷ []
offered_items (suc zero) = []
offered_items (suc (suc zero)) = items.Packet write ∷ items.Packet posted ∷ []
offered_items (suc (suc (suc r))) = items.Packet written ∷ items.Packet read_back ∷ []

abbrev blocked_round : RoundEnd
blocked_round = record {
  at = record { sent = sent_items; received = received_items; offered = λ r. item_accesses (offered_items r); held = λ r. [] };
  full = λ r. (r == 0) || (r == 3);
  empty = λ r. r == 1;
  owes = λ r. (r == 0) || (r == 3);
  merges = λ r. false;
  told = λ r. false;
  holds = λ r. None;
  waits = λ r. false;
}

shows_host_port : ShowsPort blocked_round 0 host_port
shows_host_port = record { lists = record { sent = refl; offered = refl }; full = refl; owes = refl; merges = refl; told = refl }

shows_host_ring : ShowsRing blocked_round 1 (ring_in fresh 1)
shows_host_ring = record { lists = record { received = refl }; empty = refl }

shows_device_port : ShowsPort blocked_round 3 device_port
shows_device_port = record { lists = record { sent = refl; offered = refl }; full = refl; owes = refl; merges = refl; told = refl }

shows_device_ring : ShowsRing blocked_round 2 waiting_ring
shows_device_ring = record { lists = record { received = refl }; empty = refl }

pub owing_ports_are_idle : IsIdlePort blocked_round 0 × IsIdlePort blocked_round 3
owing_ports_are_idle = (
  idle_port blocked_round 0 host_port host_port_is_fit shows_host_port (λ rest. refl),
  idle_port blocked_round 3 device_port device_port_is_fit shows_device_port (λ rest. refl),
)

blocked_host : IsIdleHost (host_in fresh [] 0).transactions host_port (ring_in fresh 1)
blocked_host = record {
  at_rest = record {
    owing_ports_are_full = one_of (λ port. has_rest port ≡ true → is_full port ≡ true) host_port (λ rest. refl);
    open_rings_are_drained = one_of (λ ring. has_ended ring ≡ false → (is_drained ring ≡ true) ⊎ ⊥) (ring_in fresh 1) (λ unended. inl refl);
  };
  open_host_is_blocked = λ untold. inl (record { owing = refl; full = refl });
}

pub idle_hosts_are_idle : IsIdleSender small_stages blocked_round 0 × IsIdleReceiver small_stages blocked_round 1
idle_hosts_are_idle = (
  idle_host_sends small_stages blocked_round 0 (host_in fresh [] 0).transactions host_port (ring_in fresh 1) shows_host_port refl refl host_port_is_fit blocked_host,
  idle_host_receives small_stages blocked_round 1 (host_in fresh [] 0).transactions host_port (ring_in fresh 1) shows_host_ring refl refl blocked_host,
)

blocked_device : IsIdleAt (λ ring. IsBlockedPort device_port) (device_port ∷ []) (waiting_ring ∷ [])
blocked_device = record {
  owing_ports_are_full = one_of (λ port. has_rest port ≡ true → is_full port ≡ true) device_port (λ rest. refl);
  open_rings_are_drained = one_of (λ ring. has_ended ring ≡ false → (is_drained ring ≡ true) ⊎ IsBlockedPort device_port) waiting_ring (λ unended. inr (record { owing = refl; full = refl }));
}

pub idle_devices_are_idle : IsIdleReceiver small_stages blocked_round 2 × IsIdleSender small_stages blocked_round 3
idle_devices_are_idle = (
  idle_receiver small_stages blocked_round 2 3 waiting_ring device_port shows_device_ring shows_device_port (lit< tt) refl refl refl blocked_device,
  idle_sender small_stages blocked_round 2 3 waiting_ring device_port shows_device_ring shows_device_port (lit< tt) refl refl refl device_port_is_fit refl blocked_device,
)
