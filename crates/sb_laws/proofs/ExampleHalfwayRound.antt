-- Halfway the host and the device have nothing to do: all that came to them they have taken. The host waits for answers, and the device for requests.
use Rattle.std.proofs.Common.{◌≡◌, lit≤, lit<, ℕ, zero, suc, true, false, Global, [], ◌∷◌, refl, arith, inl, inr, Some, None}
use Rattle.std.specs.Prelude.{◌⊎◌, Option}
use Rattle.sb_link.specs.declared.answers.Cause.TheVariants.{Empty}
use Rattle.sb_link.specs.declared.answers.Turn.TheVariants.{Idle}
use Rattle.sb_link.specs.Traffic.{has_close}
use Rattle.sb_node.specs.Idle.{IsIdleAt}
use Rattle.sb_node.specs.Sides.{has_ended, has_rest, is_drained, is_full}
use Rattle.sb_node.specs.Steps.{IsBlockedPort}
use Rattle.sb_node.proofs.Answering.{one_of}
use Rattle.sb_host.specs.Hosts.{IsHostTurn}
use Rattle.sb_host.specs.Progress.{TransactionsSide}
use Rattle.sb_host.specs.Steps.{IsIdleHost}
use Rattle.sb_laws.specs.NodeSides.{ShowsPort, ShowsRing}
use Rattle.sb_laws.specs.Standstills.{IsIdleReceiver, IsIdleSender, RoundEnd}
use Rattle.sb_laws.proofs.DeviceSides.{idle_receiver, idle_sender}
use Rattle.sb_laws.proofs.HostSides.{idle_host_receives, idle_host_sends, unmoved_receives, unmoved_sends}
use Rattle.sb_laws.proofs.ExampleHalfway.{halfway}
use Rattle.sb_laws.proofs.ExampleStandstill.{small_stages}
use Rattle.sb_laws.proofs.ExampleNodes.{port_in, ring_in}
use Rattle.sb_laws.proofs.ExamplePorts.{halfway_is_settled, has_port, has_ring, is_fit}
use Rattle.sb_laws.proofs.ExampleHost.{halfway_host, halfway_host_is_whole, host_in}

-- the router holds a packet that came by ring 0, for ring 2
abbrev half_holds : ℕ → Option ℕ
half_holds zero = Some 2
half_holds (suc r) = None

abbrev half_round : RoundEnd
half_round = record {
  at = halfway;
  full = λ r. false;
  empty = λ r. is_drained (ring_in halfway r);
  owes = λ r. false;
  merges = λ r. false;
  told = λ r. has_close (halfway.sent r);
  holds = half_holds;
  waits = λ r. false;
}

-- the host's two ends, and the device's
host_port : ShowsPort half_round 0 (port_in halfway 0)
host_port = record { lists = has_port halfway halfway_is_settled 0; full = refl; owes = refl; merges = refl; told = refl }

host_ring : ShowsRing half_round 1 (ring_in halfway 1)
host_ring = record { lists = has_ring halfway halfway_is_settled 1; empty = refl }

device_ring : ShowsRing half_round 2 (ring_in halfway 2)
device_ring = record { lists = has_ring halfway halfway_is_settled 2; empty = refl }

device_port : ShowsPort half_round 3 (port_in halfway 3)
device_port = record { lists = has_port halfway halfway_is_settled 3; full = refl; owes = refl; merges = refl; told = refl }

idle_host : (t : TransactionsSide) → IsIdleHost t (port_in halfway 0) (ring_in halfway 1)
idle_host t = record {
  at_rest = record {
    owing_ports_are_full = one_of (λ port. has_rest port ≡ true → is_full port ≡ true) (port_in halfway 0) (λ rest. absurd (cc));
    open_rings_are_drained = one_of (λ ring. has_ended ring ≡ false → (is_drained ring ≡ true) ⊎ ⊥) (ring_in halfway 1) (λ unended. inl refl);
  };
  open_host_is_blocked = λ untold. absurd (cc);
}

pub idle_hosts_are_idle : IsIdleSender small_stages half_round 0 × IsIdleReceiver small_stages half_round 1
idle_hosts_are_idle = (
  idle_host_sends small_stages half_round 0 (host_in halfway [] 3).transactions (port_in halfway 0) (ring_in halfway 1) host_port refl refl
      (is_fit halfway halfway_is_settled 0 (lit< tt)) (idle_host (host_in halfway [] 3).transactions),
  idle_host_receives small_stages half_round 1 (host_in halfway [] 3).transactions (port_in halfway 0) (ring_in halfway 1) host_ring refl refl
      (idle_host (host_in halfway [] 3).transactions),
)

module _ (heap : Global) where
  -- a turn in which it found its ring empty
  idle_turn : IsHostTurn (halfway_host heap) 2 (Idle (Empty 1 0 0)) (halfway_host heap)
  idle_turn = record {
    answered = (refl, refl, refl);
    idle = λ still. idle_host (halfway_host heap).transactions;
    few = lit≤ tt;
    port_served = record { few = lit≤ tt; served = inr (inl refl) };
    ring_served = inr refl;
    next_offered = inl (λ free m rest left. absurd (cc));
    aimed = λ d inside. absurd (omega arith);
    closes_when_due = λ all. refl;
  }

  pub unmoved_hosts_are_idle : IsIdleSender small_stages half_round 0 × IsIdleReceiver small_stages half_round 1
  unmoved_hosts_are_idle = (
    unmoved_sends small_stages half_round (halfway_host heap) (halfway_host heap) 2 (Idle (Empty 1 0 0)) (halfway_host_is_whole heap) idle_turn (λ e. cc) host_port refl refl,
    unmoved_receives small_stages half_round (halfway_host heap) (halfway_host heap) 2 (Idle (Empty 1 0 0)) (halfway_host_is_whole heap) idle_turn (λ e. cc) host_ring refl refl,
  )

idle_device : IsIdleAt (λ ring. IsBlockedPort (port_in halfway 3)) (port_in halfway 3 ∷ []) (ring_in halfway 2 ∷ [])
idle_device = record {
  owing_ports_are_full = one_of (λ port. has_rest port ≡ true → is_full port ≡ true) (port_in halfway 3) (λ rest. absurd (cc));
  open_rings_are_drained = one_of (λ ring. has_ended ring ≡ false → (is_drained ring ≡ true) ⊎ IsBlockedPort (port_in halfway 3)) (ring_in halfway 2) (λ unended. inl refl);
}

pub idle_devices_are_idle : IsIdleReceiver small_stages half_round 2 × IsIdleSender small_stages half_round 3
idle_devices_are_idle = (
  idle_receiver small_stages half_round 2 3 (ring_in halfway 2) (port_in halfway 3) device_ring device_port (lit< tt) refl refl refl idle_device,
  idle_sender small_stages half_round 2 3 (ring_in halfway 2) (port_in halfway 3) device_ring device_port (lit< tt) refl refl refl (is_fit halfway halfway_is_settled 3 (lit< tt)) refl idle_device,
)
