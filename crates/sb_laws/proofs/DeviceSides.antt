-- Devices as they stand in a network keep the promises of whole runs.
use Rattle.std.proofs.Common.{◌≡◌, ◌<◌, ℕ, true, false, List, [], ◌∷◌, length, sym, ap, ◌∙◌, arith, subst, inl, inr}
use Rattle.std.specs.Prelude.{◌⊎◌, Some, None}
use Rattle.std.proofs.lemmas.List.Elements.{All-head}
use Rattle.sb_packet.specs.Memories.{answers_to}
use Rattle.sb_device.specs.Sides.{DeviceSide}
use Rattle.sb_device.specs.Served.{AreSound, HasServed, entry_accesses, entry_packets, item_packets}
use Rattle.sb_node.specs.Idle.{IsIdleAt}
use Rattle.sb_node.specs.Steps.{IsBlockedPort}
use Rattle.sb_node.specs.Sides.{RingSide, has_rest, is_full, has_ended, is_drained}
use Rattle.sb_packet.specs.Journals.{journal_accesses}
use Rattle.sb_packet.specs.Networks.{Network, opening_memory}
use Rattle.sb_link.specs.RingPlans.{NetFlow}
use Rattle.sb_link.specs.Traffic.{has_close, item_accesses}
use Rattle.sb_packet.specs.declared.entry.Entry.{Entry}
use Rattle.sb_port.specs.Ports.{IsFit, PortSide}
use Rattle.sb_device.proofs.Orders.{words_that_came}
use Rattle.sb_laws.specs.Flows.{budget_over, device_answers}
use Rattle.sb_laws.specs.Layouts.{Layout}
use Rattle.sb_laws.specs.Moments.{Moment, arrived}
use Rattle.sb_laws.specs.NodeSides.{HasPort, HasRing, ShowsPort, ShowsRing}
use Rattle.sb_laws.specs.Runs.{IsDevice}
use Rattle.sb_laws.specs.Standstills.{IsIdleReceiver, IsIdleSender, IsReceiverBlocked, RoundEnd, Stages}
use Rattle.sb_laws.proofs.SidePromises.{idle_port}

pub device_promise : (network : Network) (layout : Layout) (journal : List Entry) (m : Moment) (f : NetFlow) (device : DeviceSide) →
    HasRing m (layout.into f.device) device.requests → HasPort m (layout.answers.first f) device.answers → device.answers.plan.budget ≡ budget_over layout.answers (layout.answers.first f) →
    journal_accesses journal f.device ≡ entry_accesses device.journal.entries → HasServed (opening_memory network f.device) device → IsDevice network layout journal m f
device_promise network layout journal m f device got has budget same served = record {
  whole = λ sound few.
      let given : device_answers network journal f.device ≡ answers_to (opening_memory network f.device) (entry_accesses device.journal.entries) = ap (answers_to (opening_memory network f.device)) same in
      has.offered ∙ served.answered_all (subst AreSound got.received sound) (let long = ap length given in omega arith) ∙ sym given;
}

pub device_records : (layout : Layout) (journal entries : List Entry) (m : Moment) (d : ℕ) (ring : RingSide) → HasRing m (layout.into d) ring →
    journal_accesses journal d ≡ entry_accesses entries → entry_packets entries ≡ item_packets ring.received → journal_accesses journal d ≡ arrived m (layout.into d)
device_records layout journal entries m d ring got same packets =
    same ∙ words_that_came entries ring.received packets ∙ ap item_accesses (sym got.received)

pub idle_receiver : (stages : Stages) (s : RoundEnd) (into back : ℕ) (ring : RingSide) (port : PortSide) → ShowsRing s into ring → ShowsPort s back port →
    back < stages.rings → stages.from back ≡ stages.to into → s.holds into ≡ None → s.at.held into ≡ [] → IsIdleAt (λ ring. IsBlockedPort port) (port ∷ []) (ring ∷ []) → IsIdleReceiver stages s into
idle_receiver stages s into back ring port got shows there stage holds none idle = record {
  held = λ p e. absurd (let never : None ≡ Some p = sym holds ∙ e in cc);
  none_held = λ e. none;
  drained = λ unended. by_cause (All-head (λ r. has_ended r ≡ false → (is_drained r ≡ true) ⊎ IsBlockedPort port) ring [] idle.open_rings_are_drained (ap has_close (sym got.lists.received) ∙ unended));
}
  where
    by_cause : (is_drained ring ≡ true) ⊎ IsBlockedPort port → (s.empty into ≡ true) ⊎ (((p : ℕ) × (s.holds into ≡ Some p)) ⊎ IsReceiverBlocked stages s into)
    by_cause (inl empty) = inl (got.empty ∙ empty)
    by_cause (inr blocked) = inr (inr (record { by = back; is_ring = there; here = stage; full = shows.full ∙ blocked.full }))

pub idle_sender : (stages : Stages) (s : RoundEnd) (into back : ℕ) (ring : RingSide) (port : PortSide) → ShowsRing s into ring → ShowsPort s back port →
    into < stages.rings → stages.goes_out into ≡ false → stages.from back ≡ stages.to into → stages.leaves_host back ≡ false → IsFit port.plan port.state → port.state.close_requested ≡ has_ended ring →
    IsIdleAt (λ ring. IsBlockedPort port) (port ∷ []) (ring ∷ []) → IsIdleSender stages s back
idle_sender stages s into back ring port got shows there inside stage no_host fit closes idle = record {
  port = idle_port s back port fit shows (All-head (λ p. has_rest p ≡ true → is_full p ≡ true) port [] idle.owing_ports_are_full);
  host = λ yes. absurd (let never : true ≡ false = sym yes ∙ no_host in cc);
  node = λ no all. shows.told ∙ closes ∙ ap has_close (sym got.lists.received) ∙ (all into there inside (sym stage)).0;
}
