-- The run of the example's network is over at its end, by the journal that was collected from its device, and stays so where the ends of its rings meet.
use Rattle.std.proofs.Common.{◌≡◌, ◌<◌, lit<, ℕ, zero, suc, true, Global, List, [], refl, subst, arith, Some}
use Rattle.std.specs.Prelude.{◌==◌, IsTrue, filter, slice_get}
use Rattle.std.specs.List.{list_any}
use Rattle.std.proofs.lemmas.List.Elements.{All-nil, All-from_recursion}
use Rattle.sb_link.specs.Ends.{HaveMet}
use Rattle.sb_packet.specs.Journals.{flow_part}
use Rattle.sb_packet.specs.Networks.{NetHost}
use Rattle.sb_flow.specs.Rings.{IsCarried, carried_accesses, is_on_way, ring_ways}
use Rattle.sb_link.specs.Traffic.{item_accesses}
use Rattle.sb_flow.specs.Accepted.{IsAccepted}
use Rattle.sb_flow.proofs.TestedNetworks.{accepted_by_test}
use Rattle.sb_port.specs.Ports.{PortSide}
use Rattle.sb_node.specs.Sides.{RingSide, is_done, received_words}
use Rattle.sb_node.proofs.Answering.{one_of}
use Rattle.sb_laws.proofs.ExampleNetwork.{answering, asking, cpu, small, steps, write}
use Rattle.sb_laws.proofs.ExampleHostLaws.{hosts_find_the_journals_outcomes}
use Rattle.sb_laws.proofs.ExampleRun.{all_items, steps_are_lawful, steps_of_small, the_end}
use Rattle.sb_laws.proofs.ExampleHalfway.{first_step}
use Rattle.sb_laws.proofs.ExampleNodes.{port_in, ring_in}
use Rattle.sb_laws.proofs.ExamplePorts.{end_is_settled, have_met}
use Rattle.sb_member.specs.Ends.{HaveJoined, ports_of, rings_of}
use Rattle.sb_member.specs.Joints.{HasRingMet, MeetAlong, joint_at, node_at, receiver_of}
use Rattle.sb_member.specs.declared.member.Member.{Member}
use Rattle.sb_net.specs.Over.{HasFinalMemory, IsOver, TellsOutcomes}
use Rattle.sb_net.specs.Recorded.{IsRecorded, device_entries}
use Rattle.sb_net.specs.Standing.{device_number}
use Rattle.sb_net.proofs.EndingMeetings.{over_stays}
use Rattle.sb_net.proofs.ExampleNet.{end_is_a_state, end_state, fresh_state, halfway_state, small_joints, small_nodes, small_stands}

pub small_is_accepted : IsAccepted small
small_is_accepted = accepted_by_test small refl

-- What went over each ring is what it is to carry.
carried_there : (r : ℕ) → r < 4 → IsCarried small steps r (item_accesses (all_items r))
carried_there zero lt = record {
  parts = All-from_recursion (λ way. flow_part small way.host way.device (item_accesses asking) ≡ carried_accesses small steps 0 way) (ring_ways small 0) (refl, tt);
  no_others = All-from_recursion (λ a. IsTrue (list_any (is_on_way small a) (ring_ways small 0))) (item_accesses asking) (refl, (refl, (refl, tt)));
}
carried_there (suc zero) lt = record {
  parts = All-from_recursion (λ way. flow_part small way.host way.device (item_accesses answering) ≡ carried_accesses small steps 1 way) (ring_ways small 1) (refl, tt);
  no_others = All-from_recursion (λ a. IsTrue (list_any (is_on_way small a) (ring_ways small 1))) (item_accesses answering) (refl, (refl, tt));
}
carried_there (suc (suc zero)) lt = record {
  parts = All-from_recursion (λ way. flow_part small way.host way.device (item_accesses asking) ≡ carried_accesses small steps 2 way) (ring_ways small 2) (refl, tt);
  no_others = All-from_recursion (λ a. IsTrue (list_any (is_on_way small a) (ring_ways small 2))) (item_accesses asking) (refl, (refl, (refl, tt)));
}
carried_there (suc (suc (suc zero))) lt = record {
  parts = All-from_recursion (λ way. flow_part small way.host way.device (item_accesses answering) ≡ carried_accesses small steps 3 way) (ring_ways small 3) (refl, tt);
  no_others = All-from_recursion (λ a. IsTrue (list_any (is_on_way small a) (ring_ways small 3))) (item_accesses answering) (refl, (refl, tt));
}
carried_there (suc (suc (suc (suc r)))) lt = absurd (omega arith)

module _ (F T U : Type 0) (heap : Global) where
  abbrev pub fresh_nodes : List (Member F T U)
  fresh_nodes = small_nodes F T U (fresh_state heap)

  abbrev pub halfway_nodes : List (Member F T U)
  halfway_nodes = small_nodes F T U (halfway_state heap)

  abbrev pub end_nodes : List (Member F T U)
  end_nodes = small_nodes F T U (end_state heap)

  -- The journal has nothing, the first entry, or all three.
  fresh_entries : (d : ℕ) → d < 1 → filter (λ e. e.device == d) [] ≡ device_entries small fresh_nodes d
  fresh_entries zero lt = refl
  fresh_entries (suc d) lt = absurd (omega arith)

  halfway_entries : (d : ℕ) → d < 1 → filter (λ e. e.device == d) first_step ≡ device_entries small halfway_nodes d
  halfway_entries zero lt = refl
  halfway_entries (suc d) lt = absurd (omega arith)

  end_entries : (d : ℕ) → d < 1 → filter (λ e. e.device == d) steps ≡ device_entries small end_nodes d
  end_entries zero lt = refl
  end_entries (suc d) lt = absurd (omega arith)

  pub fresh_is_recorded : IsRecorded small [] fresh_nodes
  fresh_is_recorded = record { entries = fresh_entries; devices = All-nil (λ e. e.device < 1) }

  pub halfway_is_recorded : IsRecorded small first_step halfway_nodes
  halfway_is_recorded = record { entries = halfway_entries; devices = one_of (λ e. e.device < 1) (record { round = 1; device = 0; packet = write }) (lit< tt) }

  pub end_is_recorded : IsRecorded small steps end_nodes
  end_is_recorded = record { entries = end_entries; devices = steps_of_small.devices }

  done : (k : ℕ) → k < 3 → is_done (ports_of (node_at end_nodes k)) (rings_of (node_at end_nodes k)) ≡ true
  done zero lt = refl
  done (suc zero) lt = refl
  done (suc (suc zero)) lt = refl
  done (suc (suc (suc k))) lt = absurd (omega arith)

  carried : (r : ℕ) → r < 4 → IsCarried small steps r (received_words (receiver_of end_nodes (joint_at small_joints r)))
  carried zero lt = carried_there 0 lt
  carried (suc zero) lt = carried_there 1 lt
  carried (suc (suc zero)) lt = carried_there 2 lt
  carried (suc (suc (suc zero))) lt = carried_there 3 lt
  carried (suc (suc (suc (suc r)))) lt = absurd (omega arith)

  outcomes : (n : ℕ) (host : NetHost) → slice_get small.hosts n ≡ Some host → TellsOutcomes small steps host (node_at end_nodes n)
  outcomes zero host at = let same : cpu ≡ host = cc in subst (λ (h : NetHost). TellsOutcomes small steps h (node_at end_nodes 0)) same (hosts_find_the_journals_outcomes heap)
  outcomes (suc n) host at = absurd (cc)

  memories : (d : ℕ) → d < 1 → HasFinalMemory small steps d (node_at end_nodes (device_number small d))
  memories zero lt = refl
  memories (suc d) lt = absurd (omega arith)

  pub end_is_over : IsOver small steps small_joints end_nodes
  end_is_over = record { lawful = steps_are_lawful; done = done; carried = carried; outcomes = outcomes; memories = memories }

  -- Each ring's ends know all of each other already: where they meet once more nothing changes.
  pub same_joined : (port : PortSide) (ring : RingSide) → port.mark ≡ ring.mark → HaveMet port.state.sent port.taken ring.received ring.known → HaveJoined port port ring ring
  same_joined port ring marks met = record {
    sent = record { plan = refl; state = refl; learnt = omega arith };
    received = record { plan = refl; received = refl; learnt = omega arith };
    marks = marks;
    met = met;
  }

  pub meet_again : (r : ℕ) → r < 4 → HasRingMet (joint_at small_joints r) end_nodes end_nodes
  meet_again zero lt = record { port_then = port_in the_end 0; ring_then = ring_in the_end 0; nodes = refl; joined = same_joined (port_in the_end 0) (ring_in the_end 0) refl (have_met the_end end_is_settled 0) }
  meet_again (suc zero) lt = record { port_then = port_in the_end 1; ring_then = ring_in the_end 1; nodes = refl; joined = same_joined (port_in the_end 1) (ring_in the_end 1) refl (have_met the_end end_is_settled 1) }
  meet_again (suc (suc zero)) lt = record { port_then = port_in the_end 2; ring_then = ring_in the_end 2; nodes = refl; joined = same_joined (port_in the_end 2) (ring_in the_end 2) refl (have_met the_end end_is_settled 2) }
  meet_again (suc (suc (suc zero))) lt = record { port_then = port_in the_end 3; ring_then = ring_in the_end 3; nodes = refl; joined = same_joined (port_in the_end 3) (ring_in the_end 3) refl (have_met the_end end_is_settled 3) }
  meet_again (suc (suc (suc (suc r)))) lt = absurd (omega arith)

  pub all_meet_again : MeetAlong small_joints end_nodes end_nodes
  all_meet_again = (end_nodes, meet_again 0 (lit< tt), (end_nodes, meet_again 1 (lit< tt), (end_nodes, meet_again 2 (lit< tt), (end_nodes, meet_again 3 (lit< tt), refl))))

  pub over_nets_stay_over : IsOver small steps small_joints end_nodes
  over_nets_stay_over = over_stays small steps small_joints end_nodes end_nodes end_is_over (small_stands F T U (end_state heap) (end_is_a_state heap)) all_meet_again
