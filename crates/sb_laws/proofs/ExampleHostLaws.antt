-- The laws of hosts at the example's: it keeps its promise fresh, halfway and at the end, where it is idle and has found what the journal says.
use Rattle.std.proofs.Common.{◌≡◌, ◌≤◌, ◌<◌, lit≤, lit<, ℕ, zero, suc, true, false, Global, List, [], length, refl, sym, subst, arith, inl, inr}
use Rattle.std.specs.Prelude.{◌⊎◌, All, Some}
use Rattle.sb_link.specs.declared.answers.Turn.TheVariants.{Done}
use Rattle.sb_packet.specs.Cuts.{transaction_packets}
use Rattle.sb_packet.specs.Answers.{host_outcomes}
use Rattle.sb_flow.specs.Rings.{ring_budget, ring_plan}
use Rattle.sb_link.specs.Traffic.{IsPlanned, item_accesses}
use Rattle.sb_packet.specs.declared.transaction.Kind.TheVariants.{Write}
use Rattle.sb_packet.specs.declared.transaction.Txn.{Txn}
use Rattle.sb_node.specs.Sides.{has_ended, has_rest, is_drained, is_full}
use Rattle.sb_node.proofs.Answering.{one_of}
use Rattle.sb_host.specs.Asked.{asked_accesses, asked_by}
use Rattle.sb_host.specs.Hosts.{IsHostTurn, IsKeptHost, IsWholeHost}
use Rattle.sb_host.specs.Outcomes.{outcomes_so_far}
use Rattle.sb_host.specs.Rows.{IsTable}
use Rattle.sb_host.specs.Progress.{TransactionsSide}
use Rattle.sb_host.specs.Steps.{IsIdleHost}
use Rattle.sb_host.proofs.Offering.{closes_behind_all, offers_in_order}
use Rattle.sb_host.specs.declared.answer_row.AnswerRow.{AnswerRow}
use Rattle.sb_laws.specs.Flows.{aimed_script}
use Rattle.sb_laws.specs.NodeSides.{IsHostAt, IsHostBuiltFor, IsHostOf}
use Rattle.sb_laws.specs.Moments.{Moment}
use Rattle.sb_laws.specs.NetworkLayouts.{network_flows, network_layout, request_ring}
use Rattle.sb_laws.specs.Runs.{IsHost}
use Rattle.sb_laws.specs.Standstills.{IsIdleReceiver, IsIdleSender}
use Rattle.sb_laws.proofs.HostOutcomes.{outcomes_found}
use Rattle.sb_laws.proofs.HostPackets.{packets_planned}
use Rattle.sb_laws.proofs.HostRooms.{room_for_all}
use Rattle.sb_laws.proofs.HostSides.{asked_script, host_promise, idle_host_receives, idle_host_sends, stays_built, table_of_ring, unmoved_receives, unmoved_sends}
use Rattle.sb_laws.proofs.HostsInNetworks.{all_promises, belongs, first, link}
use Rattle.sb_laws.proofs.ExampleNetwork.{small, cpu, steps, asking, answering, one_to_eight}
use Rattle.sb_laws.proofs.ExampleLayout.{small_layout, small_is_laid_out, scripts_of_small}
use Rattle.sb_laws.proofs.ExampleRouted.{small_is_routed}
use Rattle.sb_laws.proofs.ExampleRun.{the_end, end_of_small, small_has_ended}
use Rattle.sb_laws.proofs.ExampleHalfway.{halfway}
use Rattle.sb_laws.proofs.ExampleStandstill.{last_round, small_stages}
use Rattle.sb_laws.proofs.ExampleNodes.{fresh, port_in, ring_in}
use Rattle.sb_laws.proofs.ExamplePorts.{IsSettled, end_is_settled, fresh_is_settled, halfway_is_settled, has_port, has_ring, is_fit}
use Rattle.sb_laws.proofs.ExampleSides.{at_rest, shows_port, shows_ring}
use Rattle.sb_laws.proofs.ExampleHost.{end_host, end_host_is_whole, end_rows, fresh_host, fresh_host_is_whole, fresh_rows, halfway_host, halfway_host_is_whole, host_in, host_is_built, host_of_small}

pub hosts_keep_their_promise_script : asked_accesses (asked_by small cpu) ≡ aimed_script small 0
hosts_keep_their_promise_script = asked_script small cpu scripts_of_small small_is_routed.pages (0, lit< tt, refl)

-- the host in that state, at a moment at which its port and ring are as they stand there
module _ (m : Moment) (settled : IsSettled m) (rows : List AnswerRow) (next : ℕ) (whole : IsWholeHost (host_in m rows next)) where
  promise_at : All (λ f. f.host ≡ 0 → IsHost small small_layout m f) small_layout.requests.flows
  promise_at = host_promise offers_in_order closes_behind_all small small_layout m cpu (host_in m rows next) scripts_of_small small_is_routed.pages (host_of_small m rows next) whole (has_port m settled 0)

  stands_at : IsHostAt small m 0 (host_in m rows next)
  stands_at = record { built = host_is_built m rows next; whole = whole; has = has_port m settled 0 }

  all_stand : (n : ℕ) → n < 1 → IsHostAt small m n (host_in m rows next)
  all_stand zero inside = stands_at
  all_stand (suc n) inside = absurd (omega arith)

  promises_at : All (IsHost small (network_layout small) m) (network_flows small)
  promises_at = all_promises small small_is_routed offers_in_order closes_behind_all m (λ n. host_in m rows next) all_stand

-- In the last round it does nothing: it has told its port to close, and its ring has ended.
idle : (t : TransactionsSide) → IsIdleHost t (port_in the_end 0) (ring_in the_end 1)
idle t = record {
  at_rest = record {
    owing_ports_are_full = one_of (λ port. has_rest port ≡ true → is_full port ≡ true) (port_in the_end 0) (at_rest 0 (lit< tt));
    open_rings_are_drained = one_of (λ ring. has_ended ring ≡ false → (is_drained ring ≡ true) ⊎ ⊥) (ring_in the_end 1) (λ unended. absurd (cc));
  };
  open_host_is_blocked = λ untold. absurd (cc);
}

pub idle_hosts_are_idle : IsIdleSender small_stages last_round 0 × IsIdleReceiver small_stages last_round 1
idle_hosts_are_idle = (
  idle_host_sends small_stages last_round 0 (host_in the_end [] 3).transactions (port_in the_end 0) (ring_in the_end 1) (shows_port 0 (lit< tt)) refl refl
      (is_fit the_end end_is_settled 0 (lit< tt)) (idle (host_in the_end [] 3).transactions),
  idle_host_receives small_stages last_round 1 (host_in the_end [] 3).transactions (port_in the_end 0) (ring_in the_end 1) (shows_ring 1 (lit< tt)) refl refl
      (idle (host_in the_end [] 3).transactions),
)

module _ (heap : Global) where
  pub hosts_keep_their_promise : All (λ f. f.host ≡ 0 → IsHost small small_layout fresh f) small_layout.requests.flows
      × All (λ f. f.host ≡ 0 → IsHost small small_layout halfway f) small_layout.requests.flows
      × All (λ f. f.host ≡ 0 → IsHost small small_layout the_end f) small_layout.requests.flows
  hosts_keep_their_promise = (
    promise_at fresh fresh_is_settled (fresh_rows heap) 0 (fresh_host_is_whole heap),
    promise_at halfway halfway_is_settled (fresh_rows heap) 3 (halfway_host_is_whole heap),
    promise_at the_end end_is_settled (end_rows heap) 3 (end_host_is_whole heap),
  )

  pub hosts_keep_promises_for_all_flows : All (IsHost small (network_layout small) fresh) (network_flows small)
      × All (IsHost small (network_layout small) halfway) (network_flows small)
      × All (IsHost small (network_layout small) the_end) (network_flows small)
  hosts_keep_promises_for_all_flows = (
    promises_at fresh fresh_is_settled (fresh_rows heap) 0 (fresh_host_is_whole heap),
    promises_at halfway halfway_is_settled (fresh_rows heap) 3 (halfway_host_is_whole heap),
    promises_at the_end end_is_settled (end_rows heap) 3 (end_host_is_whole heap),
  )

  -- a turn in which it is done
  pub done_turn : IsHostTurn (end_host heap) 4 Done (end_host heap)
  done_turn = record {
    answered = (refl, refl);
    idle = λ still. idle (end_host heap).transactions;
    few = lit≤ tt;
    port_served = record { few = lit≤ tt; served = inr (inl refl) };
    ring_served = inr refl;
    next_offered = inl (λ free m rest left. absurd (cc));
    aimed = λ d inside. absurd (omega arith);
    closes_when_due = λ all. refl;
  }

  pub unmoved_hosts_are_idle : IsIdleSender small_stages last_round 0 × IsIdleReceiver small_stages last_round 1
  unmoved_hosts_are_idle = (
    unmoved_sends small_stages last_round (end_host heap) (end_host heap) 4 Done (end_host_is_whole heap) done_turn (λ e. cc) (shows_port 0 (lit< tt)) refl refl,
    unmoved_receives small_stages last_round (end_host heap) (end_host heap) 4 Done (end_host_is_whole heap) done_turn (λ e. cc) (shows_ring 1 (lit< tt)) refl refl,
  )

  pub hosts_find_the_journals_outcomes : outcomes_so_far (asked_by small cpu) (item_accesses answering) 3 ≡ host_outcomes small steps cpu
  hosts_find_the_journals_outcomes = outcomes_found small small_layout steps the_end cpu (end_host heap) small_is_laid_out small_is_routed.pages end_of_small small_has_ended
      (host_of_small the_end (end_rows heap) 3) (end_host_is_whole heap) refl (has_ring the_end end_is_settled 1)

  pub hosts_keep_tables : IsTable (asked_by small cpu) [] (fresh_rows heap) × IsTable (asked_by small cpu) (item_accesses answering) (end_rows heap)
  hosts_keep_tables = (
    table_of_ring halfway (halfway_host heap) (halfway_host_is_whole heap) (has_ring halfway halfway_is_settled 1),
    table_of_ring the_end (end_host heap) (end_host_is_whole heap) (has_ring the_end end_is_settled 1),
  )

  -- from its first turn to its last nothing was taken back
  kept_to_the_end : IsKeptHost 4 (fresh_host heap) (end_host heap)
  kept_to_the_end = record {
    asked = refl;
    onward = lit≤ tt;
    requests = record {
      plan = refl;
      mark = refl;
      offered_more = record { rest = item_accesses asking; joined = refl };
      let_more_go = record { rest = _; joined = refl };
      sent_more = record { rest = asking; joined = refl };
      learnt = lit≤ tt;
      still_told = λ told. refl;
    };
    answers = record { plan = refl; mark = refl; received_more = record { rest = answering; joined = refl }; learnt = lit≤ tt };
  }

  pub built_hosts_belong_to_their_networks : IsHostBuiltFor small 0 (end_host heap) × IsHostOf small (network_layout small) cpu (end_host heap)
  built_hosts_belong_to_their_networks = (
    stays_built small 0 4 (fresh_host heap) (end_host heap) kept_to_the_end (host_is_built fresh (fresh_rows heap) 0),
    belongs small small_is_routed 0 cpu refl (end_host heap) (host_is_built the_end (end_rows heap) 3),
  )

pub host_rings_have_room : length (asked_accesses (asked_by small cpu)) ≤ ring_budget small (request_ring 0)
host_rings_have_room =
    let same : link small small_is_routed 0 cpu refl ≡ 0 = let some : Some (link small small_is_routed 0 cpu refl) ≡ Some 0 = sym (first small small_is_routed 0 cpu refl) in cc in
    subst (λ (j : ℕ). length (asked_accesses (asked_by small cpu)) ≤ ring_budget small (request_ring j)) same (room_for_all small small_is_routed 0 cpu refl)

-- its first transaction
abbrev first_txn : Txn
first_txn = record { kind = Write; size = 3; addr = 65536; count = 1; body = one_to_eight }

pub rings_are_made_for_packets : All (IsPlanned (ring_plan small 0)) (transaction_packets cpu 0 first_txn)
rings_are_made_for_packets = packets_planned small small_is_routed cpu 0 first_txn (scripts_of_small.transactions 0 cpu (lit< tt) 0 first_txn (lit< tt)) 0 refl 0 refl refl
