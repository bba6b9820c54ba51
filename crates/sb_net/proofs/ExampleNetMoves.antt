-- The last round of the example's nodes in which one moved: the host takes the Close of its answers. Then the ends of the rings meet, and the nodes are at their end.
use Rattle.std.proofs.Common.{◌≡◌, ◌<◌, lit≤, lit<, ℕ, zero, suc, true, Global, List, [], ◌∷◌, refl, arith, inl, inr, Some, None}
use Rattle.std.specs.Prelude.{◌==◌, All, filter, slice_index_or}
use Rattle.std.proofs.lemmas.List.Elements.{All-from_recursion}
use Rattle.sb_link.specs.declared.answers.Turn.{Turn}
use Rattle.sb_link.specs.declared.answers.Turn.TheVariants.{Done, Moved}
use Rattle.sb_link.specs.Traffic.{item_accesses}
use Rattle.sb_link.specs.Prefixes.{IsPrefix}
use Rattle.sb_packet.specs.declared.item.Item.{Item}
use Rattle.sb_packet.specs.declared.item.Item.TheVariants as items
use Rattle.sb_packet.specs.declared.packet.Packet.{Packet}
use Rattle.sb_node.specs.Kept.{kept_port_same}
use Rattle.sb_node.specs.Sides.{has_rest, is_full}
use Rattle.sb_host.specs.Hosts.{IsHostTurn, IsKeptHost, IsWholeHost}
use Rattle.sb_router.specs.Lanes.{inlet_at}
use Rattle.sb_router.specs.Ways.{route_of}
use Rattle.sb_router.specs.Routers.{ClosesWhenDue, IsRouterTurn}
use Rattle.sb_router.specs.Turning.{IsIdleLane, IsSeen, ServesPorts}
use Rattle.sb_node.proofs.Answering.{one_of}
use Rattle.sb_laws.specs.Moments.{Moment}
use Rattle.sb_laws.proofs.Prefixes.{front_prefix, same_prefix}
use Rattle.sb_laws.proofs.ExampleNetwork.{read_back, small, steps, written}
use Rattle.sb_laws.proofs.ExampleRun.{all_items, steps_of_small, the_end}
use Rattle.sb_laws.proofs.ExampleNodes.{device_in, port_in, ring_in}
use Rattle.sb_laws.proofs.ExamplePorts.{IsSettled, end_is_settled, have_met, is_fit}
use Rattle.sb_laws.proofs.ExampleHost.{end_host, end_host_is_whole, end_rows, host_in}
use Rattle.sb_laws.proofs.ExampleDevice.{end_has_served}
use Rattle.sb_laws.proofs.ExampleWholeDevice.{end_device_is_whole}
use Rattle.sb_laws.proofs.ExampleRouter.{HasPassed, direction_in, direction_is_whole, inlet_in, small_rows}
use Rattle.sb_laws.proofs.ExampleRouterTurns as routers
use Rattle.sb_member.specs.Joints.{HasRingMet, MeetAlong, joint_at}
use Rattle.sb_member.specs.Members.{IsKeptMember, IsMemberTurn, IsWholeMember, kept_member_same}
use Rattle.sb_member.specs.declared.member.Member.{Member}
use Rattle.sb_member.specs.declared.member.Member.TheVariants.{Host, Router, Device}
use Rattle.sb_net.specs.Running.{IsNetRound}
use Rattle.sb_net.specs.Recorded.{IsRecorded, device_entries}
use Rattle.sb_net.proofs.ExampleNet.{HasFew, IsSmallState, SmallState, small_joints, small_nodes, small_router, words_back, words_there}
use Rattle.sb_net.proofs.ExampleNetOver.{end_nodes, meet_again, same_joined}
use Rattle.sb_net.proofs.ExampleNetRound.{device_turn}

-- all was received but the Close of ring 1, which leads to the host
abbrev late_items : ℕ → List Item
late_items zero = all_items 0
late_items (suc zero) = items.Packet written ∷ items.Packet read_back ∷ []
late_items (suc (suc r)) = all_items (suc (suc r))

abbrev pub late : Moment
late = record { sent = all_items; received = late_items; offered = λ r. item_accesses (all_items r); held = λ r. [] }

late_order : (r : ℕ) → IsPrefix (late_items r) (all_items r)
late_order zero = same_prefix refl
late_order (suc zero) = front_prefix (items.Close ∷ []) refl
late_order (suc (suc r)) = same_prefix refl

pub late_is_settled : IsSettled late
late_is_settled = record { offered = λ r. refl; in_order = late_order; sound = end_is_settled.sound; turn = end_is_settled.turn }

late_requests : HasPassed late 0 2 None
late_requests = record { came_in = lit< tt; goes_on = lit< tt; keeps = refl; last = λ p e. absurd (cc); carriable = λ p e. absurd (cc); closed = λ e. record { ended = refl; free = refl }; all = refl }

late_answers : HasPassed late 3 1 None
late_answers = record { came_in = lit< tt; goes_on = lit< tt; keeps = refl; last = λ p e. absurd (cc); carriable = λ p e. absurd (cc); closed = λ e. record { ended = refl; free = refl }; all = refl }

late_few : HasFew words_there (direction_in late 0 2 None)
late_few zero = lit≤ tt
late_few (suc o) = lit≤ tt

late_few_back : HasFew words_back (direction_in late 3 1 None)
late_few_back zero = lit≤ tt
late_few_back (suc o) = lit≤ tt

module _ (heap : Global) where
  abbrev pub late_state : SmallState
  late_state = record { now = late; rows = end_rows heap; next = 3; holds = None; entries = steps; spare = 0 }

  late_host_is_whole : IsWholeHost (host_in late (end_rows heap) 3)
  late_host_is_whole = let order = (end_host_is_whole heap).in_order in record {
    fit = is_fit late late_is_settled 0 (lit< tt);
    in_order = record { issuable = order.issuable; made = order.made; come = order.come; offered = refl; closes = λ told. refl; table = order.table; ends = refl; window = order.window };
  }

  pub late_is_a_state : IsSmallState late_state
  late_is_a_state = record {
    settled = late_is_settled;
    host = late_host_is_whole;
    passed = late_requests;
    passed_back = late_answers;
    few = late_few;
    few_back = late_few_back;
    device = end_device_is_whole;
    served = end_has_served;
  }

  -- the host's turn
  host_kept : IsKeptHost 4 (host_in late (end_rows heap) 3) (end_host heap)
  host_kept = record {
    asked = refl;
    onward = lit≤ tt;
    requests = kept_port_same (port_in the_end 0);
    answers = record { plan = refl; mark = refl; received_more = late_order 1; learnt = lit≤ tt };
  }

  host_turn : IsHostTurn (host_in late (end_rows heap) 3) 4 Moved (end_host heap)
  host_turn = record {
    answered = lit< tt;
    idle = λ still. absurd (still refl);
    few = lit≤ tt;
    port_served = record { few = lit≤ tt; served = inr (inl refl) };
    ring_served = inr refl;
    next_offered = inl (λ free m rest left. absurd (cc));
    aimed = λ d inside. absurd (omega arith);
    closes_when_due = λ all. refl;
  }

  -- the router is done, though its port doesn't know yet that all was taken
  none_held : (i : ℕ) (p : Packet) → (inlet_at (direction_in late 3 1 None).lane i).held ≡ Some p → ⊥
  none_held zero p e = cc
  none_held (suc i) p e = cc

  answers_idle : IsIdleLane (route_of small_rows) (direction_in late 3 1 None).lane
  answers_idle = record {
    held_awaits_full = λ i p inside e. absurd (none_held i p e);
    owing_are_full = one_of (λ port. has_rest port ≡ true → is_full port ≡ true) (port_in late 1) (λ rest. absurd (cc));
    open_are_seen = one_of IsSeen (inlet_in late 3 None) (inl refl);
  }

  answers_close : ClosesWhenDue (direction_in late 3 1 None)
  answers_close silent zero inside = refl
  answers_close silent (suc o) inside = absurd (omega arith)

  answers_sent : ServesPorts (direction_in late 3 1 None).lane (direction_in late 3 1 None).lane
  answers_sent zero inside = record { few = lit≤ tt; served = inr (inl refl) }
  answers_sent (suc o) inside = absurd (omega arith)

  router_turn : IsRouterTurn (small_router late_state) Done (small_router late_state)
  router_turn = let there = routers.done_turn in record {
    answered = (refl, refl);
    idle_requests = there.idle_requests;
    idle_answers = λ still. answers_idle;
    closed_requests = there.closed_requests;
    closed_answers = answers_close;
    few_requests = there.few_requests;
    few_answers = λ i. omega arith;
    served_requests = there.served_requests;
    served_answers = there.served_answers;
    held_requests = there.held_requests;
    held_answers = λ i p inside e. absurd (none_held i p e);
    sent_requests = there.sent_requests;
    sent_answers = answers_sent;
  }

abbrev pub host_moved : List Turn
host_moved = Moved ∷ Done ∷ Done ∷ []

module _ (F T U : Type 0) (heap : Global) where
  abbrev pub late_nodes : List (Member F T U)
  late_nodes = small_nodes F T U (late_state heap)

  abbrev pub turned_nodes : List (Member F T U)
  turned_nodes = Host (end_host heap) ∷ Router (small_router (late_state heap)) ∷ Device (device_in the_end steps 0) ∷ []

  -- all has been recorded before the round, and all nodes are whole after it
  late_entries : (d : ℕ) → d < 1 → filter (λ e. e.device == d) steps ≡ device_entries small late_nodes d
  late_entries zero lt = refl
  late_entries (suc d) lt = absurd (omega arith)

  pub late_is_recorded : IsRecorded small steps late_nodes
  late_is_recorded = record { entries = late_entries; devices = steps_of_small.devices }

  pub turned_are_whole : All IsWholeMember turned_nodes
  turned_are_whole = All-from_recursion IsWholeMember turned_nodes (
    end_host_is_whole heap,
    (
      record {
        requests = direction_is_whole late late_is_settled 0 2 None late_requests;
        answers = direction_is_whole late late_is_settled 3 1 None late_answers;
      },
      (end_device_is_whole, tt),
    ),
  )

  kept : (k : ℕ) (none : Member F T U) → k < 3 → IsKeptMember 4 (slice_index_or late_nodes k none) (slice_index_or turned_nodes k none)
  kept zero none lt = host_kept heap
  kept (suc zero) none lt = kept_member_same {F = F} {T = T} {U = U} 4 (Router (small_router (late_state heap)))
  kept (suc (suc zero)) none lt = kept_member_same {F = F} {T = T} {U = U} 4 (Device (device_in the_end steps 0))
  kept (suc (suc (suc k))) none lt = absurd (omega arith)

  turns : (k : ℕ) (none : Member F T U) → k < 3 → IsMemberTurn 4 (slice_index_or late_nodes k none) (slice_index_or host_moved k Done) (slice_index_or turned_nodes k none)
  turns zero none lt = host_turn heap
  turns (suc zero) none lt = router_turn heap
  turns (suc (suc zero)) none lt = device_turn
  turns (suc (suc (suc k))) none lt = absurd (omega arith)

  -- the round in which the host moves
  pub moving_net_round : IsNetRound 4 late_nodes turned_nodes host_moved true
  moving_net_round = record {
    same = refl;
    reached = kept;
    last_turns = λ k none lt. record { start = slice_index_or late_nodes k none; to_turn = kept_member_same 4 (slice_index_or late_nodes k none); turn = turns k none lt };
    some_moved = λ e. (
      0,
      lit< tt,
      λ none. record {
        start = slice_index_or late_nodes 0 none;
        end = slice_index_or turned_nodes 0 none;
        to_turn = kept_member_same 4 (slice_index_or late_nodes 0 none);
        turn = turns 0 none (lit< tt);
        from_turn = kept_member_same 4 (slice_index_or turned_nodes 0 none);
      },
    );
    rested_turns = λ e. absurd (cc);
    rested = λ e. absurd (cc);
    none_moved = λ e. absurd (cc);
  }

  -- Then the ends meet: the router learns that the host took the Close.
  pub ends_meet : MeetAlong small_joints turned_nodes (end_nodes F T U heap)
  ends_meet = (turned_nodes, host_met, (end_nodes F T U heap, router_learns, (end_nodes F T U heap, meet_again F T U heap 2 (lit< tt), (end_nodes F T U heap, meet_again F T U heap 3 (lit< tt), refl))))
    where
      host_met : HasRingMet (joint_at small_joints 0) turned_nodes turned_nodes
      host_met = record { port_then = port_in the_end 0; ring_then = ring_in the_end 0; nodes = refl; joined = same_joined F T U heap (port_in the_end 0) (ring_in the_end 0) refl (have_met the_end end_is_settled 0) }

      router_learns : HasRingMet (joint_at small_joints 1) turned_nodes (end_nodes F T U heap)
      router_learns = record {
        port_then = port_in the_end 1;
        ring_then = ring_in the_end 1;
        nodes = refl;
        joined = record {
          sent = record { plan = refl; state = refl; learnt = lit≤ tt };
          received = record { plan = refl; received = refl; learnt = lit≤ tt };
          marks = refl;
          met = have_met the_end end_is_settled 1;
        };
      }
