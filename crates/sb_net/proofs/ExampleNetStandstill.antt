-- The example's nodes at their end, as laws of whole runs see them: a moment of a run, and a standstill of a whole network. So their run is over.
use Rattle.std.proofs.Common.{◌≡◌, ap, ◌<◌, lit≤, ℕ, zero, suc, Bool, true, false, Global, [], refl, sym, ◌∙◌, subst, arith, inl, None}
use Rattle.std.specs.Prelude.{◌&&◌, nat_lt, not, if◌then◌else◌}
use Rattle.std.proofs.lemmas.Bool.{and_parts}
use Rattle.std.proofs.lemmas.Bool.Decides.{nat_tests}
use Rattle.std.proofs.lemmas.List.Elements.{All-from_recursion, All-nil}
use Rattle.sb_packet.specs.Journals.{journal_accesses}
use Rattle.sb_flow.specs.Rings.{is_upward}
use Rattle.sb_packet.specs.Cuts.{IsSound}
use Rattle.sb_link.specs.Traffic.{has_close, item_accesses}
use Rattle.sb_link.specs.Prefixes.{IsPrefix}
use Rattle.sb_port.specs.Ports.{PortSide, offered_words}
use Rattle.sb_device.specs.Served.{AreSound}
use Rattle.sb_router.specs.Lanes.{no_port, no_ring}
use Rattle.sb_node.specs.Sides.{RingSide}
use Rattle.sb_node.proofs.Subsequences.{same_subsequence}
use Rattle.sb_node.proofs.Answering.{one_of}
use Rattle.sb_laws.specs.Flows.{AlongWay, CarriesItsFlows, is_of_ring}
use Rattle.sb_laws.specs.Standstills.{IsIdleReceiver, IsIdleSender, IsTrueRing, IsWholeStandstill, RoundEnd, is_closed}
use Rattle.sb_laws.specs.Moments.{ClosesLast, Moment, arrived}
use Rattle.sb_laws.specs.NetworkLayouts.{network_answers, network_layout, network_requests, network_stages}
use Rattle.sb_laws.specs.Runs.{ForwardsFlow, IsDevice, IsHost, IsLink, IsMomentOf, IsPort}
use Rattle.sb_laws.proofs.ClosedLists.{closes_last}
use Rattle.sb_laws.proofs.Prefixes.{same_prefix}
use Rattle.sb_laws.proofs.RisingStages.{stages_rise, ways_within}
use Rattle.sb_laws.proofs.WaysOfRouted.{ways_of_routed}
use Rattle.sb_laws.proofs.ExampleLayout.{the_flow}
use Rattle.sb_laws.proofs.ExampleNetwork.{answering, asking, small, steps}
use Rattle.sb_laws.proofs.ExampleRouted.{small_is_routed}
use Rattle.sb_laws.proofs.ExampleRun.{end_of_small, steps_of_small}
use Rattle.sb_member.specs.Joints.{joint_at, receiver_of, sender_of}
use Rattle.sb_net.specs.Over.{IsOver}
use Rattle.sb_net.specs.RingEnds.{net_moment, net_round_end, port_here, ring_here}
use Rattle.sb_net.proofs.EndingNodes.{ended_is_over}
use Rattle.sb_net.proofs.ExampleNet.{end_is_a_state, end_state, small_joints, small_stands}
use Rattle.sb_net.proofs.ExampleNetOver.{end_is_recorded, end_nodes, small_is_accepted}

-- there are four rings
no_fifth : (a : Bool) (r : ℕ) → (a && nat_lt (suc (suc (suc (suc r)))) 4) ≡ true → ⊥
no_fifth a r e = let test : nat_lt (suc (suc (suc (suc r)))) 4 ≡ true = (and_parts a (nat_lt (suc (suc (suc (suc r)))) 4) e).1 in
    let inside : suc (suc (suc (suc r))) < 4 = grind (arith, nat_tests) in omega arith

fifth : (r : ℕ) → nat_lt (suc (suc (suc (suc r)))) 4 ≡ false
fifth r = grind (arith, nat_tests)

-- A ring in front of which nothing is kept, and which has closed: who sends over it is idle, and who receives by it where it was empty.
module _ (e : RoundEnd) (r : ℕ) where
  still_sender : e.full r ≡ false → e.owes r ≡ false → e.merges r ≡ false → item_accesses (e.at.sent r) ≡ e.at.offered r → is_closed e r ≡ true → e.told r ≡ true → IsIdleSender (network_stages small) e r
  still_sender room paid empty sent closed told = record {
    port = record {
      owes = λ owing. absurd (let never : true ≡ false = sym owing ∙ paid in cc);
      merges = λ merging. absurd (let never : true ≡ false = sym merging ∙ empty in cc);
      settled = λ x y. sent;
      closed = λ x y z. closed;
    };
    host = λ leaves untold. absurd (let never : true ≡ false = sym told ∙ untold in cc);
    node = λ no_host all. told;
  }

  still_receiver : e.holds r ≡ None → e.at.held r ≡ [] → e.empty r ≡ true → IsIdleReceiver (network_stages small) e r
  still_receiver none held empty = record {
    held = λ p holding. absurd (let never = sym none ∙ holding in cc);
    none_held = λ x. held;
    drained = λ unended. inl empty;
  }

module _ (F T U : Type 0) (heap : Global) where
  abbrev m : Moment
  m = net_moment small_joints (end_nodes F T U heap)

  abbrev last : RoundEnd
  last = net_round_end small_joints (end_nodes F T U heap)

  -- behind the four rings there is nothing
  abbrev behind : ℕ → ℕ
  behind r = suc (suc (suc (suc r)))

  no_port_there : (r : ℕ) → port_here small_joints (end_nodes F T U heap) (behind r) ≡ no_port
  no_port_there r = ap (λ b. if b then sender_of (end_nodes F T U heap) (joint_at small_joints (behind r)) else no_port) (fifth r)

  no_ring_there : (r : ℕ) → ring_here small_joints (end_nodes F T U heap) (behind r) ≡ no_ring
  no_ring_there r = ap (λ b. if b then receiver_of (end_nodes F T U heap) (joint_at small_joints (behind r)) else no_ring) (fifth r)

  links : (r : ℕ) → IsLink m r
  links zero = record { in_order = same_prefix refl; closes_last = closes_last asking refl }
  links (suc zero) = record { in_order = same_prefix refl; closes_last = closes_last answering refl }
  links (suc (suc zero)) = record { in_order = same_prefix refl; closes_last = closes_last asking refl }
  links (suc (suc (suc zero))) = record { in_order = same_prefix refl; closes_last = closes_last answering refl }
  links (suc (suc (suc (suc r)))) = record {
    in_order = subst (λ (p : PortSide). IsPrefix (ring_here small_joints (end_nodes F T U heap) (behind r)).received p.state.sent) (sym (no_port_there r))
        (subst (λ (x : RingSide). IsPrefix x.received []) (sym (no_ring_there r)) (same_prefix refl));
    closes_last = subst (λ (p : PortSide). ClosesLast p.state.sent) (sym (no_port_there r)) (closes_last [] tt);
  }

  ports : (r : ℕ) → IsPort m r
  ports zero = record { in_order = same_prefix refl; sound = (end_of_small.ports 0).sound; closed = λ e. refl }
  ports (suc zero) = record { in_order = same_prefix refl; sound = (end_of_small.ports 1).sound; closed = λ e. refl }
  ports (suc (suc zero)) = record { in_order = same_prefix refl; sound = (end_of_small.ports 2).sound; closed = λ e. refl }
  ports (suc (suc (suc zero))) = record { in_order = same_prefix refl; sound = (end_of_small.ports 3).sound; closed = λ e. refl }
  ports (suc (suc (suc (suc r)))) = record {
    in_order = subst (λ (p : PortSide). IsPrefix (item_accesses p.state.sent) (offered_words p)) (sym (no_port_there r)) (same_prefix refl);
    sound = subst (λ (p : PortSide). AreSound p.state.sent) (sym (no_port_there r)) (All-nil IsSound);
    closed = subst (λ (p : PortSide). has_close p.state.sent ≡ true → item_accesses p.state.sent ≡ offered_words p) (sym (no_port_there r)) (λ e. refl);
  }

  carried : (r : ℕ) → (network_requests small).has r ≡ true → CarriesItsFlows small (network_requests small) m r
  carried zero e = All-from_recursion (λ a. is_of_ring small (network_requests small) 0 a ≡ true) (item_accesses asking) (refl, (refl, (refl, tt)))
  carried (suc zero) e = absurd (cc)
  carried (suc (suc zero)) e = All-from_recursion (λ a. is_of_ring small (network_requests small) 2 a ≡ true) (item_accesses asking) (refl, (refl, (refl, tt)))
  carried (suc (suc (suc zero))) e = absurd (cc)
  carried (suc (suc (suc (suc r)))) e = absurd (no_fifth (not (is_upward (suc (suc (suc (suc r)))))) r e)

  carried_back : (r : ℕ) → (network_answers small).has r ≡ true → CarriesItsFlows small (network_answers small) m r
  carried_back zero e = absurd (cc)
  carried_back (suc zero) e = All-from_recursion (λ a. is_of_ring small (network_answers small) 1 a ≡ true) (item_accesses answering) (refl, (refl, tt))
  carried_back (suc (suc zero)) e = absurd (cc)
  carried_back (suc (suc (suc zero))) e = All-from_recursion (λ a. is_of_ring small (network_answers small) 3 a ≡ true) (item_accesses answering) (refl, (refl, tt))
  carried_back (suc (suc (suc (suc r)))) e = absurd (no_fifth (is_upward (suc (suc (suc (suc r))))) r e)

  recorded : (d : ℕ) → d < 1 → journal_accesses steps d ≡ arrived m ((network_layout small).into d)
  recorded zero lt = refl
  recorded (suc d) lt = absurd (omega arith)

  -- All promises hold at this moment.
  pub end_moment : IsMomentOf small (network_layout small) steps m
  end_moment = record {
    links = links;
    ports = ports;
    carried = carried;
    carried_back = carried_back;
    recorded = recorded;
    hosts = one_of (IsHost small (network_layout small) m) the_flow (record { in_order = same_prefix refl; closed = λ e. refl });
    devices = one_of (IsDevice small (network_layout small) steps m) the_flow (record { whole = λ sound few. refl });
    routers = one_of (λ f. AlongWay (ForwardsFlow small (network_requests small) m f) ((network_requests small).first f) ((network_requests small).rest f)) the_flow
        (record { in_order = same_subsequence (item_accesses asking); whole = λ sound few. refl; closed = λ e. refl }, tt);
    routers_back = one_of (λ f. AlongWay (ForwardsFlow small (network_answers small) m f) ((network_answers small).first f) ((network_answers small).rest f)) the_flow
        (record { in_order = same_subsequence (item_accesses answering); whole = λ sound few. refl; closed = λ e. refl }, tt);
  }

  true_rings : (r : ℕ) → r < 4 → IsTrueRing last r
  true_rings zero lt = record { link = links 0; full = λ e. absurd (cc); empty = λ e. lit≤ tt }
  true_rings (suc zero) lt = record { link = links 1; full = λ e. absurd (cc); empty = λ e. lit≤ tt }
  true_rings (suc (suc zero)) lt = record { link = links 2; full = λ e. absurd (cc); empty = λ e. lit≤ tt }
  true_rings (suc (suc (suc zero))) lt = record { link = links 3; full = λ e. absurd (cc); empty = λ e. lit≤ tt }
  true_rings (suc (suc (suc (suc r)))) lt = absurd (omega arith)

  senders : (r : ℕ) → r < 4 → IsIdleSender (network_stages small) last r
  senders zero lt = still_sender last 0 refl refl refl refl refl refl
  senders (suc zero) lt = still_sender last 1 refl refl refl refl refl refl
  senders (suc (suc zero)) lt = still_sender last 2 refl refl refl refl refl refl
  senders (suc (suc (suc zero))) lt = still_sender last 3 refl refl refl refl refl refl
  senders (suc (suc (suc (suc r)))) lt = absurd (omega arith)

  receivers : (r : ℕ) → r < 4 → IsIdleReceiver (network_stages small) last r
  receivers zero lt = still_receiver last 0 refl refl refl
  receivers (suc zero) lt = still_receiver last 1 refl refl refl
  receivers (suc (suc zero)) lt = still_receiver last 2 refl refl refl
  receivers (suc (suc (suc zero))) lt = still_receiver last 3 refl refl refl
  receivers (suc (suc (suc (suc r)))) lt = absurd (omega arith)

  none_waits : (r : ℕ) → r < 4 → last.waits r ≡ false
  none_waits zero lt = refl
  none_waits (suc zero) lt = refl
  none_waits (suc (suc zero)) lt = refl
  none_waits (suc (suc (suc zero))) lt = refl
  none_waits (suc (suc (suc (suc r)))) lt = absurd (omega arith)

  -- All stand still, and no host waits.
  pub end_is_a_standstill : IsWholeStandstill small (network_layout small) steps (network_stages small) last
  end_is_a_standstill = record {
    still = record {
      rising = λ r here. stages_rise small small_is_routed r;
      wires = λ r here. record { in_not_empty = λ e. absurd (cc); in_not_full = λ e. absurd (cc); out_not_full = λ e. absurd (cc) };
      rings = λ r here i o. true_rings r here;
      senders = λ r here i. senders r here;
      receivers = λ r here o. receivers r here;
    };
    moment = end_moment;
    inside = λ r here. (refl, refl);
    within = ways_within small (ways_of_routed small small_is_routed);
    windows = λ r here waits. absurd (let never : true ≡ false = sym waits ∙ none_waits r here in cc);
  }

  pub ended_nets_are_over : IsOver small steps small_joints (end_nodes F T U heap)
  ended_nets_are_over = ended_is_over small small_joints steps (end_nodes F T U heap) small_is_accepted (small_stands F T U (end_state heap) (end_is_a_state heap)) (end_is_recorded F T U heap) steps_of_small end_is_a_standstill
