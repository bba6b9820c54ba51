-- The laws of networks of nodes, at the example's nodes: in its last round that moved, at the meeting after it, and in the round after that, in which none moved.
use Rattle.std.proofs.Common.{◌≡◌, ◌≤◌, ◌<◌, ◌-◌, ◌^◌, true, Global, List, [], length, lit<, refl, suc, false}
use Rattle.std.specs.Prelude.{◌++◌, All, IsTrue}
use Rattle.std.proofs.lemmas.List.Elements.{All-from_recursion}
use Rattle.sb_packet.specs.Journals.{is_in_round_order}
use Rattle.sb_packet.specs.declared.entry.Entry.{Entry}
use Rattle.sb_flow.specs.Accepted.{word_count}
use Rattle.sb_laws.specs.Standstills.{IsStandstill, IsWholeStandstill}
use Rattle.sb_laws.specs.NetworkLayouts.{network_layout, network_stages}
use Rattle.sb_laws.specs.Runs.{HasEntries, IsMomentOf}
use Rattle.sb_laws.proofs.ExampleNetwork.{small, steps}
use Rattle.sb_member.specs.Joints.{HaveAllMet}
use Rattle.sb_net.specs.Over.{IsOver}
use Rattle.sb_net.specs.Recorded.{IsRecorded, device_entries, entry_counts, new_entries}
use Rattle.sb_net.specs.RingEnds.{AreLinked, net_moment, net_round_end}
use Rattle.sb_net.specs.Running.{AreNetTurns}
use Rattle.sb_net.specs.Spent.{network_moves, spent}
use Rattle.sb_net.specs.Standing.{StandsFor, device_number}
use Rattle.sb_drive.proofs.SomeTurns.{of_round}
use Rattle.sb_net.proofs.EndingNodes.{ended_is_over}
use Rattle.sb_net.proofs.JournalRoom.{journal_within}
use Rattle.sb_net.proofs.LaterNets.{linked, stands_all_met, stands_turned}
use Rattle.sb_net.proofs.PromisesKept.{at_moment, has_entries}
use Rattle.sb_net.proofs.RoundsRecorded.{counts_kept, entries_kept, new_rounds, nothing_new, ordered_on, recorded_on}
use Rattle.sb_net.proofs.SpendingBounds.{moves_are_small, spent_within}
use Rattle.sb_net.proofs.SpendingMeetings.{meetings_do_nothing}
use Rattle.sb_net.proofs.SpendingRounds.{round_adds, turned}
use Rattle.sb_net.proofs.StandstillEnds.{met_still}
use Rattle.sb_net.proofs.Standstills.{standstill, whole_standstill}
use Rattle.sb_net.proofs.ExampleNet.{small_has_met, small_joints, small_stands, end_state, end_is_a_state}
use Rattle.sb_net.proofs.ExampleNetOver.{all_meet_again, end_is_recorded, end_nodes, small_is_accepted}
use Rattle.sb_net.proofs.ExampleNetRound.{all_done, last_net_round}
use Rattle.sb_net.proofs.ExampleNetMoves.{ends_meet, host_moved, late_is_a_state, late_is_recorded, late_nodes, late_state, moving_net_round, turned_are_whole, turned_nodes}

module _ (F T U : Type 0) (heap : Global) where
  late_stands : StandsFor small small_joints (late_nodes F T U heap)
  late_stands = small_stands F T U (late_state heap) (late_is_a_state heap)

  moving_turns : AreNetTurns 4 (late_nodes F T U heap) (turned_nodes F T U heap) true
  moving_turns = of_round _ _ _ 4 (late_nodes F T U heap) (turned_nodes F T U heap) host_moved true (moving_net_round F T U heap)

  pub networks_stand_on : StandsFor small small_joints (turned_nodes F T U heap)
  networks_stand_on = stands_turned small small_joints 4 (late_nodes F T U heap) (turned_nodes F T U heap) true late_stands moving_turns (turned_are_whole F T U heap)

  pub networks_stand_on_met : StandsFor small small_joints (end_nodes F T U heap)
  networks_stand_on_met = stands_all_met small small_joints (turned_nodes F T U heap) (end_nodes F T U heap) networks_stand_on (ends_meet F T U heap)

  pub networks_stand_on_linked : AreLinked small_joints (end_nodes F T U heap)
  networks_stand_on_linked = linked small_joints (end_nodes F T U heap) (small_has_met F T U (end_state heap) (end_is_a_state heap))

  -- What the round served is recorded: it served nothing more. The journal stays in the order of rounds.
  abbrev added_entries : List Entry
  added_entries = new_entries small (entry_counts small (late_nodes F T U heap)) (end_nodes F T U heap)

  pub rounds_are_recorded : IsRecorded small (steps ++ added_entries) (end_nodes F T U heap)
  rounds_are_recorded = recorded_on small small_joints 4 (late_nodes F T U heap) (turned_nodes F T U heap) (end_nodes F T U heap) true late_stands moving_turns (ends_meet F T U heap) steps (late_is_recorded F T U heap)

  pub rounds_are_recorded_rounds : All (λ e. e.round ≡ 4) added_entries
  rounds_are_recorded_rounds = new_rounds small small_joints 4 (late_nodes F T U heap) (turned_nodes F T U heap) (end_nodes F T U heap) true late_stands moving_turns (ends_meet F T U heap)

  earlier : All (λ e. e.round < 4) steps
  earlier = All-from_recursion (λ e. e.round < 4) steps (lit< tt, (lit< tt, (lit< tt, tt)))

  pub rounds_are_recorded_in_order : IsTrue (is_in_round_order (steps ++ added_entries))
  rounds_are_recorded_in_order = ordered_on small small_joints 4 (late_nodes F T U heap) (turned_nodes F T U heap) (end_nodes F T U heap) true late_stands moving_turns (ends_meet F T U heap) steps refl earlier

  pub rounds_are_recorded_none : new_entries small (entry_counts small (end_nodes F T U heap)) (end_nodes F T U heap) ≡ []
  rounds_are_recorded_none = nothing_new small small_joints 4 (end_nodes F T U heap) (end_nodes F T U heap) (end_nodes F T U heap) false networks_stand_on_met (of_round _ _ _ 4 (end_nodes F T U heap) (end_nodes F T U heap) all_done false (last_net_round F T U heap)) (all_meet_again F T U heap) refl

  pub rounds_are_recorded_kept : device_entries small (end_nodes F T U heap) 0 ≡ device_entries small (turned_nodes F T U heap) 0
  rounds_are_recorded_kept = entries_kept small_joints (turned_nodes F T U heap) (end_nodes F T U heap) (ends_meet F T U heap) (device_number small 0)

  pub rounds_are_recorded_counts_kept : entry_counts small (end_nodes F T U heap) ≡ entry_counts small (turned_nodes F T U heap)
  rounds_are_recorded_counts_kept = counts_kept small small_joints (turned_nodes F T U heap) (end_nodes F T U heap) (ends_meet F T U heap)

  -- All nodes keep their promises at their end, and no journal is longer than the scripts have words.
  pub nets_keep_their_promises : IsMomentOf small (network_layout small) steps (net_moment small_joints (end_nodes F T U heap))
  nets_keep_their_promises = at_moment small small_joints (end_nodes F T U heap) steps small_is_accepted networks_stand_on_met networks_stand_on_linked (end_is_recorded F T U heap)

  pub nets_keep_their_promises_entries : HasEntries small steps
  nets_keep_their_promises_entries = has_entries small small_joints (end_nodes F T U heap) steps small_is_accepted networks_stand_on_met networks_stand_on_linked (end_is_recorded F T U heap) refl

  pub journals_have_room : length steps ≤ word_count small
  journals_have_room = journal_within small small_joints (end_nodes F T U heap) networks_stand_on_met networks_stand_on_linked small_is_accepted steps (end_is_recorded F T U heap)

  -- The round in which the host moved did more at the rings, as the law says and as they count; the meeting did nothing.
  pub moving_nets_end_turned : spent small_joints (late_nodes F T U heap) ≤ spent small_joints (turned_nodes F T U heap)
  moving_nets_end_turned = turned small small_joints (late_nodes F T U heap) (turned_nodes F T U heap) 4 late_stands true moving_turns

  pub moving_nets_end_moved : spent small_joints (late_nodes F T U heap) < spent small_joints (turned_nodes F T U heap)
  moving_nets_end_moved = round_adds small small_joints (late_nodes F T U heap) (turned_nodes F T U heap) 4 late_stands moving_turns

  host_counts : spent small_joints (turned_nodes F T U heap) ≡ suc (spent small_joints (late_nodes F T U heap))
  host_counts = refl

  pub moving_nets_end_met : spent small_joints (end_nodes F T U heap) ≡ spent small_joints (turned_nodes F T U heap)
  moving_nets_end_met = meetings_do_nothing small_joints (turned_nodes F T U heap) (end_nodes F T U heap) networks_stand_on.joined (ends_meet F T U heap)

  pub moving_nets_end_bounded : spent small_joints (end_nodes F T U heap) ≤ network_moves small
  moving_nets_end_bounded = spent_within small small_joints (end_nodes F T U heap) networks_stand_on_met networks_stand_on_linked

  pub moving_nets_end_small : network_moves small < 2 ^ 32 - 1
  moving_nets_end_small = moves_are_small small small_is_accepted

  -- In the round after that no node moved: they stand still, and so their run is over.
  all_met : HaveAllMet small_joints (length small_joints) (end_nodes F T U heap)
  all_met = small_has_met F T U (end_state heap) (end_is_a_state heap)

  pub unmoved_nets_stand_still_met : HaveAllMet small_joints (length small_joints) (end_nodes F T U heap)
  unmoved_nets_stand_still_met = met_still small_joints (end_nodes F T U heap) (end_nodes F T U heap) (last_net_round F T U heap).same ((last_net_round F T U heap).rested refl) networks_stand_on_met.joined all_met

  pub unmoved_nets_stand_still_linked : AreLinked small_joints (end_nodes F T U heap)
  unmoved_nets_stand_still_linked r below = (unmoved_nets_stand_still_met r below).in_order

  pub unmoved_nets_stand_still : IsStandstill (network_stages small) (net_round_end small_joints (end_nodes F T U heap))
  unmoved_nets_stand_still = standstill small small_joints (end_nodes F T U heap) (end_nodes F T U heap) 4 all_done small_is_accepted networks_stand_on_met all_met (last_net_round F T U heap)

  pub unmoved_nets_stand_still_whole : IsWholeStandstill small (network_layout small) steps (network_stages small) (net_round_end small_joints (end_nodes F T U heap))
  unmoved_nets_stand_still_whole = whole_standstill small small_joints (end_nodes F T U heap) (end_nodes F T U heap) 4 all_done small_is_accepted networks_stand_on_met all_met (last_net_round F T U heap) steps nets_keep_their_promises

  pub ended_nets_are_over : IsOver small steps small_joints (end_nodes F T U heap)
  ended_nets_are_over = ended_is_over small small_joints steps (end_nodes F T U heap) small_is_accepted networks_stand_on_met (end_is_recorded F T U heap) nets_keep_their_promises_entries unmoved_nets_stand_still_whole
