-- The example's network as a list of nodes and the four joints between them, at a moment of its run: they stand for the network.
use Rattle.std.proofs.Common.{◌≡◌, ◌≤◌, ◌<◌, ◌+◌, lit≤, lit<, ℕ, zero, suc, Global, List, [], ◌∷◌, length, refl, arith, Some, None}
use Rattle.std.specs.Prelude.{Option, sum_by}
use Rattle.std.proofs.lemmas.List.Elements.{All-from_recursion}
use Rattle.sb_packet.specs.Networks.{opening_memory}
use Rattle.sb_flow.specs.Rings.{ring_plan}
use Rattle.sb_packet.specs.declared.entry.Entry.{Entry}
use Rattle.sb_packet.specs.declared.packet.Packet.{Packet}
use Rattle.sb_host.specs.Hosts.{IsWholeHost}
use Rattle.sb_host.specs.declared.answer_row.AnswerRow.{AnswerRow}
use Rattle.sb_device.specs.Devices.{IsWholeDevice}
use Rattle.sb_device.specs.Served.{HasServed}
use Rattle.sb_router.specs.Forwarding.{Words, held_for, popped_for}
use Rattle.sb_router.specs.Lanes.{offered_at}
use Rattle.sb_router.specs.Routers.{DirectionSide, RouterSide}
use Rattle.sb_laws.specs.Moments.{Moment}
use Rattle.sb_laws.specs.NetworkLayouts.{network_answers, network_requests}
use Rattle.sb_laws.specs.RouterSides.{answer_outs, course_words, request_outs}
use Rattle.sb_laws.proofs.NetworkRouters.{answers_laid, requests_laid}
use Rattle.sb_laws.proofs.ExampleNetwork.{small, posted, steps}
use Rattle.sb_laws.proofs.ExampleRouted.{small_is_routed}
use Rattle.sb_laws.proofs.ExampleRun.{the_end}
use Rattle.sb_laws.proofs.ExampleHalfway.{first_step, halfway}
use Rattle.sb_laws.proofs.ExampleNodes.{device_in, fresh}
use Rattle.sb_laws.proofs.ExamplePorts.{IsSettled, end_is_settled, fresh_is_settled, halfway_is_settled, have_met}
use Rattle.sb_laws.proofs.ExampleHost.{end_host_is_whole, end_rows, fresh_host_is_whole, fresh_rows, halfway_host_is_whole, host_in, host_is_built}
use Rattle.sb_laws.proofs.ExampleDevice.{end_has_served, fresh_has_served, halfway_has_served}
use Rattle.sb_laws.proofs.ExampleWholeDevice.{end_device_is_whole, fresh_device_is_whole, halfway_device_is_whole}
use Rattle.sb_laws.proofs.ExampleRouter.{HasPassed, answers_are_built, direction_forwards, direction_in, direction_is_whole, end_answers, end_requests, fresh_answers, fresh_requests, halfway_answers, halfway_requests, requests_are_built}
use Rattle.sb_member.specs.Ends.{port_at, ports_of, ring_at, rings_of}
use Rattle.sb_member.specs.Joints.{HaveAllMet, IsRingPlaced, joint_at, node_at, receiver_of, sender_of}
use Rattle.sb_member.specs.Members.{IsWholeMember}
use Rattle.sb_member.specs.declared.joint.Joint.{Joint}
use Rattle.sb_member.specs.declared.member.Member.{Member}
use Rattle.sb_member.specs.declared.member.Member.TheVariants.{Host, Router, Device}
use Rattle.sb_net.specs.RingEnds.{AreLinked}
use Rattle.sb_net.specs.Standing.{IsDeviceNode, IsHostNode, IsReceivedBy, IsRouterNode, IsSentBy, StandsFor, device_number, router_number}

-- Ring 0 leads from the host to the router, ring 1 from there back, ring 2 on to the device, and ring 3 back to the router.
abbrev pub small_joints : List Joint
small_joints = record { from = 0; out = 0; to = 1; into = 0 } ∷ record { from = 1; out = 1; to = 0; into = 0 } ∷ record { from = 1; out = 0; to = 2; into = 0 } ∷ record { from = 2; out = 0; to = 1; into = 1 } ∷ []

-- which words go on by the router's rings, there and back
abbrev pub words_there : Words
words_there = course_words small (network_requests small) (request_outs small 0)

abbrev pub words_back : Words
words_back = course_words small (network_answers small) (answer_outs small 0)

-- at least as many words were popped for a port as were offered or are held
abbrev pub HasFew : Words → DirectionSide → Type 0
HasFew words d = (o : ℕ) → length (offered_at d.lane o) + sum_by (held_for words o) d.lane.inlets ≤ popped_for words d.lane o

-- What the nodes are at a moment: the host's rows and its next transaction, the packet that the router holds, and the device's journal.
pub record SmallState : Type 0 where
  pub now : Moment
  pub rows : List AnswerRow
  pub next : ℕ
  pub holds : Option Packet
  pub entries : List Entry
  pub spare : ℕ

abbrev pub small_router : SmallState → RouterSide
small_router s = record { requests = direction_in s.now 0 2 s.holds; answers = direction_in s.now 3 1 None }

-- Each node is whole, and has done what it should.
pub record IsSmallState (s : SmallState) : Type 0 where
  pub settled : IsSettled s.now
  pub host : IsWholeHost (host_in s.now s.rows s.next)
  pub passed : HasPassed s.now 0 2 s.holds
  pub passed_back : HasPassed s.now 3 1 None
  pub few : HasFew words_there (direction_in s.now 0 2 s.holds)
  pub few_back : HasFew words_back (direction_in s.now 3 1 None)
  pub device : IsWholeDevice (device_in s.now s.entries s.spare)
  pub served : HasServed (opening_memory small 0) (device_in s.now s.entries s.spare)

module _ (F T U : Type 0) (s : SmallState) where
  abbrev pub small_nodes : List (Member F T U)
  small_nodes = Host (host_in s.now s.rows s.next) ∷ Router (small_router s) ∷ Device (device_in s.now s.entries s.spare) ∷ []

  placed : (r : ℕ) → r < 4 → IsRingPlaced small_nodes (joint_at small_joints r)
  placed zero lt = record { from = lit< tt; to = lit< tt; apart = λ e. cc; out = lit< tt; into = lit< tt; marks = refl }
  placed (suc zero) lt = record { from = lit< tt; to = lit< tt; apart = λ e. cc; out = lit< tt; into = lit< tt; marks = refl }
  placed (suc (suc zero)) lt = record { from = lit< tt; to = lit< tt; apart = λ e. cc; out = lit< tt; into = lit< tt; marks = refl }
  placed (suc (suc (suc zero))) lt = record { from = lit< tt; to = lit< tt; apart = λ e. cc; out = lit< tt; into = lit< tt; marks = refl }
  placed (suc (suc (suc (suc r)))) lt = absurd (omega arith)

  pub sent_over : (r : ℕ) → r < 4 → (sender_of small_nodes (joint_at small_joints r)).plan ≡ ring_plan small r
  sent_over zero lt = refl
  sent_over (suc zero) lt = refl
  sent_over (suc (suc zero)) lt = refl
  sent_over (suc (suc (suc zero))) lt = refl
  sent_over (suc (suc (suc (suc r)))) lt = absurd (omega arith)

  pub received_over : (r : ℕ) → r < 4 → (receiver_of small_nodes (joint_at small_joints r)).plan ≡ ring_plan small r
  received_over zero lt = refl
  received_over (suc zero) lt = refl
  received_over (suc (suc zero)) lt = refl
  received_over (suc (suc (suc zero))) lt = refl
  received_over (suc (suc (suc (suc r)))) lt = absurd (omega arith)

  sent_by : (r : ℕ) → r < 4 → (sender_of small_nodes (joint_at small_joints r)).plan.ring ≡ r
  sent_by zero lt = refl
  sent_by (suc zero) lt = refl
  sent_by (suc (suc zero)) lt = refl
  sent_by (suc (suc (suc zero))) lt = refl
  sent_by (suc (suc (suc (suc r)))) lt = absurd (omega arith)

  received_by : (r : ℕ) → r < 4 → (receiver_of small_nodes (joint_at small_joints r)).plan.ring ≡ r
  received_by zero lt = refl
  received_by (suc zero) lt = refl
  received_by (suc (suc zero)) lt = refl
  received_by (suc (suc (suc zero))) lt = refl
  received_by (suc (suc (suc (suc r)))) lt = absurd (omega arith)

  -- each port and each ring of each node is of one of the four
  ports : (k o : ℕ) → k < 3 → o < length (ports_of (node_at small_nodes k)) → IsSentBy small_joints (port_at (node_at small_nodes k) o).plan.ring k o
  ports zero zero node lt = record { ring = lit< tt; from = refl; out = refl }
  ports zero (suc o) node lt = absurd (omega arith)
  ports (suc zero) zero node lt = record { ring = lit< tt; from = refl; out = refl }
  ports (suc zero) (suc zero) node lt = record { ring = lit< tt; from = refl; out = refl }
  ports (suc zero) (suc (suc o)) node lt = absurd (omega arith)
  ports (suc (suc zero)) zero node lt = record { ring = lit< tt; from = refl; out = refl }
  ports (suc (suc zero)) (suc o) node lt = absurd (omega arith)
  ports (suc (suc (suc k))) o node lt = absurd (omega arith)

  rings : (k i : ℕ) → k < 3 → i < length (rings_of (node_at small_nodes k)) → IsReceivedBy small_joints (ring_at (node_at small_nodes k) i).plan.ring k i
  rings zero zero node lt = record { ring = lit< tt; to = refl; into = refl }
  rings zero (suc i) node lt = absurd (omega arith)
  rings (suc zero) zero node lt = record { ring = lit< tt; to = refl; into = refl }
  rings (suc zero) (suc zero) node lt = record { ring = lit< tt; to = refl; into = refl }
  rings (suc zero) (suc (suc i)) node lt = absurd (omega arith)
  rings (suc (suc zero)) zero node lt = record { ring = lit< tt; to = refl; into = refl }
  rings (suc (suc zero)) (suc i) node lt = absurd (omega arith)
  rings (suc (suc (suc k))) i node lt = absurd (omega arith)

  module _ (is : IsSmallState s) where
    host_built : (n : ℕ) → n < 1 → IsHostNode small n (node_at small_nodes n)
    host_built zero lt = host_is_built s.now s.rows s.next
    host_built (suc n) lt = absurd (omega arith)

    router_built : (r : ℕ) → r < 1 → IsRouterNode small r (node_at small_nodes (router_number small r))
    router_built zero lt = record {
      requests = requests_are_built s.now s.holds;
      answers = answers_are_built s.now None;
      forwards_requests = record {
        laid = requests_laid small small_is_routed 0 (direction_in s.now 0 2 s.holds) (requests_are_built s.now s.holds);
        forwards = direction_forwards s.now is.settled 0 2 s.holds is.passed words_there is.few;
      };
      forwards_answers = record {
        laid = answers_laid small small_is_routed 0 (direction_in s.now 3 1 None) (answers_are_built s.now None);
        forwards = direction_forwards s.now is.settled 3 1 None is.passed_back words_back is.few_back;
      };
    }
    router_built (suc r) lt = absurd (omega arith)

    device_built : (d : ℕ) → d < 1 → IsDeviceNode small d (node_at small_nodes (device_number small d))
    device_built zero lt = record { number = refl; into = refl; back = refl; serves = is.served }
    device_built (suc d) lt = absurd (omega arith)

    -- They stand for the network, and are linked.
    pub small_stands : StandsFor small small_joints small_nodes
    small_stands = record {
      joined = record {
        whole = All-from_recursion IsWholeMember small_nodes (
          is.host,
          (
            record {
              requests = direction_is_whole s.now is.settled 0 2 s.holds is.passed;
              answers = direction_is_whole s.now is.settled 3 1 None is.passed_back;
            },
            (is.device, tt),
          ),
        );
        placed = placed;
        sent_by = sent_by;
        received_by = received_by;
      };
      covered = record { ports = ports; rings = rings };
      rings = refl;
      nodes_count = refl;
      sends_by = sent_over;
      receives_by = received_over;
      hosts = host_built;
      routers = router_built;
      devices = device_built;
    }

    pub small_is_linked : AreLinked small_joints small_nodes
    small_is_linked zero lt = is.settled.in_order 0
    small_is_linked (suc zero) lt = is.settled.in_order 1
    small_is_linked (suc (suc zero)) lt = is.settled.in_order 2
    small_is_linked (suc (suc (suc zero))) lt = is.settled.in_order 3
    small_is_linked (suc (suc (suc (suc r)))) lt = absurd (omega arith)

    -- and the ends of each ring know all of each other
    pub small_has_met : HaveAllMet small_joints 4 small_nodes
    small_has_met zero lt = have_met s.now is.settled 0
    small_has_met (suc zero) lt = have_met s.now is.settled 1
    small_has_met (suc (suc zero)) lt = have_met s.now is.settled 2
    small_has_met (suc (suc (suc zero))) lt = have_met s.now is.settled 3
    small_has_met (suc (suc (suc (suc r)))) lt = absurd (omega arith)

-- fresh, halfway and at the end
module _ (heap : Global) where
  abbrev pub fresh_state : SmallState
  fresh_state = record { now = fresh; rows = fresh_rows heap; next = 0; holds = None; entries = []; spare = 3 }

  abbrev pub halfway_state : SmallState
  halfway_state = record { now = halfway; rows = fresh_rows heap; next = 3; holds = Some posted; entries = first_step; spare = 2 }

  abbrev pub end_state : SmallState
  end_state = record { now = the_end; rows = end_rows heap; next = 3; holds = None; entries = steps; spare = 0 }

  pub fresh_is_a_state : IsSmallState fresh_state
  fresh_is_a_state = record {
    settled = fresh_is_settled;
    host = fresh_host_is_whole heap;
    passed = fresh_requests;
    passed_back = fresh_answers;
    few = few;
    few_back = few_back;
    device = fresh_device_is_whole;
    served = fresh_has_served;
  }
    where
      few : HasFew words_there (direction_in fresh 0 2 None)
      few zero = lit≤ tt
      few (suc o) = lit≤ tt

      few_back : HasFew words_back (direction_in fresh 3 1 None)
      few_back zero = lit≤ tt
      few_back (suc o) = lit≤ tt

  pub halfway_is_a_state : IsSmallState halfway_state
  halfway_is_a_state = record {
    settled = halfway_is_settled;
    host = halfway_host_is_whole heap;
    passed = halfway_requests;
    passed_back = halfway_answers;
    few = few;
    few_back = few_back;
    device = halfway_device_is_whole;
    served = halfway_has_served;
  }
    where
      few : HasFew words_there (direction_in halfway 0 2 (Some posted))
      few zero = lit≤ tt
      few (suc o) = lit≤ tt

      few_back : HasFew words_back (direction_in halfway 3 1 None)
      few_back zero = lit≤ tt
      few_back (suc o) = lit≤ tt

  pub end_is_a_state : IsSmallState end_state
  end_is_a_state = record {
    settled = end_is_settled;
    host = end_host_is_whole heap;
    passed = end_requests;
    passed_back = end_answers;
    few = few;
    few_back = few_back;
    device = end_device_is_whole;
    served = end_has_served;
  }
    where
      few : HasFew words_there (direction_in the_end 0 2 None)
      few zero = lit≤ tt
      few (suc o) = lit≤ tt

      few_back : HasFew words_back (direction_in the_end 3 1 None)
      few_back zero = lit≤ tt
      few_back (suc o) = lit≤ tt
