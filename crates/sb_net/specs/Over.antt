-- The end of a run.
use Rattle.std.specs.Prelude.{◌≡◌, ℕ, ◌<◌, true, List, length, Some, slice_get}
use Rattle.sb_packet.specs.Journals.{IsLawful}
use Rattle.sb_packet.specs.Answers.{final_memory, host_outcomes}
use Rattle.sb_packet.specs.Networks.{NetHost, Network}
use Rattle.sb_flow.specs.Rings.{IsCarried}
use Rattle.sb_packet.specs.declared.entry.Entry.{Entry}
use Rattle.sb_node.specs.Sides.{is_done, received_words}
use Rattle.sb_host.specs.Outcomes.{outcomes_so_far}
use Rattle.sb_member.specs.Ends.{ports_of, rings_of}
use Rattle.sb_member.specs.Joints.{joint_at, node_at, receiver_of}
use Rattle.sb_member.specs.declared.joint.Joint.{Joint}
use Rattle.sb_member.specs.declared.member.Member.{Member}
use Rattle.sb_member.specs.declared.member.Member.TheVariants.{Host, Router, Device}
use Rattle.sb_net.specs.Standing.{device_number}

module _ {F T U : Type 0} where
  -- a host tells of its transactions what a journal says of them
  abbrev pub TellsOutcomes : Network → List Entry → NetHost → Member F T U → Type 0
  TellsOutcomes network journal host (Host h) = outcomes_so_far h.transactions.asked (received_words h.answers) h.transactions.next ≡ host_outcomes network journal host
  TellsOutcomes network journal host (Router r) = ⊥
  TellsOutcomes network journal host (Device d) = ⊥

  -- a device has the memory that a journal leaves
  abbrev pub HasFinalMemory : Network → List Entry → ℕ → Member F T U → Type 0
  HasFinalMemory network journal place (Host h) = ⊥
  HasFinalMemory network journal place (Router r) = ⊥
  HasFinalMemory network journal place (Device d) = d.memory ≡ final_memory network journal place

  -- A run is over, with that journal: it is one legal history, and each ring, host and device is at its end by it.
  pub record IsOver (network : Network) (journal : List Entry) (joints : List Joint) (nodes : List (Member F T U)) : Type 0 where
    pub lawful : IsLawful network journal
    -- each node is done: all its ports have sent their Close, and all its rings have given theirs
    pub done : (k : ℕ) → k < length nodes → is_done (ports_of (node_at nodes k)) (rings_of (node_at nodes k)) ≡ true
    pub carried : (r : ℕ) → r < length joints → IsCarried network journal r (received_words (receiver_of nodes (joint_at joints r)))
    pub outcomes : (n : ℕ) (host : NetHost) → slice_get network.hosts n ≡ Some host → TellsOutcomes network journal host (node_at nodes n)
    pub memories : (d : ℕ) → d < length network.devices → HasFinalMemory network journal d (node_at nodes (device_number network d))
