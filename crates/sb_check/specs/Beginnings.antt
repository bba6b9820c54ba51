-- When do the entries so far begin a lawful journal?
use Rattle.std.specs.Prelude.{ℕ, List, All, IsTrue}
use Rattle.sb_packet.specs.Journals.{IsPlaced, flow_part, is_in_round_order, journal_accesses}
use Rattle.sb_packet.specs.Networks.{Network}
use Rattle.sb_packet.specs.Scripts.{script_accesses}
use Rattle.sb_packet.specs.declared.entry.Entry.{Entry}
use Rattle.sb_link.specs.Prefixes.{IsPrefix}

-- Entries begin a lawful journal: each host's words at each device begin those of its script there, each entry is at its target and no wider than its device's link, and none goes back in round and then device.
pub record IsLawfulSoFar (network : Network) (journal : List Entry) : Type 0 where
  pub in_script_order : All (λ host. (d : ℕ) →
      IsPrefix (flow_part network host d (journal_accesses journal d)) (flow_part network host d (script_accesses host))) network.hosts
  pub at_target : All (IsPlaced network) journal
  pub in_round_order : IsTrue (is_in_round_order journal)
