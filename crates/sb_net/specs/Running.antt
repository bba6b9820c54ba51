-- A run of a network's nodes, round by round, from its first round to its end.
use Rattle.std.specs.Prelude.{ℕ, Bool, false, List, ◌≡◌, ◌≤◌, ◌<◌, ◌+◌, [], length, All}
use Rattle.sb_drive.specs.Rounds.{IsRound}
use Rattle.sb_drive.specs.SomeTurns.{HaveTakenTurns}
use Rattle.sb_link.specs.declared.answers.Turn.{Turn}
use Rattle.sb_member.specs.Members.{IsKeptMember, IsMemberTurn, IsRestedMember}
use Rattle.sb_member.specs.declared.member.Member.{Member}
use Rattle.sb_packet.specs.Journals.{Ledger}
use Rattle.sb_packet.specs.Networks.{Network}
use Rattle.sb_packet.specs.declared.entry.Entry.{Entry}
use Rattle.sb_flow.specs.Accepted.{IsAccepted, word_count}
use Rattle.sb_member.specs.Joints.{HaveAllMet}
use Rattle.sb_member.specs.declared.joint.Joint.{Joint}
use Rattle.sb_net.specs.Over.{IsOver}
use Rattle.sb_net.specs.Recorded.{device_entries, entry_counts}
use Rattle.sb_net.specs.Spent.{network_moves}
use Rattle.sb_net.specs.Standing.{StandsFor}

-- A round of a network's nodes.

module _ {F T U : Type 0} where
  -- What some turns of that number do to the nodes, any number of turns of each node or none, and whether one of them moved.
  abbrev pub AreNetTurns : ℕ → List (Member F T U) → List (Member F T U) → Bool → Type 0
  AreNetTurns number before after moved =
      HaveTakenTurns (λ round x y. IsKeptMember round x y) (λ x y. IsRestedMember x y) (λ x round answer y. IsMemberTurn round x answer y) number before after moved

  -- What a round of that number does to the nodes, in which each is turned, with their last answers, and whether one of them moved.
  abbrev pub IsNetRound : ℕ → List (Member F T U) → List (Member F T U) → List Turn → Bool → Type 0
  IsNetRound number before after last moved =
      IsRound (λ round x y. IsKeptMember round x y) (λ x y. IsRestedMember x y) (λ x round answer y. IsMemberTurn round x answer y) number before after last moved

module _ {F T U : Type 0} where
  -- Nodes are built for a network: they stand at its rings, whose ends have met, and no device has served anything.
  pub record IsBuilt (network : Network) (first : ℕ) (collected : List ℕ) (joints : List Joint) (nodes : List (Member F T U)) : Type 0 where
    pub accepted : IsAccepted network
    pub stands : StandsFor network joints nodes
    pub met : HaveAllMet joints (length joints) nodes
    pub unserved : (d : ℕ) → d < length network.devices → device_entries network nodes d ≡ []
    -- the devices have the numbers from the first one on, and nothing was collected
    pub first_device : first ≡ length network.hosts + length network.routers
    pub nothing_collected : collected ≡ entry_counts network nodes

  -- They can run, with that journal: it is empty, and has room for all words of the scripts.
  pub record IsReady (network : Network) (first : ℕ) (collected : List ℕ) (joints : List Joint) (nodes : List (Member F T U)) (journal : Ledger) : Type 0 where
    pub built : IsBuilt network first collected joints nodes
    pub empty : journal.entries ≡ []
    pub room : word_count network ≤ journal.spare

  -- They have run to the end, with that journal: the run is over, and its rounds were few.
  pub record HasRun (network : Network) (journal : List Entry) (joints : List Joint) (nodes : List (Member F T U)) : Type 0 where
    pub over : IsOver network journal joints nodes
    pub stands : StandsFor network joints nodes
    pub few : All (λ e. e.round < network_moves network) journal

-- turns of a round were taken, and where none moved, each node was turned, with whatever last answers
pub record HasGone {F T U : Type 0} (number : ℕ) (before after : List (Member F T U)) (moved : Bool) : Type 0 where
  pub turns : AreNetTurns number before after moved
  pub none_moved : moved ≡ false → (last : List Turn) × IsNetRound number before after last false
