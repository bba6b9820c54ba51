-- A network that can be run, as contracts see it.
use Rattle.std.specs.Prelude.{◌≡◌, ℕ, List}
use Rattle.sb_packet.specs.Networks.{Network}
use Rattle.sb_packet.specs.Journals.{Ledger}
use Rattle.sb_packet.specs.declared.entry.Entry.{Entry}
use Rattle.sb_member.specs.Groups.{dealt_nodes}
use Rattle.sb_member.specs.declared.joint.Joint.{Joint}
use Rattle.sb_member.specs.declared.member.Member.{Member}
use Rattle.sb_net.specs.Running.{HasRun, IsBuilt, IsReady}

-- the nodes of each group, where the rings stand among all nodes, the number of the first device, and how many entries of each device were collected
pub record NetSide (F T U : Type 0) : Type 0 where
  pub groups : List (List (Member F T U))
  pub joints : List Joint
  pub first : ℕ
  pub collected : List ℕ

module _ {F T U : Type 0} where
  -- all its nodes, by their numbers
  abbrev pub nodes_of : NetSide F T U → List (Member F T U)
  nodes_of net = dealt_nodes net.groups

  -- It is built for a network; it can run with that journal; it has run to the end with that one.
  abbrev pub IsNetOf : Network → NetSide F T U → Type 0
  IsNetOf network net = IsBuilt network net.first net.collected net.joints (nodes_of net)

  abbrev pub CanRun : Network → NetSide F T U → Ledger → Type 0
  CanRun network net journal = IsReady network net.first net.collected net.joints (nodes_of net) journal

  abbrev pub RanToTheEnd : Network → NetSide F T U → List Entry → Type 0
  RanToTheEnd network net journal = HasRun network journal net.joints (nodes_of net)
