-- A run of the parts that a net lends to it.
use Rattle.std.proofs.Common.{◌≡◌, ℕ, List, sym, subst}
use Rattle.sb_packet.specs.Journals.{Ledger}
use Rattle.sb_packet.specs.Networks.{Network}
use Rattle.sb_member.specs.Groups.{dealt_nodes}
use Rattle.sb_member.specs.declared.joint.Joint.{Joint}
use Rattle.sb_member.specs.declared.member.Member.{Member}
use Rattle.sb_net.specs.Nets.{CanRun, NetSide}
use Rattle.sb_net.specs.Running.{IsReady}
use Rattle.sb_net.proofs.Told.{of_both}

-- a net that can run is ready in the parts that it lends to its run
pub ready_lent : {F T U : Type 0} {net parts : NetSide F T U} (network : Network) (joints : List Joint) (groups : List (List (Member F T U))) (collected : List ℕ) (journal : Ledger)
    → net ≡ parts → joints ≡ parts.joints → groups ≡ parts.groups → collected ≡ parts.collected → CanRun network net journal → IsReady network parts.first collected joints (dealt_nodes groups) journal
ready_lent {parts = parts} network joints groups collected journal same at among kept can =
    subst (λ list. IsReady network parts.first list joints (dealt_nodes groups) journal) (sym kept)
    (of_both (λ j g. IsReady network parts.first parts.collected j (dealt_nodes g) journal) parts.joints joints parts.groups groups at among (subst (λ n. CanRun network n journal) same can))
