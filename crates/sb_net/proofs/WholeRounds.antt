-- A round in which each node was turned is turns of a round.
use Rattle.std.proofs.Common.{ℕ, Bool, List, subst}
use Rattle.sb_link.specs.declared.answers.Turn.{Turn}
use Rattle.sb_drive.proofs.SomeTurns.{of_round}
use Rattle.sb_member.specs.declared.member.Member.{Member}
use Rattle.sb_net.specs.Running.{HasGone, IsNetRound}

pub gone_all : {F T U : Type 0} {number : ℕ} (before after : List (Member F T U)) {moved : Bool} (last : List Turn) → IsNetRound number before after last moved → HasGone number before after moved
gone_all {number = number} before after {moved} last went = record {
  turns = of_round _ _ _ number before after last moved went;
  none_moved = λ still. (last, subst (λ b. IsNetRound number before after last b) still went);
}
