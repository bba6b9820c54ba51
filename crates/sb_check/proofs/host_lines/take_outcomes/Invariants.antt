-- The lines of the transactions so far were there.
use Rattle.std.proofs.Common.{◌≡◌, [], take, length, Ok}
use Rattle.std.specs.Prelude.{flat_map, slice_index_or}
use Rattle.std.specs.List.{enumerate_from}
use Rattle.sb_packet.specs.Answers.{RunResults}
use Rattle.sb_text.specs.Reports.{outcome_line}
use Rattle.sb_check.specs.Comparing.{IsCompared}
use Rattle.sb_check.specs.declared.unread.Differs.{Differs}
use Rattle.sb_check.proofs.host_lines.take_outcomes.Given as goal

abbrev pub invariant-loop-index : goal.invariant-loop-index
invariant-loop-index g l = (told : RunResults) → g.R.Results.tells l.results told → l.count ≡ length (slice_index_or told.outcomes l.host [])
    → IsCompared {T = Unit {0}} {E = Differs} (Ok tt) l.fn.text.rest.now l.text.rest.now (flat_map (λ p. outcome_line p.0 p.1) (take l.index (enumerate_from 0 (slice_index_or told.outcomes l.host []))))
