-- The next line spells an entry, or it doesn't.
use Rattle.sb_check.proofs.ReadingLemmas.{missing_so, no_line_spells, none_spelled, spelled_next}
use Rattle.sb_check.proofs.history.next_entry.Goals as goal

pub returns-in_err-line : goal.returns-in_err-line
returns-in_err-line c = record { read = missing_so c.from_residual.result _ c.from_residual.ensures; none = λ is. no_line_spells _ _ c.in_err-line.ensures.line }

pub returns : goal.returns
returns c = record {
  read = spelled_next _ c.read_entry.result _ _ c.in_ok-line.line.now c.in_ok-line.ensures.line c.read_entry.ensures.spelled c.read_entry.ensures.only;
  none = none_spelled _ c.read_entry.result _ _ c.in_ok-line.line.now c.in_ok-line.ensures.line c.read_entry.ensures.only;
}
