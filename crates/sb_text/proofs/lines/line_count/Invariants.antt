-- The lines counted so far, and those of the rest, are all lines of the text.
use Rattle.std.proofs.Common.{◌≡◌, ◌≤◌, ◌+◌, length}
use Rattle.sb_text.specs.Lines.{lines_of}
use Rattle.sb_text.proofs.lines.line_count.Given as goal

abbrev pub invariant-loop-count : goal.invariant-loop-count
invariant-loop-count l = record {
  counted : length (lines_of l.text) ≡ l.count + length (lines_of l.lines.rest.now);
  limit : l.count + length l.lines.rest.now ≤ length l.text;
}

abbrev pub decreases-loop-count : goal.decreases-loop-count
decreases-loop-count l = length l.lines.rest.now
