-- What was read so far stands before the parts of the rest.
use Rattle.std.proofs.Common.{◌≡◌, ◌≤◌, take, drop, length}
use Rattle.sb_top.specs.Judgements.{report_split}
use Rattle.sb_top.proofs.EvidenceLemmas.{parts_behind}
use Rattle.sb_top.proofs.evidence.split_report.Given as goal

abbrev pub invariant-loop-line : goal.invariant-loop-line
invariant-loop-line l = record {
  within : l.place ≤ length l.input;
  left : length l.lines.rest.now ≤ length l.input;
  rest : l.lines.rest.now ≡ drop l.place l.input;
  parts : report_split l.input ≡ parts_behind (take l.place l.input) (report_split l.lines.rest.now);
}

abbrev pub decreases-loop-line : goal.decreases-loop-line
decreases-loop-line l = length l.lines.rest.now
