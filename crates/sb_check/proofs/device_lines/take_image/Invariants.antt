-- The lines of the rows so far were there.
use Rattle.std.proofs.Common.{take, length, ◌/◌, Ok}
use Rattle.std.specs.Prelude.{flat_map}
use Rattle.std.specs.List.{enumerate_from}
use Rattle.sb_text.specs.Reports.{row_line, image_rows}
use Rattle.sb_check.specs.Comparing.{IsCompared}
use Rattle.sb_check.specs.declared.unread.Differs.{Differs}
use Rattle.sb_check.proofs.device_lines.take_image.Given as goal

abbrev pub invariant-loop-k : goal.invariant-loop-k
invariant-loop-k l = IsCompared {T = Unit {0}} {E = Differs} (Ok tt) l.fn.text.rest.now l.text.rest.now (flat_map (λ p. row_line p.0 p.1) (take l.k (enumerate_from 0 (image_rows (length l.bytes / 32) l.bytes))))
