-- The lines of a report.
use Rattle.std.specs.Prelude.{ℕ, ◌≡◌, ◌≢◌, ◌<◌, List, [], ◌∷◌, slice_get, if◌then◌else◌}
use Rattle.sb_text.specs.Lines.{is_line_end}

-- a byte before lines, which it begins
abbrev pub begun_by : ℕ → List (List ℕ) → List (List ℕ)
begun_by byte [] = (byte ∷ []) ∷ []
begun_by byte (line ∷ lines) = (byte ∷ line) ∷ lines

-- The lines of a report, each with the line feed that ends it. The last one has none where the report doesn't end with one.
abbrev pub report_lines : List ℕ → List (List ℕ)
report_lines [] = []
report_lines (byte ∷ text) = if is_line_end byte then (byte ∷ []) ∷ report_lines text else begun_by byte (report_lines text)

-- Line k, counted from 0, is the first in which two texts differ; one of them may have no such line.
pub record IsFirstDifference (a b : List ℕ) (k : ℕ) : Type 0 where
  pub before : (j : ℕ) → j < k → slice_get (report_lines a) j ≡ slice_get (report_lines b) j
  pub here : slice_get (report_lines a) k ≢ slice_get (report_lines b) k
