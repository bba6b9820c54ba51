-- The lines of a report, one after another.
use Rattle.std.proofs.Common.{◌≡◌, ◌<◌, ◌+◌, ℕ, zero, suc, true, false, List, [], ◌∷◌, ◌++◌, length, get_or, take, drop, ap, refl, arith, add-one}
use Rattle.std.specs.Prelude.{All}
use Rattle.std.proofs.lemmas.List.Elements.{All-head, All-tail}
use Rattle.sb_text.specs.Lines.{is_line_end}
use Rattle.sb_check.specs.ReportLines.{begun_by, report_lines}

-- bytes without a line feed
abbrev pub IsUnbroken : List ℕ → Type 0
IsUnbroken text = All (λ b. is_line_end b ≡ false) text

-- a line ends at its line feed, and the others follow
pub report_lines-line : (line rest : List ℕ) → IsUnbroken line → report_lines (line ++ 10 ∷ rest) ≡ (line ++ 10 ∷ []) ∷ report_lines rest
report_lines-line [] rest unbroken = refl
report_lines-line (b ∷ line) rest unbroken = rw (All-head (λ b. is_line_end b ≡ false) b line unbroken) (ap (begun_by b) (report_lines-line line rest (All-tail (λ b. is_line_end b ≡ false) b line unbroken)))

-- a text without a line feed is one line, if it isn't empty
pub report_lines-last : (text : List ℕ) → 0 < length text → IsUnbroken text → report_lines text ≡ text ∷ []
report_lines-last [] some unbroken = absurd (omega arith)
report_lines-last (b ∷ []) some unbroken = rw (All-head (λ b. is_line_end b ≡ false) b [] unbroken) refl
report_lines-last (b ∷ c ∷ text) some unbroken = rw (All-head (λ b. is_line_end b ≡ false) b (c ∷ text) unbroken) (ap (begun_by b) (report_lines-last (c ∷ text) (omega arith) (All-tail (λ b. is_line_end b ≡ false) b (c ∷ text) unbroken)))

-- the first line, up to the first line feed, and those behind it
first_at : (text : List ℕ) (n : ℕ) → n < length text → IsUnbroken (take n text) → is_line_end (get_or text n 0) ≡ true → report_lines text ≡ take (suc n) text ∷ report_lines (drop (suc n) text)
first_at [] n within unbroken ends = absurd (omega arith)
first_at (b ∷ text) zero within unbroken ends = rw ends refl
first_at (b ∷ text) (suc n) within unbroken ends =
    rw (All-head (λ b. is_line_end b ≡ false) b (take n text) unbroken)
    (ap (begun_by b) (first_at text n (omega arith) (All-tail (λ b. is_line_end b ≡ false) b (take n text) unbroken) ends))

pub report_lines-first : (text : List ℕ) (n : ℕ) → n < length text → IsUnbroken (take n text) → is_line_end (get_or text n 0) ≡ true → report_lines text ≡ take (n + 1) text ∷ report_lines (drop (n + 1) text)
report_lines-first text n within unbroken ends = rw add-one (first_at text n within unbroken ends)
