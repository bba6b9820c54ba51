-- Where a report begins in an input, found line by line.
use Rattle.std.proofs.Common.{◌≡◌, ◌≤◌, ◌<◌, ◌∙◌, ℕ, suc, ◌+◌, ◌-◌, List, [], ◌∷◌, ◌++◌, true, false, Bool, cond, length, take, drop, ap, sym, refl, arith, length-append, length-drop}
use Rattle.std.specs.Prelude.{Option, Some, None, not, option_map, nat_lt, position, if◌then◌else◌}
use Rattle.std.specs.List.{concat, prefix_len}
use Rattle.std.proofs.Math.Seq.{drop-append_seam, take-add, take-append_seam}
use Rattle.std.proofs.lemmas.Bool.{lt-ltb, ltb-true, ltb_from_iff}
use Rattle.std.proofs.lemmas.List.{append_assoc, drop-drop}
use Rattle.sb_text.specs.Lines.{is_line_end}
use Rattle.sb_check.specs.ReportLines.{begun_by, report_lines}
use Rattle.sb_top.specs.Judgements.{is_divider, report_split}

begun_is : (byte : ℕ) (lines : List (List ℕ)) → concat (begun_by byte lines) ≡ byte ∷ concat lines
begun_is byte [] = refl
begun_is byte (line ∷ lines) = refl

-- the lines of a text, one behind the other, are the text
lines_are : (text : List ℕ) → concat (report_lines text) ≡ text
lines_are [] = refl
lines_are (byte ∷ text) =
    elim (is_line_end byte) as (λ b. concat (if b then (byte ∷ []) ∷ report_lines text else begun_by byte (report_lines text)) ≡ byte ∷ text) [
      | true ↦ ap (λ (t : List ℕ). byte ∷ t) (lines_are text)
      | false ↦ begun_is byte (report_lines text) ∙ ap (λ (t : List ℕ). byte ∷ t) (lines_are text)
    ]

-- a text is its first line and what stands behind that
pub first_line_is : (text line rest : List ℕ) → report_lines text ≡ line ∷ report_lines rest → text ≡ line ++ rest
first_line_is text line rest lines = sym (lines_are text) ∙ ap concat lines ∙ ap (λ (t : List ℕ). line ++ t) (lines_are rest)

-- the parts of an input by its lines
abbrev parts_of_lines : List (List ℕ) → Option (List ℕ × List ℕ)
parts_of_lines lines = option_map (λ k. (concat (take k lines), concat (drop (k + 1) lines))) (position is_divider lines)

-- the same with a text before them
abbrev pub parts_behind : List ℕ → Option (List ℕ × List ℕ) → Option (List ℕ × List ℕ)
parts_behind front parts = option_map (λ p. (front ++ p.0, p.1)) parts

pub behind_nothing : (parts : Option (List ℕ × List ℕ)) → parts ≡ parts_behind [] parts
behind_nothing None = refl
behind_nothing (Some p) = refl

pub behind_both : (a b : List ℕ) (parts : Option (List ℕ × List ℕ)) → parts_behind a (parts_behind b parts) ≡ parts_behind (a ++ b) parts
behind_both a b None = refl
behind_both a b (Some p) = ap (λ (t : List ℕ). Some (t, p.1)) (sym (append_assoc a b p.0))

-- the parts where that many lines stand before the one before the report, if there are as many
abbrev parts_if : List (List ℕ) → Bool → ℕ → Option (List ℕ × List ℕ)
parts_if lines enough n = option_map (λ k. (concat (take k lines), concat (drop (k + 1) lines))) (cond enough (Some n) None)

abbrev parts_at : List (List ℕ) → ℕ → Option (List ℕ × List ℕ)
parts_at lines n = parts_if lines (nat_lt n (length lines)) n

-- how many lines stand before that one
abbrev lines_before : List (List ℕ) → ℕ
lines_before lines = prefix_len (λ line. not (is_divider line)) lines

-- where none stands before it, the rest is behind the first line
none_before : (line : List ℕ) (lines : List (List ℕ)) → parts_at (line ∷ lines) 0 ≡ Some ([], concat lines)
none_before line lines = ap (λ (b : Bool). parts_if (line ∷ lines) b 0) (lt-ltb 0 (length (line ∷ lines)) (omega arith))

same_test : (n k : ℕ) → nat_lt (suc n) (suc k) ≡ nat_lt n k
same_test n k = sym (ltb_from_iff (
  (λ enough. let below : n < k = ltb-true n k enough in omega (arith, below)),
  (λ more. let below : n < k = omega (arith, more) in lt-ltb n k below),
))

-- a line more before it stands before the parts
one_more_if : (line : List ℕ) (lines : List (List ℕ)) (enough : Bool) (n : ℕ) → parts_if (line ∷ lines) enough (suc n) ≡ parts_behind line (parts_if lines enough n)
one_more_if line lines true n =
    let next : suc n + 1 ≡ suc (n + 1) = omega arith in
    ap (λ m. Some (line ++ concat (take n lines), concat (drop m (line ∷ lines)))) next
one_more_if line lines false n = refl

one_more : (line : List ℕ) (lines : List (List ℕ)) (n : ℕ) → parts_at (line ∷ lines) (1 + n) ≡ parts_behind line (parts_at lines n)
one_more line lines n =
    let next : 1 + n ≡ suc n = omega arith in
    ap (λ m. parts_at (line ∷ lines) m) next
    ∙ ap (λ (b : Bool). parts_if (line ∷ lines) b (suc n)) (same_test n (length lines))
    ∙ one_more_if line lines (nat_lt n (length lines)) n

-- where the first line is the one before the report, there is nothing before it
pub split_here : (text line rest : List ℕ) → report_lines text ≡ line ∷ report_lines rest → is_divider line ≡ true → report_split text ≡ Some ([], rest)
split_here text line rest lines divides =
    ap parts_of_lines lines
    ∙ ap (λ (b : Bool). parts_at (line ∷ report_lines rest) (cond (not b) (1 + lines_before (report_lines rest)) 0)) divides
    ∙ none_before line (report_lines rest)
    ∙ ap (λ (t : List ℕ). Some ([], t)) (lines_are rest)

-- where the first line is another, it stands before the parts of the rest
pub split_later : (text line rest : List ℕ) → report_lines text ≡ line ∷ report_lines rest → is_divider line ≡ false → report_split text ≡ parts_behind line (report_split rest)
split_later text line rest lines other =
    ap parts_of_lines lines
    ∙ ap (λ (b : Bool). parts_at (line ∷ report_lines rest) (cond (not b) (1 + lines_before (report_lines rest)) 0)) other
    ∙ one_more line (report_lines rest) (lines_before (report_lines rest))

-- What is left of an input from a place on is a line and what stands behind it: so many bytes further it is the latter.
pub line_within : (input rest line after : List ℕ) (place : ℕ) → place ≤ length input → rest ≡ drop place input → rest ≡ line ++ after → place + length line ≤ length input
line_within input rest line after place within left parted =
    let behind : length rest ≡ length input - place = ap length left ∙ length-drop place input in
    let both : length rest ≡ length line + length after = ap length parted ∙ length-append line after in
    omega (arith, within, behind, both)

pub line_behind : (input rest line after : List ℕ) (place : ℕ) → rest ≡ drop place input → rest ≡ line ++ after → after ≡ drop (place + length line) input
line_behind input rest line after place left parted =
    sym (drop-append_seam line after)
    ∙ ap (drop (length line)) (sym parted ∙ left)
    ∙ drop-drop (length line) place input

pub line_taken : (input rest line after : List ℕ) (place : ℕ) → rest ≡ drop place input → rest ≡ line ++ after → take place input ++ line ≡ take (place + length line) input
line_taken input rest line after place left parted =
    ap (λ (t : List ℕ). take place input ++ t) (sym (take-append_seam line after) ∙ ap (take (length line)) (sym parted ∙ left))
    ∙ sym (take-add place (length line) input)
