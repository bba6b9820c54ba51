-- One row more adds its line, and all rows are the image's lines; one that isn't there is the first difference.
use Rattle.std.proofs.Common.{◌≡◌, ◌≤◌, ◌<◌, ◌+◌, ◌-◌, ◌*◌, ◌/◌, ◌∙◌, ℕ, List, [], ap, sym, length, take, drop, get_or, arith}
use Rattle.std.specs.List.{enumerate_from}
use Rattle.std.proofs.lemmas.List.FromFn.{length-enumerate_from}
use Rattle.sb_text.specs.Reports.{row_line, image_rows}
use Rattle.sb_text.proofs.IndexedLemmas.{image_row_at, length-image_rows}
use Rattle.sb_check.proofs.CompareLemmas.{compared_all, compared_failed, compared_more, numbered}
use Rattle.sb_check.proofs.device_lines.take_image.Goals as goal

abbrev rows_of : List ℕ → List (ℕ × List ℕ)
rows_of bytes = enumerate_from 0 (image_rows (length bytes / 32) bytes)

-- the slice of a row is the row
row_is : (k : ℕ) (bytes : List ℕ) → k < length bytes / 32 → row_line k (take (k * 32 + 32 - k * 32) (drop (k * 32) bytes)) ≡ row_line (get_or (rows_of bytes) k (0, [])).0 (get_or (rows_of bytes) k (0, [])).1
row_is k bytes below =
    let n = length bytes / 32 in
    let wide : k * 32 + 32 - k * 32 ≡ 32 = omega arith in
    let there : k < length (image_rows n bytes) = rw length-image_rows below in
    ap (row_line k) (ap (λ (m : ℕ). take m (drop (k * 32) bytes)) wide ∙ sym (image_row_at n k bytes below))
    ∙ ap (λ (p : ℕ × List ℕ). row_line p.0 p.1) (sym (numbered (image_rows n bytes) k [] there))

-- there is such a row
row_there : (k : ℕ) (bytes : List ℕ) → k < length bytes / 32 → k < length (rows_of bytes)
row_there k bytes below = rw (length-enumerate_from, length-image_rows) below

pub returns-in_err-take_row : goal.returns-in_err-take_row
returns-in_err-take_row c =
    let bytes = c.args.bytes.now in
    let k = c.loop-k.k in
    let inside : k < length bytes / 32 = omega arith in
    record { compared = compared_failed tt c.in_err-take_row.field-0.0 c.from_residual.result (λ p. row_line p.0 p.1) (rows_of bytes) k (0, []) _ _ _ _ c.from_residual.ensures.0 (row_there k bytes inside) (row_is k bytes inside) c.loop-k.invariant c.in_err-take_row.ensures.compared }

pub loop-k-preserved : goal.loop-k-preserved
loop-k-preserved c =
    let bytes = c.args.bytes.now in
    let k = c.loop-k.k in
    let inside : k < length bytes / 32 = omega arith in
    compared_more tt tt tt (λ p. row_line p.0 p.1) (rows_of bytes) k (0, []) _ _ _ _ (row_there k bytes inside) (row_is k bytes inside) c.loop-k.invariant c.in_ok-take_row.ensures.compared

pub returns : goal.returns
returns c =
    let bytes = c.args.bytes.now in
    let all : length (rows_of bytes) ≤ c.loop-k.k = rw (length-enumerate_from, length-image_rows) (omega arith) in
    record { compared = compared_all tt tt (λ p. row_line p.0 p.1) (rows_of bytes) c.loop-k.k _ _ all c.loop-k.invariant }
