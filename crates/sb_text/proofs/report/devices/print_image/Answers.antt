-- One row more adds its line, and all rows are the image's lines; where the sink fails, a first part of these was written.
use Rattle.std.proofs.Common.{◌≡◌, ◌≤◌, ◌<◌, ◌+◌, ◌-◌, ◌*◌, ◌/◌, ◌∙◌, ℕ, List, [], ap, sym, length, take, drop, get_or, arith}
use Rattle.sb_text.specs.Reports.{row_line, image_rows}
use Rattle.sb_text.proofs.IndexedLemmas.{image_row_at, length-image_rows, lines_all, lines_failed, lines_more}
use Rattle.sb_text.proofs.PrintLemmas.{printed_nothing}
use Rattle.sb_text.proofs.report.devices.print_image.Goals as goal

-- the slice of a row is the row
row_is : (n k : ℕ) (bytes : List ℕ) → k < n → row_line k (take (k * 32 + 32 - k * 32) (drop (k * 32) bytes)) ≡ row_line k (get_or (image_rows n bytes) k [])
row_is n k bytes below =
    let wide : k * 32 + 32 - k * 32 ≡ 32 = omega arith in
    ap (row_line k) (ap (λ (m : ℕ). take m (drop (k * 32) bytes)) wide ∙ sym (image_row_at n k bytes below))

pub returns-in_err-print_row : goal.returns-in_err-print_row
returns-in_err-print_row g c =
    let bytes = c.args.bytes.now in
    let n = length bytes / 32 in
    let k = c.loop-k.k in
    let inside : k < n = omega arith in
    let below : k < length (image_rows n bytes) = rw length-image_rows inside in
    record { printed = lines_failed row_line g.K.Sink tt c.in_err-print_row.field-0.0 c.from_residual.result _ _ _ _ _ _ _ (image_rows n bytes) k [] c.from_residual.ensures.0 below (row_is n k bytes inside) c.loop-k.invariant c.in_err-print_row.ensures.printed }

pub loop-k-preserved : goal.loop-k-preserved
loop-k-preserved g c =
    let bytes = c.args.bytes.now in
    let n = length bytes / 32 in
    let k = c.loop-k.k in
    let inside : k < n = omega arith in
    let below : k < length (image_rows n bytes) = rw length-image_rows inside in
    lines_more row_line g.K.Sink tt tt tt _ _ _ _ _ _ _ (image_rows n bytes) k [] below (row_is n k bytes inside) c.loop-k.invariant c.in_ok-print_row.ensures.printed

pub loop-k-init : goal.loop-k-init
loop-k-init g c = printed_nothing g.K.Sink tt c.args.sink.now c.args.buffer.now

pub returns : goal.returns
returns g c =
    let bytes = c.args.bytes.now in
    let n = length bytes / 32 in
    let all : length (image_rows n bytes) ≤ c.loop-k.k = rw length-image_rows (omega arith) in
    record { printed = lines_all row_line g.K.Sink tt tt _ _ _ _ (image_rows n bytes) c.loop-k.k all c.loop-k.invariant }
