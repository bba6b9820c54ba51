-- The device's line, and those of its rows.
use Rattle.std.proofs.Common.{◌≡◌, ◌∙◌, [], ◌∷◌, ℕ, List, Err, Ok, ap}
use Rattle.std.specs.Prelude.{codes, decimal}
use Rattle.sb_text.specs.Reports.{image_lines}
use Rattle.sb_text.specs.TextLines.{text_line}
use Rattle.sb_text.proofs.PrintLemmas.{printed_as, printed_before, printed_then}
use Rattle.sb_text.proofs.report.devices.print_device.Goals as goal

abbrev heading : List ℕ → ℕ → List ℕ
heading name pages = text_line (codes "device" ∷ name ∷ decimal pages ∷ [])

pub returns-in_err-print_words : goal.returns-in_err-print_words
returns-in_err-print_words g c =
    let plan = c.args.plan.now in
    let same : heading c.as_slice.result.now c.from.result ≡ heading plan.name plan.pages = ap (heading c.as_slice.result.now) c.from.ensures ∙ ap (λ (name : List ℕ). heading name plan.pages) c.as_slice.ensures.text in
    record {
      printed = printed_before g.K.Sink c.from_residual.result c.in_err-print_words.field-0.0 _ _ _ _ (heading plan.name plan.pages) (image_lines c.args.bytes.now) c.from_residual.ensures.0
          (printed_as g.K.Sink (Err c.in_err-print_words.field-0.0) _ _ _ _ _ _ same c.in_err-print_words.ensures.printed);
    }

pub returns : goal.returns
returns g c =
    let plan = c.args.plan.now in
    let same : heading c.as_slice.result.now c.from.result ≡ heading plan.name plan.pages = ap (heading c.as_slice.result.now) c.from.ensures ∙ ap (λ (name : List ℕ). heading name plan.pages) c.as_slice.ensures.text in
    let first = printed_as g.K.Sink (Ok c.in_ok-print_words.field-0) _ _ _ _ _ _ same c.in_ok-print_words.ensures.printed in
    record { printed = printed_then g.K.Sink c.print_image.result _ _ _ _ _ _ (heading plan.name plan.pages) (image_lines c.args.bytes.now) first.done first.clean c.print_image.ensures.printed }
