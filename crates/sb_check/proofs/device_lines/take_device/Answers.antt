-- The device's line, and those of its rows.
use Rattle.std.proofs.Common.{[], ◌∷◌, ℕ, List}
use Rattle.std.specs.Prelude.{codes, decimal}
use Rattle.sb_text.specs.Reports.{image_lines}
use Rattle.sb_text.specs.TextLines.{text_line}
use Rattle.sb_check.proofs.CompareLemmas.{compared_before, compared_then}
use Rattle.sb_check.proofs.device_lines.take_device.Goals as goal

abbrev heading : List ℕ → ℕ → List ℕ
heading name pages = text_line (codes "device" ∷ name ∷ decimal pages ∷ [])

pub returns-in_err-take_device_name : goal.returns-in_err-take_device_name
returns-in_err-take_device_name c = record {
  compared = compared_before c.from_residual.result _ _ (heading c.args.plan.now.name c.args.plan.now.pages) (image_lines c.args.bytes.now) c.from_residual.ensures.0 c.in_err-take_device_name.ensures.compared.differs;
}

pub returns : goal.returns
returns c = record {
  compared = compared_then c.take_image.result _ _ _ (heading c.args.plan.now.name c.args.plan.now.pages) (image_lines c.args.bytes.now) c.in_ok-take_device_name.ensures.compared.there c.take_image.ensures.compared;
}
