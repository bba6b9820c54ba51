-- What the status of a text says of the writing.
use Rattle.std.proofs.Common.{◌≡◌, ◌≢◌, ℕ, refl, sym, ◌∙◌}
use Rattle.sb_text.specs.declared.printed.Printed.{Printed}
use Rattle.sb_text.specs.declared.printed.Printed.TheVariants as printed

-- the status of the text says that it was written whole
pub was_done : (written : Printed) (status result : ℕ) → (written ≡ printed.Failed → result ≡ 5) → status ≢ 5 → result ≡ status → written ≡ printed.Done
was_done printed.Done status result failed other is = refl
was_done printed.Failed status result failed other is = absurd (other (sym is ∙ failed refl))

-- the status of a failed write says that it was not
pub was_failed : (written : Printed) (status result : ℕ) → (written ≡ printed.Done → result ≡ status) → status ≢ 5 → result ≡ 5 → written ≡ printed.Failed
was_failed printed.Done status result done other is = absurd (other (sym (done refl) ∙ is))
was_failed printed.Failed status result done other is = refl
