-- A number whose bytes are 0 is 0.
use Rattle.std.proofs.Common.{◌≡◌, ◌∙◌, sym, ap, rules, length, replicate}
use Rattle.std.specs.Prelude.{Result, Ok, Err, OnOk}
use Rattle.sb_slot.proofs.ZeroBytes.{zero_from_number_bytes}
use Rattle.sb_slot.proofs.slot_checks.check_number.Goals as goal

-- what is the case on Ok, from something else that is
on_Ok : {T E : Type 0} (r : Result T E) (P Q : Type 0) → (P → Q) → OnOk r P → OnOk r Q
on_Ok (Ok x) P Q f p = f p
on_Ok (Err e) P Q f p = p

pub returns-clause-zero : goal.returns-clause-zero
returns-clause-zero c =
    on_Ok c.check_zeros.result _ _
    (λ (zeros : c.bytes_of.result ≡ replicate (length c.bytes_of.result) 0). zero_from_number_bytes c.args.number (search rules) (sym c.bytes_of.ensures.bytes ∙ zeros ∙ ap (λ n. replicate n 0) c.bytes_of.ensures.len))
    c.check_zeros.ensures.zeros
