-- Digits of bytes are decoded to them.
use Rattle.std.proofs.Common.{◌∙◌, ℕ, List, ap, arith, Some}
use Rattle.std.proofs.lemmas.Grind.{common_steps}
use Rattle.sb_check.proofs.EntryLemmas.{decode_gives, padded_as}
use Rattle.sb_check.proofs.entry_line.decoded.Goals as goal

pub returns-in-Ok-clause-only : goal.returns-in-Ok-clause-only
returns-in-Ok-clause-only c = λ bytes small long is.
    let got = decode_gives c.args.digits.now bytes _ c.decode_to_slice.result c.decode_to_slice.new.out c.decode_to_slice.ensures.value is small (grind (arith, common_steps)) in
    ap (λ (t : List ℕ). Some t) (c.padded.ensures ∙ padded_as c.decode_to_slice.new.out _ bytes c.args.carried got.1 long)

pub returns-in-Err-clause-only : goal.returns-in-Err-clause-only
returns-in-Err-clause-only c = λ bytes small long is.
    let got = decode_gives c.args.digits.now bytes _ c.decode_to_slice.result c.decode_to_slice.new.out c.decode_to_slice.ensures.value is small (grind (arith, common_steps)) in
    let err = c.in-Err.is in let ok = got.0 in absurd (cc)
