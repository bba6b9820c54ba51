-- A digit moves those before it one place up; if the first ones are worth 2^64 or more, so are all, and else the value is that of all.
use Rattle.std.proofs.Common.{◌≡◌, ◌≤◌, ◌<◌, ◌+◌, ◌*◌, ◌^◌, ◌∙◌, ℕ, ap, arith, take}
use Rattle.sb_text.specs.Numerals.{digits_value}
use Rattle.sb_text.proofs.NumeralLemmas.{digits_more, value_more, too_great, none_if, all_read}
use Rattle.sb_text.proofs.numerals.value.Goals as goal

pub loop-byte-preserved : goal.loop-byte-preserved
loop-byte-preserved c =
    let i = c.loop-byte.byte-index in
    let few : c.args.base ≤ 16 = c.requires.1 in
    let more : c.loop-byte.value * c.args.base + c.digit-digit.result ≡ digits_value c.args.base (take (i + 1) c.args.digits.now) =
    value_more c.args.base c.args.digits.now i c.digit-digit.result c.loop-byte.value c.loop-byte-test.true c.digit-digit.ensures c.if-digit-base.false few c.loop-byte.invariant.value in
    record {
      digits = digits_more c.args.base c.args.digits.now i c.digit-digit.result c.loop-byte-test.true c.digit-digit.ensures c.if-digit-base.false few c.loop-byte.invariant.digits;
      value = c.in_ok-value.ensures.1 ∙ ap (λ (n : ℕ). n + c.digit-digit.result) c.in_ok-checked_mul.ensures.1 ∙ more;
      fits = omega arith;
    }

pub returns-in_err-checked_mul : goal.returns-in_err-checked_mul
returns-in_err-checked_mul c =
    let i = c.loop-byte.byte-index in
    let few : c.args.base ≤ 16 = c.requires.1 in
    let more : c.loop-byte.value * c.args.base + c.digit-digit.result ≡ digits_value c.args.base (take (i + 1) c.args.digits.now) =
    value_more c.args.base c.args.digits.now i c.digit-digit.result c.loop-byte.value c.loop-byte-test.true c.digit-digit.ensures c.if-digit-base.false few c.loop-byte.invariant.value in
    let over : ¬ (c.loop-byte.value * c.args.base < 2 ^ 64) = c.in_err-checked_mul.ensures in
    let great : 2 ^ 64 ≤ digits_value c.args.base (take (i + 1) c.args.digits.now) = omega arith in
    c.from_residual.ensures ∙ none_if _ _ _ _ (too_great c.args.base c.args.digits.now (i + 1) (2 ^ 64) (omega arith) great)

pub returns-in_err-value : goal.returns-in_err-value
returns-in_err-value c =
    let i = c.loop-byte.byte-index in
    let few : c.args.base ≤ 16 = c.requires.1 in
    let more : c.loop-byte.value * c.args.base + c.digit-digit.result ≡ digits_value c.args.base (take (i + 1) c.args.digits.now) =
    value_more c.args.base c.args.digits.now i c.digit-digit.result c.loop-byte.value c.loop-byte-test.true c.digit-digit.ensures c.if-digit-base.false few c.loop-byte.invariant.value in
    let product : c.in_ok-checked_mul.field-0 ≡ c.loop-byte.value * c.args.base = c.in_ok-checked_mul.ensures.1 in
    let over : ¬ (c.in_ok-checked_mul.field-0 + c.digit-digit.result < 2 ^ 64) = c.in_err-value.ensures in
    let great : 2 ^ 64 ≤ digits_value c.args.base (take (i + 1) c.args.digits.now) = omega arith in
    c.from_residual-in_err-value.ensures ∙ none_if _ _ _ _ (too_great c.args.base c.args.digits.now (i + 1) (2 ^ 64) (omega arith) great)

pub returns : goal.returns
returns c = all_read c.args.base c.args.digits.now c.loop-byte.byte-index c.loop-byte.value (2 ^ 64) c.loop-byte-test.false c.loop-byte.invariant.digits c.loop-byte.invariant.value c.loop-byte.invariant.fits
