-- A pair with a byte that is no digit is refused; each other pair adds its byte, until the bytes are what all digits decode to.
use Rattle.std.proofs.Common.{◌<◌, ◌⊎◌, inl, inr, ⊎_elim, ◌+◌, ◌*◌, slice_index, arith}
use Rattle.hex.proofs.Pairs.{decode_step, decode_done}
use Rattle.sb_text.proofs.BodyLemmas.{pair_is, digits_refused}
use Rattle.sb_text.proofs.body.decode_into.Goals as goal

pub returns-then-high-gt15-clause-other : goal.returns-then-high-gt15-clause-other
returns-then-high-gt15-clause-other c =
    let either : (15 < c.digit-high.result) ⊎ (15 < c.digit-low.result) = ⊎_elim (λ high. inl high) (λ both. inr both.1) c.then-high-gt15.either in
    digits_refused c.args.digits.now c.loop-index.bytes c.loop-index.index c.digit-high.result c.digit-low.result (omega arith) c.digit-high.ensures c.digit-low.ensures either c.loop-index.invariant

pub loop-index-preserved : goal.loop-index-preserved
loop-index-preserved c =
    let high : c.digit-high.result < 16 = omega arith in
    let low : c.digit-low.result < 16 = omega arith in
    decode_step c.args.digits.now c.loop-index.bytes c.loop-index.index _ (omega arith) (omega arith) (pair_is (slice_index c.args.digits.now (2 * c.loop-index.index)) (slice_index c.args.digits.now (2 * c.loop-index.index + 1)) (2 * c.loop-index.index) c.digit-high.result c.digit-low.result c.digit-high.ensures c.digit-low.ensures high low) c.loop-index.invariant

pub returns-clause-value : goal.returns-clause-value
returns-clause-value c = decode_done c.args.digits.now c.loop-index.bytes c.loop-index.index (omega arith) (omega arith) c.loop-index.invariant
