-- A byte that is no blank makes the word one byte longer.
use Rattle.std.proofs.Common.{◌≡◌, ◌<◌, false, arith, get_or, length}
use Rattle.std.proofs.lemmas.List.Elements.{All-more}
use Rattle.sb_text.specs.Lines.{is_blank}
use Rattle.sb_text.proofs.words.word_len.Goals as goal

pub loop-index-preserved : goal.loop-index-preserved
loop-index-preserved c =
    let here : is_blank (get_or c.args.line.now c.loop-index.index 0) ≡ false = grind (arith, c.if-is_blank.false) in
    let within : c.loop-index.index < length c.args.line.now = omega arith in
    All-more (λ b. is_blank b ≡ false) c.args.line.now c.loop-index.index 0 within c.loop-index.invariant here
