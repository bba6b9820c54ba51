-- A blank behind blanks makes their row one byte longer.
use Rattle.std.proofs.Common.{◌≡◌, true, arith, get_or}
use Rattle.std.proofs.lemmas.List.Elements.{All-more}
use Rattle.sb_text.specs.Lines.{is_blank}
use Rattle.sb_text.proofs.words.blank_len.Goals as goal

pub loop-index-preserved : goal.loop-index-preserved
loop-index-preserved c =
    let here : is_blank (get_or c.args.line.now c.loop-index.index 0) ≡ true = grind (arith, c.if-not-is_blank.false) in
    All-more (λ b. is_blank b ≡ true) c.args.line.now c.loop-index.index 0 c.loop-index-test.true c.loop-index.invariant here
