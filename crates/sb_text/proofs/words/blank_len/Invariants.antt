-- Each byte so far is a blank.
use Rattle.std.proofs.Common.{◌≡◌, true, take}
use Rattle.std.specs.Prelude.{All}
use Rattle.sb_text.specs.Lines.{is_blank}
use Rattle.sb_text.proofs.words.blank_len.Given as goal

abbrev pub invariant-loop-index : goal.invariant-loop-index
invariant-loop-index l = All (λ byte. is_blank byte ≡ true) (take l.index l.line)
