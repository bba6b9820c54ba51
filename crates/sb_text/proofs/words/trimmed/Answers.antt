-- A line has the same words without the blanks at its front.
use Rattle.std.proofs.Common.{◌∙◌, ap, sym}
use Rattle.sb_text.specs.Lines.{words_in_line}
use Rattle.sb_text.proofs.WordLemmas.{words_behind_blanks}
use Rattle.sb_text.proofs.words.trimmed.Goals as goal

pub returns-clause-words : goal.returns-clause-words
returns-clause-words c = ap words_in_line c.split_at.ensures.back ∙ sym (words_behind_blanks c.args.line.now c.blank_len.result c.blank_len.ensures.blank)
