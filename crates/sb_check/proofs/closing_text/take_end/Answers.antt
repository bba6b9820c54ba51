-- Its word has no line feed.
use Rattle.std.proofs.Common.{[], refl}
use Rattle.std.specs.Prelude.{codes}
use Rattle.sb_check.proofs.UnendedLemmas.{a_word, letters_unended, no_words}
use Rattle.sb_check.proofs.closing_text.take_end.Goals as goal

pub take_line-requires : goal.take_line-requires
take_line-requires c = a_word (codes "end") [] (letters_unended (codes "end") refl) no_words
