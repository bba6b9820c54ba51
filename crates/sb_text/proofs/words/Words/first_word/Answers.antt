-- The bytes before the first blank are the first word, and the words behind it are the others.
use Rattle.std.proofs.Common.{◌∙◌, refl}
use Rattle.sb_text.proofs.WordLemmas.{first_word}
use Rattle.sb_text.proofs.words.Words.first_word.Goals as goal

pub returns : goal.returns
returns c =
    let asked = c.requires in
    first_word c.args.self.now.rest.now c.args.len asked.some c.args.self.now.trimmed asked.within asked.word asked.end
    ∙ rw (c.split_at.ensures.front, c.new.ensures, c.split_at.ensures.back) refl
