-- The words of all parts of a message, one part after another, are the message's own.
use Rattle.sb_packet.proofs.CutWords.{words_of_cut}
use Rattle.sb_packet.proofs.laws.packets_keep_the_words.Goals as goal

pub returns : goal.returns
returns c = record { words = λ width m. words_of_cut width m }
