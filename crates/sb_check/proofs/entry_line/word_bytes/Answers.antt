-- The digits of the bytes are those of the number.
use Rattle.std.proofs.Common.{sym}
use Rattle.sb_text.proofs.HexLemmas.{hex_number-bytes}
use Rattle.sb_check.proofs.entry_line.word_bytes.Goals as goal

pub returns : goal.returns
returns c = sym (hex_number-bytes 4 c.args.word)
