-- The first word, and the rest of the line.
use Rattle.std.proofs.Common.{[]}
use Rattle.sb_text.specs.declared.line_word.LineWord.TheVariants.{Text}
use Rattle.sb_text.proofs.LineLemmas.{line_in_parts}
use Rattle.sb_text.proofs.PrintLemmas.{printed_as, printed_then}
use Rattle.sb_text.proofs.report.words.print_words.Goals as goal

pub returns-in_ok-print_word-in-len1-up : goal.returns-in_ok-print_word-in-len1-up
returns-in_ok-print_word-in-len1-up g c =
    let first = c.in_ok-print_word-in-len1-up.ensures in
    let parts = line_in_parts (Text (record { ref_ptr = (0, 0); now = [] })) c.args.words.now c.in-len1-up.len_at_least in
    record { printed = printed_as g.K.Sink c.print_rest_of_line.result _ _ _ _ _ _ parts (printed_then g.K.Sink c.print_rest_of_line.result _ _ _ _ _ _ _ _ first.printed.done first.printed.clean c.print_rest_of_line.ensures.printed) }
