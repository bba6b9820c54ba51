-- The blank, and the word behind it.
use Rattle.std.proofs.Common.{rules, [], ◌∷◌}
use Rattle.sb_text.specs.TextLines.{word_text}
use Rattle.sb_text.proofs.PrintLemmas.{on_err, part_before, printed_then}
use Rattle.sb_text.proofs.report.words.print_next.Goals as goal

pub returns-in_err-print_short : goal.returns-in_err-print_short
returns-in_err-print_short g c = record {
  printed = record {
    done = search rules;
    part = on_err _ _ (part_before _ _ c.args.buffer.now (32 ∷ []) (word_text c.args.word) c.in_err-print_short.ensures.printed.part);
    cause = search rules;
    clean = search rules;
  };
}

pub returns : goal.returns
returns g c = record { printed = printed_then g.K.Sink c.print_word.result _ _ _ _ _ _ (32 ∷ []) (word_text c.args.word) c.in_ok-print_short.ensures.printed.done c.in_ok-print_short.ensures.printed.clean c.print_word.ensures.printed }
