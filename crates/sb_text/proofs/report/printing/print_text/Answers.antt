-- A piece more adds its bytes to those printed; where the sink fails, a first part of the text was written.
use Rattle.std.proofs.Common.{rules, ◌≤◌, ◌+◌, ◌∙◌, length, arith}
use Rattle.sb_text.proofs.PrintLemmas.{on_err, text_more, text_part}
use Rattle.sb_text.proofs.report.printing.print_text.Goals as goal

pub returns-in_err-print_short : goal.returns-in_err-print_short
returns-in_err-print_short g c =
    let within : c.loop-at.at + c.min.result ≤ length c.args.text.now = omega arith in
    record {
      printed = record {
        done = search rules;
        part = on_err _ _ (text_part _ _ _ _ _ c.args.text.now c.loop-at.at c.min.result within c.loop-at.invariant.printed c.in_err-print_short.ensures.printed.part);
        cause = search rules;
        clean = search rules;
      };
    }

pub loop-at-preserved : goal.loop-at-preserved
loop-at-preserved g c = record {
  within = omega arith;
  printed = text_more _ _ _ _ _ _ c.args.text.now c.loop-at.at c.min.result c.loop-at.invariant.printed c.in_ok-print_short.ensures.printed.done;
  clean = c.in_ok-print_short.ensures.printed.clean ∙ c.loop-at.invariant.clean;
}
