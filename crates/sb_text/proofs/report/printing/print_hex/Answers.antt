-- Up to 32 bytes more add their digits to those printed; where the sink fails, a first part of all digits was written.
use Rattle.std.proofs.Common.{rules, ◌≤◌, ◌+◌, ◌∙◌, length, arith, refl}
use Rattle.sb_text.proofs.PrintLemmas.{on_err}
use Rattle.sb_text.proofs.PrintLemmas.{hex_nothing, hex_more, hex_part}
use Rattle.sb_text.proofs.report.printing.print_hex.Goals as goal

pub loop-at-init : goal.loop-at-init
loop-at-init g c = record {
  within = omega arith;
  printed = hex_nothing (g.K.Sink.held c.args.sink.now) c.args.buffer.now c.args.bytes.now;
  clean = refl;
}

pub returns-in_err-print_digits : goal.returns-in_err-print_digits
returns-in_err-print_digits g c =
    let within : c.loop-at.at + c.min-count.result ≤ length c.args.bytes.now = omega arith in
    record {
      printed = record {
        done = search rules;
        part = on_err _ _ (hex_part _ _ _ _ _ c.args.bytes.now c.loop-at.at c.min-count.result within c.loop-at.invariant.printed c.in_err-print_digits.ensures.printed.part);
        cause = search rules;
        clean = search rules;
      };
    }

pub loop-at-preserved : goal.loop-at-preserved
loop-at-preserved g c = record {
  within = omega arith;
  printed = hex_more _ _ _ _ _ _ c.args.bytes.now c.loop-at.at c.min-count.result c.loop-at.invariant.printed c.in_ok-print_digits.ensures.printed.done;
  clean = c.in_ok-print_digits.ensures.printed.clean ∙ c.loop-at.invariant.clean;
}
