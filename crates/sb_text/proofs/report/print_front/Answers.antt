-- The first line, and the history behind it.
use Rattle.sb_flow.specs.NetworkOf.{network_of}
use Rattle.sb_text.specs.Reports.{first_line, history_lines}
use Rattle.sb_text.proofs.PrintLemmas.{printed_then}
use Rattle.sb_text.proofs.report.print_front.Goals as goal

pub returns : goal.returns
returns g c =
    let first = c.in_ok-print_first.ensures.printed in
    record { printed = printed_then g.K.Sink c.print_asked.result _ _ _ _ _ _ (first_line c.args.side) (history_lines (network_of c.args.bundle.now) c.args.entries.now c.args.side c.args.history) first.done first.clean c.print_asked.ensures.printed }
