-- The report that is printed, whole or in part, is that of the script's own network.
use Rattle.std.proofs.Common.{◌≢◌, false, sym, subst, arith}
use Rattle.std.specs.Prelude.{None}
use Rattle.sb_io.specs.Written.{Gains, GainsPart}
use Rattle.sb_packet.specs.Answers.{run_results}
use Rattle.sb_text.specs.Reports.{report_text}
use Rattle.sb_text.specs.Told.{FitsNetwork}
use Rattle.sb_solo.specs.Solo.{solo_network}
use Rattle.sb_top.proofs.StatusLemmas.{was_done, was_failed}
use Rattle.sb_top.proofs.solo_command.report.Goals as goal

pub returns-in-Ok-clause-done : goal.returns-in-Ok-clause-done
returns-in-Ok-clause-done g c = λ zero.
    let held = g.K.Sink.held in
    let journal = c.run.new.journal.entries in
    let told = run_results (solo_network c.args.script) journal in
    let ran = c.in-Ok.ensures in
    let fits = subst (λ n. FitsNetwork n told) (sym ran.network) ran.fits in
    let other : 0 ≢ 5 = omega arith in
    let whole = was_done c.print.result 0 c.status_of.result c.status_of.ensures.failed other zero in
    subst (λ n. Gains (held c.args.sink.now) (held c.print.new.sink) (report_text n told journal false None)) ran.network (c.print.ensures.done told ran.tells fits whole)

pub returns-in-Ok-clause-part : goal.returns-in-Ok-clause-part
returns-in-Ok-clause-part g c = λ five.
    let held = g.K.Sink.held in
    let journal = c.run.new.journal.entries in
    let told = run_results (solo_network c.args.script) journal in
    let ran = c.in-Ok.ensures in
    let fits = subst (λ n. FitsNetwork n told) (sym ran.network) ran.fits in
    let other : 0 ≢ 5 = omega arith in
    let broken = was_failed c.print.result 0 c.status_of.result c.status_of.ensures.done other five in
    subst (λ n. GainsPart (held c.args.sink.now) (held c.print.new.sink) (report_text n told journal false None)) ran.network (c.print.ensures.part told ran.tells fits broken)
