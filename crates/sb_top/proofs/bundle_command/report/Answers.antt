-- The report that is printed is that of the run's own journal.
use Rattle.std.proofs.Common.{◌≢◌, arith, refl}
use Rattle.sb_flow.specs.NetworkOf.{network_of}
use Rattle.sb_packet.specs.Answers.{run_results}
use Rattle.sb_top.proofs.StatusLemmas.{was_done}
use Rattle.sb_top.proofs.bundle_command.report.Goals as goal

pub returns-in-Ok-clause-done : goal.returns-in-Ok-clause-done
returns-in-Ok-clause-done g c = λ zero.
    let network = network_of c.args.bundle.now in
    let journal = c.run_bundle.new.journal.entries in
    let told = run_results network journal in
    let run = c.in-Ok.ensures.run in
    let other : 0 ≢ 5 = omega arith in
    c.print.ensures.done told (network, journal, run.tells, refl) run.fits (was_done c.print.result 0 c.status_of.result c.status_of.ensures.failed other zero)
