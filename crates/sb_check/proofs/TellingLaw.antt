-- What is gathered of a bundle's lawful journal tells what that comes to.
use Rattle.std.proofs.Common.{List}
use Rattle.sb_packet.specs.Journals.{IsLawful}
use Rattle.sb_packet.specs.Answers.{run_results}
use Rattle.sb_packet.specs.declared.entry.Entry.{Entry}
use Rattle.sb_flow.specs.NetworkOf.{network_of}
use Rattle.sb_flow.specs.declared.bundle.Bundle.{Bundle}
use Rattle.sb_flow.proofs.Bundles.{accepted}
use Rattle.sb_text.specs.Telling.{Tells}
use Rattle.sb_check.specs.Gathering.{Gathers}
use Rattle.sb_check.specs.contracts.gathered.GatheredResults.TheImpl as results_gathered
use Rattle.sb_check.specs.declared.gathered.Gathered.{Gathered}
use Rattle.sb_check.proofs.GatheredResults.{gathered_tells}

pub tells_gathered : (b : Bundle) (journal : List Entry) (g : Gathered) → Gathers (network_of b) journal g → IsLawful (network_of b) journal → Tells results_gathered.ghosts g (network_of b) (run_results (network_of b) journal)
tells_gathered b journal g gathers lawful =
    let told = gathered_tells (network_of b) journal g (accepted b) gathers lawful in
    record { tells = told.0; fits = told.1 }
