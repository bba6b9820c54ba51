-- A bundle keeps all that is asked of a network.
use Rattle.sb_flow.proofs.Bundles.{accepted}
use Rattle.sb_flow.proofs.laws.bundles_are_accepted.Goals as goal

pub returns : goal.returns
returns c = record { accepted = accepted }
