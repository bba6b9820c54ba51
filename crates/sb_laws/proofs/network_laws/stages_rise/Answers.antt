-- The stages of a network rise along its rings.
use Rattle.sb_laws.proofs.WaysOfRouted.{ways_of_routed}
use Rattle.sb_laws.proofs.RisingStages.{stages_rise, ways_within}
use Rattle.sb_laws.proofs.network_laws.stages_rise.Goals as goal

pub returns-clause-rises : goal.returns-clause-rises
returns-clause-rises c = λ network ring routed. stages_rise network routed ring

pub returns-clause-within : goal.returns-clause-within
returns-clause-within c = λ network routed. ways_within network (ways_of_routed network routed)
