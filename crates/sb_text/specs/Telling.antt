-- Results that tell what is printed of a network.
use Rattle.sb_packet.specs.Networks.{Network}
use Rattle.sb_packet.specs.Answers.{RunResults}
use Rattle.sb_text.specs.Told.{FitsNetwork}
use Rattle.sb_text.specs.declared.results.Results as results_of

-- they tell it, and it is of the network's size
pub record Tells {R : Type 0} (ghosts : results_of.Ghosts R) (results : R) (network : Network) (told : RunResults) : Type 0 where
  pub tells : ghosts.tells results told
  pub fits : FitsNetwork network told
