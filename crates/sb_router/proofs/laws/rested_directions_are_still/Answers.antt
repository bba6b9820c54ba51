use Rattle.sb_router.proofs.Stillness.{rested_still}
use Rattle.sb_router.proofs.laws.rested_directions_are_still.Goals as goal

pub returns : goal.returns
returns c = record { still = λ before after rested. rested_still rested.lane }
