use Rattle.std.proofs.Common.{arith}
use Rattle.sb_router.proofs.Stillness.{still_steps}
use Rattle.sb_router.proofs.laws.unmoved_directions_are_still.Goals as goal

pub returns : goal.returns
returns c = record { still = λ before after kept same. still_steps kept.steps (omega (arith, same)) }
