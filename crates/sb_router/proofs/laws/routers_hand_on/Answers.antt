-- routers_hand_on: by what holds of the words of a direction, and of its ports.
use Rattle.std.proofs.Common.{◌∙◌}
use Rattle.std.proofs.lemmas.List.Elements.{All-get_or}
use Rattle.sb_router.specs.Lanes.{no_port}
use Rattle.sb_router.specs.Forwarding.{IsWholeOutlet}
use Rattle.sb_router.proofs.Forwards.{has_forwarded}
use Rattle.sb_router.proofs.laws.routers_hand_on.Goals as goal

pub returns-clause-forwarded : goal.returns-clause-forwarded
returns-clause-forwarded c = λ words d f i o h passes. has_forwarded h.forwards f i o passes

pub returns-clause-closed : goal.returns-clause-closed
returns-clause-closed c = λ d o whole lt closed.
    let fit = (All-get_or IsWholeOutlet d.lane.outlets o no_port lt whole.outlets).fit in whole.silent o lt (fit.told (fit.close ∙ closed))
