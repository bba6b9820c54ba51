-- Rounds in which a node moves are few.
use Rattle.std.proofs.Common.{subst}
use Rattle.sb_net.specs.Running.{AreNetTurns}
use Rattle.sb_net.proofs.SpendingBounds.{moves_are_small, spent_within}
use Rattle.sb_net.proofs.SpendingMeetings.{meetings_do_nothing}
use Rattle.sb_net.proofs.SpendingRounds.{round_adds, turned}
use Rattle.sb_net.proofs.spending_laws.moving_nets_end.Goals as goal

pub returns-clause-turned : goal.returns-clause-turned
returns-clause-turned g c = λ network joints before after round moved stands went. turned network joints before after round stands moved went

pub returns-clause-moved : goal.returns-clause-moved
returns-clause-moved g c = λ network joints before after round moved stands went is.
    round_adds network joints before after round stands (subst (λ b. AreNetTurns round before after b) is went)

pub returns-clause-met : goal.returns-clause-met
returns-clause-met g c = λ network joints before after stands met. meetings_do_nothing joints before after stands.joined met

pub returns-clause-bounded : goal.returns-clause-bounded
returns-clause-bounded g c = λ network joints nodes stands linked. spent_within network joints nodes stands linked

pub returns-clause-small : goal.returns-clause-small
returns-clause-small g c = λ network accepted. moves_are_small network accepted
