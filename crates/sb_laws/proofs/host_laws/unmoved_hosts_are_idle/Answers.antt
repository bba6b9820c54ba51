-- A host that didn't move is idle at its two rings.
use Rattle.sb_laws.proofs.HostSides.{unmoved_receives, unmoved_sends}
use Rattle.sb_laws.proofs.host_laws.unmoved_hosts_are_idle.Goals as goal

pub returns-clause-sender : goal.returns-clause-sender
returns-clause-sender c = λ stages s before after round answer whole turn still shows waits leaves. unmoved_sends stages s before after round answer whole turn still shows waits leaves

pub returns-clause-receiver : goal.returns-clause-receiver
returns-clause-receiver c = λ stages s before after round answer whole turn still got holds none. unmoved_receives stages s before after round answer whole turn still got holds none
