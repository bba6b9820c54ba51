-- A host that did nothing is idle at its two rings.
use Rattle.sb_laws.proofs.HostSides.{idle_host_receives, idle_host_sends}
use Rattle.sb_laws.proofs.host_laws.idle_hosts_are_idle.Goals as goal

pub returns-clause-sender : goal.returns-clause-sender
returns-clause-sender c = λ stages s r t port ring shows waits leaves fit idle. idle_host_sends stages s r t port ring shows waits leaves fit idle

pub returns-clause-receiver : goal.returns-clause-receiver
returns-clause-receiver c = λ stages s r t port ring got holds none idle. idle_host_receives stages s r t port ring got holds none idle
