-- A device that did nothing is idle at its two rings.
use Rattle.sb_laws.proofs.DeviceSides.{idle_receiver, idle_sender}
use Rattle.sb_laws.proofs.device_laws.idle_devices_are_idle.Goals as goal

pub returns-clause-receiver : goal.returns-clause-receiver
returns-clause-receiver c = λ stages s into back ring port got shows there stage holds none idle. idle_receiver stages s into back ring port got shows there stage holds none idle

pub returns-clause-sender : goal.returns-clause-sender
returns-clause-sender c = λ stages s into back ring port got shows there inside stage no_host fit closes idle. idle_sender stages s into back ring port got shows there inside stage no_host fit closes idle
