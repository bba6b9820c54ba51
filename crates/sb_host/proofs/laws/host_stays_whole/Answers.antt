-- The records are put together anew.
use Rattle.sb_host.proofs.StillWhole.{whole_at_port, whole_at_ring}
use Rattle.sb_host.proofs.laws.host_stays_whole.Goals as goal

pub returns-clause-ring : goal.returns-clause-ring
returns-clause-ring c = whole_at_ring

pub returns-clause-port : goal.returns-clause-port
returns-clause-port c = whole_at_port
