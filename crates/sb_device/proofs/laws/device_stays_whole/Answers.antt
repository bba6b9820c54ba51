-- What the ends keep is put into the records.
use Rattle.sb_device.proofs.Meetings.{whole_with_ring, whole_with_port, serves_with_ring, serves_with_port}
use Rattle.sb_device.proofs.laws.device_stays_whole.Goals as goal

pub returns-clause-ring : goal.returns-clause-ring
returns-clause-ring c = whole_with_ring

pub returns-clause-port : goal.returns-clause-port
returns-clause-port c = whole_with_port

pub returns-clause-ring_serves : goal.returns-clause-ring_serves
returns-clause-ring_serves c = serves_with_ring

pub returns-clause-port_serves : goal.returns-clause-port_serves
returns-clause-port_serves c = serves_with_port
