-- direction_stays_whole: what is known of the ring or the port is as it was.
use Rattle.sb_router.proofs.Meetings.{port_forwards, port_whole, ring_forwards, ring_whole}
use Rattle.sb_router.proofs.laws.direction_stays_whole.Goals as goal

pub returns-clause-ring : goal.returns-clause-ring
returns-clause-ring c = λ d k ring lt is w. ring_whole d k ring lt is w

pub returns-clause-ring_forwards : goal.returns-clause-ring_forwards
returns-clause-ring_forwards c = λ words d k ring lt is h. ring_forwards d k ring lt is words h

pub returns-clause-port : goal.returns-clause-port
returns-clause-port c = λ d k port lt is w. port_whole d k port lt is w

pub returns-clause-port_forwards : goal.returns-clause-port_forwards
returns-clause-port_forwards c = λ words d k port lt is h. port_forwards d k port lt is words h
