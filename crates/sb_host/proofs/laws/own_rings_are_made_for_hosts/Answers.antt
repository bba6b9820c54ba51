-- The ring has all flows of the host, and the budget of their words.
use Rattle.sb_host.proofs.OwnRings.{own_ring_made, own_ring_wide}
use Rattle.sb_host.proofs.laws.own_rings_are_made_for_hosts.Goals as goal

pub returns-clause-made : goal.returns-clause-made
returns-clause-made c = own_ring_made

pub returns-clause-wide : goal.returns-clause-wide
returns-clause-wide c = own_ring_wide
