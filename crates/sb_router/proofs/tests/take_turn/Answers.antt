-- Turns keep the ports at their places.
use Rattle.sb_router.proofs.EndPlaces.{port_count, ports_kept}
use Rattle.sb_router.proofs.tests.take_turn.Goals as goal

pub returns-clause-within : goal.returns-clause-within
returns-clause-within g c = port_count c.args.router.now c.turn.new.self c.turn.ensures.reached

pub returns-clause-mark : goal.returns-clause-mark
returns-clause-mark g c = (ports_kept c.args.router.now c.turn.new.self c.turn.ensures.reached c.args.place).mark
