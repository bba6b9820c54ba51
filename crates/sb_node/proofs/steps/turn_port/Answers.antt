-- A port that moved was served.
use Rattle.sb_node.proofs.Serving.{moved_is_served}
use Rattle.sb_node.proofs.steps.turn_port.Goals as goal

pub returns-in-Moved-clause-served : goal.returns-in-Moved-clause-served
returns-in-Moved-clause-served g c = moved_is_served c.args.more c.args.port.now c.turn.new.self c.in-Moved.ensures.plan c.in-Moved.ensures.turned
