-- What is done at a ring is within its budget.
use Rattle.sb_laws.proofs.PortSides.{moves_are_few, received_are_few}
use Rattle.sb_laws.proofs.side_laws.moves_are_within_budgets.Goals as goal

pub returns-clause-port : goal.returns-clause-port
returns-clause-port c = λ port fit turn. moves_are_few port.plan port.state fit turn

pub returns-clause-ring : goal.returns-clause-ring
returns-clause-ring c = λ ring turn. received_are_few ring.plan ring.received turn
