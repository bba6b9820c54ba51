-- What was offered and let go is what was sent and what waits.
use Rattle.sb_host.proofs.Still.{let_go_same, offered_same}
use Rattle.sb_host.proofs.laws.unmoved_hosts_are_still.Goals as goal

pub returns-clause-offered : goal.returns-clause-offered
returns-clause-offered c = λ before after rests. offered_same before.requests after.requests rests.requests

pub returns-clause-let_go : goal.returns-clause-let_go
returns-clause-let_go c = λ before after rests. let_go_same before.requests after.requests rests.requests
