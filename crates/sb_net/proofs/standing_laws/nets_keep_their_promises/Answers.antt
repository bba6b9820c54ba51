-- Ring by ring and node by node.
use Rattle.sb_net.proofs.PromisesKept.{at_moment, has_entries}
use Rattle.sb_net.proofs.standing_laws.nets_keep_their_promises.Goals as goal

pub returns-clause-moment : goal.returns-clause-moment
returns-clause-moment g c = λ network joints nodes journal accepted stands linked recorded. at_moment network joints nodes journal accepted stands linked recorded

pub returns-clause-entries : goal.returns-clause-entries
returns-clause-entries g c = λ network joints nodes journal accepted stands linked recorded ordered. has_entries network joints nodes journal accepted stands linked recorded ordered
