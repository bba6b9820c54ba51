-- A whole host keeps a host's promise.
use Rattle.sb_laws.proofs.HostSides.{asked_script, host_promise}
use Rattle.sb_laws.proofs.host_laws.hosts_keep_their_promise.Goals as goal

pub returns-clause-script : goal.returns-clause-script
returns-clause-script c = λ network host scripts pages listed. asked_script network host scripts pages listed

pub returns-clause-promise : goal.returns-clause-promise
returns-clause-promise c = λ network layout m host h scripts pages of whole has. host_promise c.hosts_offer_their_scripts.ensures.in_order c.hosts_offer_their_scripts.ensures.closed network layout m host h scripts pages of whole has
