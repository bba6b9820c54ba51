-- Each flow's host keeps its promise.
use Rattle.sb_laws.proofs.HostsInNetworks.{all_promises}
use Rattle.sb_laws.proofs.host_laws.hosts_keep_promises_for_all_flows.Goals as goal

pub returns : goal.returns
returns c = record { promises = λ network m host routed stand. all_promises network routed c.hosts_offer_their_scripts.ensures.in_order c.hosts_offer_their_scripts.ensures.closed m host stand }
