-- A host that is built for its place belongs to its network.
use Rattle.sb_laws.proofs.HostSides.{stays_built}
use Rattle.sb_laws.proofs.HostsInNetworks.{belongs}
use Rattle.sb_laws.proofs.host_laws.built_hosts_belong_to_their_networks.Goals as goal

pub returns-clause-kept : goal.returns-clause-kept
returns-clause-kept c = λ network place round before after kept built. stays_built network place round before after kept built

pub returns-clause-belongs : goal.returns-clause-belongs
returns-clause-belongs c = λ network place host h routed at built. belongs network routed place host at h built
