-- What a host finds is what the journal says.
use Rattle.sb_laws.proofs.HostOutcomes.{outcomes_found}
use Rattle.sb_laws.proofs.HostSides.{table_of_ring}
use Rattle.sb_laws.proofs.host_laws.hosts_find_the_journals_outcomes.Goals as goal

pub returns-clause-outcomes : goal.returns-clause-outcomes
returns-clause-outcomes c = λ network layout journal m host h laid pages now ended of whole told got. outcomes_found network layout journal m host h laid pages now ended of whole told got

pub returns-clause-table : goal.returns-clause-table
returns-clause-table c = λ m h whole got. table_of_ring m h whole got
