-- The transaction for which it waits was offered, and its row misses a word.
use Rattle.sb_host.proofs.Missing.{waiting_misses}
use Rattle.sb_host.proofs.laws.waiting_hosts_miss_answers.Goals as goal

pub returns : goal.returns
returns c = record { missed = waiting_misses }
