-- The word that it misses is of one of its flows.
use Rattle.sb_laws.proofs.MissedAnswers.{waiting_misses_there}
use Rattle.sb_laws.proofs.host_laws.waiting_hosts_miss_answers_of_their_flows.Goals as goal

pub returns : goal.returns
returns c = record {
  misses = λ network layout m host h laid pages of whole port ring waits.
      waiting_misses_there c.hosts_offer_their_scripts.ensures.in_order c.waiting_hosts_miss_answers.ensures.missed network layout m host h laid pages of whole port ring waits;
}
