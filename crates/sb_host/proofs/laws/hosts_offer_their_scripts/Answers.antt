-- What was offered and what is left are all words, and behind the last transaction nothing is left.
use Rattle.sb_host.proofs.Offering.{closes_behind_all, offers_all, offers_in_order, passes_next}
use Rattle.sb_host.proofs.laws.hosts_offer_their_scripts.Goals as goal

pub returns-clause-in_order : goal.returns-clause-in_order
returns-clause-in_order c = offers_in_order

pub returns-clause-told : goal.returns-clause-told
returns-clause-told c = offers_all

pub returns-clause-closed : goal.returns-clause-closed
returns-clause-closed c = closes_behind_all

pub returns-clause-passes : goal.returns-clause-passes
returns-clause-passes c = passes_next
