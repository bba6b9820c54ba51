-- Ids differ, so one way is left.
use Rattle.sb_flow.proofs.RingLaws.{links_of_ways}
use Rattle.sb_flow.proofs.laws.flows_have_one_way.Goals as goal

pub returns : goal.returns
returns c = record { links = links_of_ways }
