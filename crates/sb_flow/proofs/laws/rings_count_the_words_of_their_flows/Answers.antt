-- By the words of a link's table.
use Rattle.sb_flow.proofs.FlowWords.{flow_transactions}
use Rattle.sb_flow.proofs.RingLaws.{budget_bounded, counted_same}
use Rattle.sb_flow.proofs.laws.rings_count_the_words_of_their_flows.Goals as goal

pub returns : goal.returns
returns c = record {
  bounded = budget_bounded;
  same = counted_same;
  transactions = λ network host d good lines. flow_transactions network host d good.placed lines;
}
