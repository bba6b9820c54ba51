-- The words so far.
use Rattle.std.proofs.Common.{◌≡◌, take}
use Rattle.sb_flow.specs.Gathered.{host_words_on}
use Rattle.sb_flow.proofs.gather.host_words.Given as goal

abbrev pub invariant-loop-flow : goal.invariant-loop-flow
invariant-loop-flow l = l.words ≡ host_words_on l.link l.up (take l.flow-index l.flows)
