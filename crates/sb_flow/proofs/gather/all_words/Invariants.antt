-- The words so far.
use Rattle.std.proofs.Common.{◌≡◌, take}
use Rattle.sb_flow.specs.Gathered.{all_words_on}
use Rattle.sb_flow.proofs.gather.all_words.Given as goal

abbrev pub invariant-loop-host : goal.invariant-loop-host
invariant-loop-host l = l.words ≡ all_words_on l.link l.up (take l.host-index l.hosts)
