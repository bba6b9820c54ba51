-- A true test says in which fields two messages agree; from that all else follows.
use Rattle.sb_cut.proofs.Mergeable.{mergeable_says}
use Rattle.sb_cut.proofs.MergedWords.{words_of_merge, merge_is_narrow}
use Rattle.sb_cut.proofs.MergedSound.{fine_merge}
use Rattle.sb_cut.proofs.laws.merges_are_fine.Goals as goal

pub returns-clause-words : goal.returns-clause-words
returns-clause-words c = λ width a b can first second. words_of_merge width a b (mergeable_says width a b can) first second

pub returns-clause-fine : goal.returns-clause-fine
returns-clause-fine c = λ width a b can first second. fine_merge width a b (mergeable_says width a b can) first second

pub returns-clause-narrow : goal.returns-clause-narrow
returns-clause-narrow c = λ width a b can. merge_is_narrow width a b (mergeable_says width a b can)
