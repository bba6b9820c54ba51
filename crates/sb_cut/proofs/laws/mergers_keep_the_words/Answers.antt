-- One message after another: a step keeps the words, and what stays true of merges.
use Rattle.std.proofs.Common.{◌∙◌, sym}
use Rattle.std.proofs.lemmas.Grind.{flat_map-append}
use Rattle.std.proofs.lemmas.List.Elements.{All-append}
use Rattle.sb_packet.specs.Accesses.{message_accesses}
use Rattle.sb_packet.specs.Cuts.{IsFine}
use Rattle.sb_cut.specs.Folds.{fold_all, listed}
use Rattle.sb_cut.proofs.Mergeable.{mergeable_says}
use Rattle.sb_cut.proofs.MergedSound.{fine_merge}
use Rattle.sb_cut.proofs.FoldLaws.{all_hold, fold_keeps_words, held_as_one}
use Rattle.sb_cut.proofs.laws.mergers_keep_the_words.Goals as goal

pub returns-clause-words : goal.returns-clause-words
returns-clause-words c = λ width held list whole all.
    flat_map-append message_accesses (fold_all width held list).out (listed (fold_all width held list).held)
    ∙ fold_keeps_words width held list whole all
    ∙ sym (flat_map-append message_accesses (listed held) list)

pub returns-clause-fine : goal.returns-clause-fine
returns-clause-fine c = λ width held list before all.
    let holds = all_hold (IsFine width) width (λ a b can first second. fine_merge width a b (mergeable_says width a b can) first second) held list before all in
    All-append (IsFine width) (fold_all width held list).out (listed (fold_all width held list).held) holds.out holds.held

pub returns-clause-held_as_one : goal.returns-clause-held_as_one
returns-clause-held_as_one c = λ width a b can. held_as_one width a b can
