-- The word that was found last is replaced by the wanted one.
use Rattle.std.proofs.Common.{ℕ, List, ap, ◌∙◌}
use Rattle.std.specs.Prelude.{Option}
use Rattle.atomic_table.specs.Table.{Me}
use Rattle.sb_packet.specs.declared.item.Item.{Item}
use Rattle.sb_link.specs.declared.plan.LinkPlan.{LinkPlan}
use Rattle.sb_ring.specs.Plays.{with_last, with_part}
use Rattle.sb_ring.specs.declared.view.View.{View}
use Rattle.sb_ring.proofs.Prefixes.{with_last-snoc}
use Rattle.sb_ring.proofs.producer.put_word.Goals as goal

pub returns-then-find_word-word-clause-stored : goal.returns-then-find_word-word-clause-stored
returns-then-find_word-word-clause-stored c = let me = c.args.seat.now.me in let word = c.args.word in
    c.replace_word.ensures.replaced
    ∙ ap (λ (m : Me ℕ (View (Option LinkPlan) Item)). (with_part m.0 (with_last m.0.part word), m.1)) c.find_word.ensures.found
    ∙ ap (λ (part : List ℕ). (with_part me.0 part, me.1)) (with_last-snoc me.0.part c.find_word.result word)
