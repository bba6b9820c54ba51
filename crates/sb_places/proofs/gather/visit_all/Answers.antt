-- The rule holds at the start, and says at the end that all values are there.
use Rattle.std.proofs.Common.{◌≡◌, ◌∙◌, length, sym, ap, subst, arith, get_or, replicate}
use Rattle.std.specs.Slots.{slots_items}
use Rattle.sb_places.specs.Hands.{all_parts}
use Rattle.sb_places.specs.Taken.{values_of}
use Rattle.sb_places.proofs.Steps.{opens_kept, closed_kept}
use Rattle.sb_places.proofs.gather.visit_all.Goals as goal

pub new-made-requires : goal.new-made-requires
new-made-requires g c = let long : c.len-count.result ≡ length c.args.values.items = omega (arith, c.len-count.ensures, c.args.values.ok.0) in
    opens_kept g.V.Visitor.keeps c.args.visitor.now c.deref.result.now c.args.values.items
    (c.deref.ensures.value ∙ c.in-Ok.ensures ∙ ap (λ n. replicate n 0) long) c.requires.kept

pub returns-in-Ok-made-clause-kept : goal.returns-in-Ok-made-clause-kept
returns-in-Ok-made-clause-kept g c k d lt = let o = c.in-Ok-made.ensures.ok in let i = c.spread-seat.ensures.idle in let t = c.take_all.ensures in
    let parts : c.spread-seat.result.me.0.parts ≡ all_parts = i.same_parts ∙ ap (λ m. m.0.parts) o.4 in
    let key = c.in-Ok-made.table.shared.key in
    let there = closed_kept g.V.Visitor.keeps key (slots_items c.close_with.result.words) (values_of c.close_with.result) c.spread-seat.result.id c.spread-seat.result.me.0
    c.close_with.ensures.values.2 i.idle parts k d (omega (arith, t.count, lt)) in
    subst (λ z. g.V.Visitor.keeps z k (get_or c.take_all.result.items k d)) o.5 (subst (λ z. g.V.Visitor.keeps key k z) (sym (t.same k d lt)) there)
