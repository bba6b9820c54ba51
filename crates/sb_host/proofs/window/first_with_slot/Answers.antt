-- The line says whether its transaction takes a slot.
use Rattle.std.proofs.Common.{◌≡◌, ◌<◌, length, false, sym, ◌∙◌, arith}
use Rattle.sb_host.specs.Windows.{takes_slot_at}
use Rattle.sb_host.proofs.Slots.{slots_same, takes_by_line}
use Rattle.sb_host.proofs.window.first_with_slot.Goals as goal

pub loop-place-preserved : goal.loop-place-preserved
loop-place-preserved c =
    let lines = c.args.script_plan.now.lines.items in
    let before = c.loop-place-test.true in
    let all = c.requires.next in
    let below : c.loop-place.place < length lines = omega (arith, before, all) in
    let none : takes_slot_at lines c.loop-place.place ≡ false =
    takes_by_line lines c.loop-place.place c.index.result.now below c.index.ensures ∙ sym c.takes_slot.ensures.takes ∙ c.if-not-takes_slot.true in
    record {
      within = omega (arith, before);
      same = slots_same lines c.loop-place.place none ∙ c.loop-place.invariant.same;
    }

pub returns-else-not-takes_slot-clause-takes : goal.returns-else-not-takes_slot-clause-takes
returns-else-not-takes_slot-clause-takes c =
    let lines = c.args.script_plan.now.lines.items in
    let before = c.loop-place-test.true in
    let all = c.requires.next in
    let below : c.loop-place.place < length lines = omega (arith, before, all) in
    takes_by_line lines c.loop-place.place c.index.result.now below c.index.ensures ∙ sym c.takes_slot.ensures.takes ∙ c.if-not-takes_slot.false
