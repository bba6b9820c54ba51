-- The one that took the slot before has its row, which says whether it misses a word.
use Rattle.std.proofs.Common.{◌≡◌, ◌<◌, List, length, true, false, Some, None, sym, ap, ◌∙◌, arith}
use Rattle.sb_host.specs.declared.transaction_plan.TransactionPlan.{TransactionPlan}
use Rattle.sb_host.specs.Progress.{TransactionsSide}
use Rattle.sb_host.specs.Places.{asked_of}
use Rattle.sb_host.specs.Windows.{slot_before, takes_slot_at, window_wait}
use Rattle.sb_host.proofs.Slots.{before_inside, takes_by_line}
use Rattle.sb_host.proofs.Waits.{misses_by_row, missing_none, missing_some, waits_by_slot}
use Rattle.sb_host.proofs.transactions.Transactions.waits_for.Goals as goal

pub index-requires : goal.index-requires
index-requires c =
    let lines = c.self.inside.script_plan.lines.items in
    let inside : c.in_ok-before.before < length lines =
    before_inside lines c.self.inside.cursor.next c.in_ok-before.before (c.in_ok-before.ensures.before lines c.self.inside.cursor.next c.self.invariant.1) in
    let rows = c.self.invariant.0 in
    omega (arith, inside, rows)

pub overflow_cast-result : goal.overflow_cast-result
overflow_cast-result c =
    let lines = c.self.inside.script_plan.lines.items in
    let inside : c.in_ok-before.before < length lines =
    before_inside lines c.self.inside.cursor.next c.in_ok-before.before (c.in_ok-before.ensures.before lines c.self.inside.cursor.next c.self.invariant.1) in
    let few = c.self.inside.script_plan.few in
    omega (arith, inside, few)

pub returns-then-index-eq0 : goal.returns-then-index-eq0
returns-then-index-eq0 c =
    let lines = c.self.inside.script_plan.lines.items in
    let rows = c.self.inside.table.rows.items in
    let next = c.self.inside.cursor.next in
    let i = c.in_ok-before.before in
    let before : slot_before lines next ≡ Some i = c.in_ok-before.ensures.before lines next c.self.invariant.1 in
    let inside : i < length rows = let within = before_inside lines next i before in let all = c.self.invariant.0 in omega (arith, within, all) in
    let takes : takes_slot_at lines next ≡ true =
    ap (λ (l : List TransactionPlan). takes_slot_at l next) (sym c.deref.ensures.value)
    ∙ takes_by_line c.deref.result.now next c.in_ok-line.line.now c.in_ok-line.ensures.lookup.3.0 c.in_ok-line.ensures.lookup.1
    ∙ sym c.takes_slot.ensures.takes ∙ c.if-not-takes_slot.false in
    let t : TransactionsSide = record { asked = asked_of c.self.inside.script_plan; rows = rows; next = next; part = c.self.inside.cursor.part; ended = c.self.inside.ended } in
    let first : t.part ≡ 0 = let least = c.if-self-gt0.false in omega (arith, least) in
    let waits : window_wait t ≡ None =
    waits_by_slot t i false first takes before (misses_by_row rows i c.index.result.now inside c.index.ensures ∙ missing_none c.index.result.now.missing c.if-index-eq0.true) in
    record { waits = sym waits ∙ ap window_wait c.self.view_is }

pub returns-else-index-eq0 : goal.returns-else-index-eq0
returns-else-index-eq0 c =
    let lines = c.self.inside.script_plan.lines.items in
    let rows = c.self.inside.table.rows.items in
    let next = c.self.inside.cursor.next in
    let i = c.in_ok-before.before in
    let before : slot_before lines next ≡ Some i = c.in_ok-before.ensures.before lines next c.self.invariant.1 in
    let inside : i < length rows = let within = before_inside lines next i before in let all = c.self.invariant.0 in omega (arith, within, all) in
    let takes : takes_slot_at lines next ≡ true =
    ap (λ (l : List TransactionPlan). takes_slot_at l next) (sym c.deref.ensures.value)
    ∙ takes_by_line c.deref.result.now next c.in_ok-line.line.now c.in_ok-line.ensures.lookup.3.0 c.in_ok-line.ensures.lookup.1
    ∙ sym c.takes_slot.ensures.takes ∙ c.if-not-takes_slot.false in
    let t : TransactionsSide = record { asked = asked_of c.self.inside.script_plan; rows = rows; next = next; part = c.self.inside.cursor.part; ended = c.self.inside.ended } in
    let first : t.part ≡ 0 = let least = c.if-self-gt0.false in omega (arith, least) in
    let waits : window_wait t ≡ Some i =
    waits_by_slot t i true first takes before (misses_by_row rows i c.index.result.now inside c.index.ensures ∙ missing_some c.index.result.now.missing c.if-index-eq0.false) in
    record { waits = sym waits ∙ ap window_wait c.self.view_is }
