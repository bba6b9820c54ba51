-- One row more, and in the end a row for each transaction, none of whose words is answered.
use Rattle.std.proofs.Common.{◌≡◌, ◌<◌, arith, ap, ◌∙◌, length, List, [], ◌∷◌, ◌++◌}
use Rattle.std.proofs.lemmas.List.{length-append}
use Rattle.std.proofs.Math.ListN.{get_or}
use Rattle.sb_host.specs.declared.transaction_plan.TransactionPlan.{TransactionPlan}
use Rattle.sb_host.specs.Places.{asked_of}
use Rattle.sb_host.proofs.NewTable.{rows_more, empty_table}
use Rattle.sb_host.proofs.transaction_table.TransactionTable.new.Goals as goal

pub loop-line-preserved : goal.loop-line-preserved
loop-line-preserved c =
    let lines = c.args.script_plan.now.lines.items in
    let n = c.loop-line.line-index in
    let row = c.in_ok-empty_row.field-0 in
    let same = c.deref-line-items.ensures.value in
    let joined : c.push.new.self.items ≡ c.loop-line.rows.items ++ row ∷ [] = rw c.in_ok-push.was at c.push.ensures.items in
    let at : c.line-item.result ≡ get_or lines n c.line-item.result = c.line-item.is ∙ ap (λ (list : List TransactionPlan). get_or list n c.line-item.result) same in
    let inside : n < length lines = let test = c.loop-line-test.true in let long = ap length same in omega (arith, test, long) in
    record {
      rows = let long = c.loop-line.invariant.rows in ap length joined ∙ length-append c.loop-line.rows.items (row ∷ []) ∙ omega (arith, long);
      each = rows_more lines c.loop-line.rows.items c.push.new.self.items n row c.line-item.result c.loop-line.invariant.rows joined inside at c.in_ok-empty_row.ensures.row c.loop-line.invariant.each;
    }

pub returns : goal.returns
returns c =
    let asked = asked_of c.args.script_plan.now in
    let all : c.loop-line.line-index ≡ length asked.lines =
    let past = c.loop-line-test.false in let within = c.loop-line.auto.line-index-end in let long = ap length c.deref-line-items.ensures.value in omega (arith, past, within, long) in
    record { empty = empty_table asked c.loop-line.rows.items (c.loop-line.invariant.rows ∙ all) (λ i d r below. c.loop-line.invariant.each i d r (omega (arith, below, all))) }
