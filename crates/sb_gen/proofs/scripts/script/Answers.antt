-- One transaction more.
use Rattle.std.proofs.Common.{◌≡◌, ℕ, ◌+◌, ◌*◌, ◌∙◌, ap, arith, sym}
use Rattle.sb_gen.specs.Congruence.{state_after}
use Rattle.sb_gen.specs.Drawn.{draws_of, drawn_transaction}
use Rattle.sb_gen.specs.declared.draws.Draws.{Draws}
use Rattle.sb_gen.proofs.States.{no_draw, state_after_more}
use Rattle.sb_gen.proofs.TransactionLists.{draws_behind, no_transactions, transactions_more}
use Rattle.sb_gen.proofs.scripts.script.Goals as goal

pub loop-line-init : goal.loop-line-init
loop-line-init c =
    let x = c.args.generator.now.state in
    record {
      transactions = c.in_ok-txns.ensures.items ∙ sym (no_transactions x 0);
      state = sym (no_draw x);
      count = c.in_ok-txns.ensures.len;
      room = c.in_ok-txns.ensures.exact;
    }

pub loop-line-preserved : goal.loop-line-preserved
loop-line-preserved c =
    let x = c.args.generator.now.state in
    let i = c.loop-line._line in
    let at = c.loop-line.invariant.state in
    let state = c.draws.ensures.state ∙ ap (λ (s : ℕ). state_after s 6) at ∙ state_after_more x (6 * i) 6 in
    let draws = c.draws.ensures.values ∙ ap (λ (s : ℕ). draws_of s 0) at ∙ draws_behind x i 0 i (omega arith) in
    let txn = c.in_ok-txn.ensures ∙ ap (λ (d : Draws). drawn_transaction d) draws in
    let more = transactions_more x 0 i i (omega arith) in
    let next : 6 * i + 6 ≡ 6 * (i + 1) = omega arith in
    record {
      transactions = cc;
      state = state ∙ ap (state_after x) next;
      count = omega arith;
      room = c.push_reserved.ensures.capacity ∙ c.loop-line.invariant.room;
    }
