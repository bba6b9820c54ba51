-- One transaction more is counted; and all are those of the four hosts.
use Rattle.std.proofs.Common.{◌≡◌, ℕ, ◌+◌, ◌*◌, ◌^◌, ◌∙◌, ap, arith, sym}
use Rattle.std.specs.Prelude.{sum_by}
use Rattle.std.proofs.lemmas.List.Sums.{sum_by_push}
use Rattle.sb_packet.specs.declared.transaction.Txn.{Txn}
use Rattle.sb_gen.specs.Congruence.{state_after}
use Rattle.sb_gen.specs.Drawn.{draws_of, drawn_count, drawn_span}
use Rattle.sb_gen.specs.Generated.{gen_transaction, gen_transactions}
use Rattle.sb_gen.specs.declared.draws.Draws.{Draws}
use Rattle.sb_gen.proofs.States.{no_draw, state_after_more}
use Rattle.sb_gen.proofs.TransactionLists.{draws_behind, no_transactions, sum_of_hosts, transactions_more}
use Rattle.sb_gen.proofs.totals.gen_totals.Goals as goal

-- a sum over the transactions so far, and one more
one_more : (f : Txn → ℕ) (number i before this : ℕ) → before ≡ sum_by f (gen_transactions number 0 i) → this ≡ f (gen_transaction number i) → before + this ≡ sum_by f (gen_transactions number 0 (i + 1))
one_more f number i before this so_far one =
    let all = ap (sum_by f) (transactions_more number 0 i i (omega arith)) ∙ sum_by_push f (gen_transactions number 0 i) (gen_transaction number i) in
    omega (arith, all, so_far, one)

none_yet : (f : Txn → ℕ) (number : ℕ) → 0 ≡ sum_by f (gen_transactions number 0 0)
none_yet f number = sym (ap (sum_by f) (no_transactions number 0))

pub loop-transaction-init : goal.loop-transaction-init
loop-transaction-init c =
    let number = c.args.number in
    record {
      state = c.new-generator.ensures ∙ sym (no_draw number);
      words = none_yet (λ t. t.count) number;
      bytes = none_yet (λ t. t.count * 2 ^ t.size) number;
      few_words = omega arith;
      few_bytes = omega arith;
    }

pub loop-transaction-preserved : goal.loop-transaction-preserved
loop-transaction-preserved c =
    let number = c.args.number in
    let i = c.loop-transaction._transaction in
    let at = c.loop-transaction.invariant.state in
    let next : 6 * i + 6 ≡ 6 * (i + 1) = omega arith in
    let draws = c.draws-draws.ensures.values ∙ ap (λ (s : ℕ). draws_of s 0) at ∙ draws_behind number i 0 i (omega arith) in
    record {
      state = c.draws-draws.ensures.state ∙ ap (λ (s : ℕ). state_after s 6) at ∙ state_after_more number (6 * i) 6 ∙ ap (state_after number) next;
      words = one_more (λ t. t.count) number i _ _ c.loop-transaction.invariant.words (c.drawn_count-words.ensures.count ∙ ap (λ (d : Draws). drawn_count d) draws);
      bytes = one_more (λ t. t.count * 2 ^ t.size) number i _ _ c.loop-transaction.invariant.bytes (c.drawn_span-bytes.ensures.span ∙ ap (λ (d : Draws). drawn_span d) draws);
      few_words = omega arith;
      few_bytes = omega arith;
    }

pub returns-clause-words : goal.returns-clause-words
returns-clause-words c =
    let end : c.loop-transaction._transaction ≡ 8192 = omega arith in
    c.loop-transaction.invariant.words ∙ ap (λ (i : ℕ). sum_by (λ t. t.count) (gen_transactions c.args.number 0 i)) end ∙ sum_of_hosts (λ t. t.count) c.args.number

pub returns-clause-bytes : goal.returns-clause-bytes
returns-clause-bytes c =
    let end : c.loop-transaction._transaction ≡ 8192 = omega arith in
    c.loop-transaction.invariant.bytes ∙ ap (λ (i : ℕ). sum_by (λ t. t.count * 2 ^ t.size) (gen_transactions c.args.number 0 i)) end ∙ sum_of_hosts (λ t. t.count * 2 ^ t.size) c.args.number
