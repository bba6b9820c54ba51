-- A word has at most 8 bytes.
use Rattle.std.proofs.Common.{◌≤◌, ◌*◌, ◌^◌, ℕ, zero, suc, arith}
use Rattle.sb_host.proofs.transaction_table.answer_width.Goals as goal

few_bytes : (size : ℕ) → size ≤ 3 → 1 * 2 ^ size ≤ 8
few_bytes zero h = omega arith
few_bytes (suc zero) h = omega arith
few_bytes (suc (suc zero)) h = omega arith
few_bytes (suc (suc (suc zero))) h = omega arith
few_bytes (suc (suc (suc (suc n)))) h = absurd (omega arith)

pub returns-in-Read-clause-few : goal.returns-in-Read-clause-few
returns-in-Read-clause-few c =
    let few = few_bytes c.args.line.now.txn.size c.requires.size in
    let span = c.words_span.ensures in
    omega (arith, few, span)
