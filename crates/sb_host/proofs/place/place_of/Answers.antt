-- Each test that fails leaves no place, and where all hold the place is the one.
use Rattle.std.proofs.Common.{◌≡◌, ◌≤◌, ◌%◌, ◌*◌, ◌^◌, ℕ, ◌+◌, ◌-◌, ◌<◌, length, ◌/◌, arith, sym, ap, ◌∙◌, true}
use Rattle.sb_packet.specs.Scripts.{request_of}
use Rattle.sb_host.specs.declared.transaction_plan.TransactionPlan.{TransactionPlan}
use Rattle.sb_host.specs.Outcomes.{is_answered_by}
use Rattle.sb_host.specs.Places.{IsPlace, asked_of}
use Rattle.sb_host.proofs.Placed.{place_told, place_found, same_at}
use Rattle.sb_host.proofs.place.place_of.Goals.{then-not-wanted-via-then-not-wanted, then-not-wanted-via-else-not-wanted+then-wanted-size, then-not-wanted-via-else-not-wanted+else-wanted-size+then-not-is_answer}
use Rattle.sb_host.proofs.place.place_of.Goals as goal

pub returns-then-line-len-clause-none : goal.returns-then-line-len-clause-none
returns-then-line-len-clause-none c i k l is =
    let told = place_told c.args.script_plan.now c.args.op c.args.size c.args.address i k l is in
    let from : c.in_ok-from.from ≡ c.args.address - c.args.script_plan.now.id * 2 ^ 40 = c.in_ok-from.ensures.1 ∙ ap (λ (n : ℕ). c.args.address - n) c.first_address.ensures.first in
    let line : i ≡ c.in_ok-from.from / 2048 = told.line ∙ ap (λ (n : ℕ). n / 2048) (sym from) in
    let outside = c.if-line-len.true in
    let inside = is.transaction in
    let all = c.len.ensures in
    omega (arith, line, outside, inside, all)

pub returns-then-not-wanted-clause-none : goal.returns-then-not-wanted-clause-none
returns-then-not-wanted-clause-none c i k l is =
    let told = place_told c.args.script_plan.now c.args.op c.args.size c.args.address i k l is in
    let from : c.in_ok-from.from ≡ c.args.address - c.args.script_plan.now.id * 2 ^ 40 = c.in_ok-from.ensures.1 ∙ ap (λ (n : ℕ). c.args.address - n) c.first_address.ensures.first in
    let line : i ≡ c.in_ok-from.from / 2048 = told.line ∙ ap (λ (n : ℕ). n / 2048) (sym from) in
    let same : l ≡ c.index-wanted.result.now = same_at c.args.script_plan.now.lines.items i (c.in_ok-from.from / 2048) l c.index-wanted.result.now line is.transaction is.at c.index-wanted.ensures in
    let aimed : c.index-wanted.result.now.aimed ≡ true = ap (λ (x : TransactionPlan). x.aimed) (sym same) ∙ is.aimed in
    let size : c.index-wanted.result.now.txn.size ≡ c.args.size = ap (λ (x : TransactionPlan). x.txn.size) (sym same) ∙ is.same_size in
    let opcode : is_answered_by (request_of c.index-wanted.result.now.txn.kind) c.args.op ≡ true = ap (λ (x : TransactionPlan). is_answered_by (request_of x.txn.kind) c.args.op) (sym same) ∙ is.opcode in
    elim c.then-not-wanted.branch [
      | then-not-wanted-via-then-not-wanted w ↦ let x = w.if-not-wanted.true in absurd (cc)
      | then-not-wanted-via-else-not-wanted+then-wanted-size w ↦ let y = w.if-wanted-size.true in absurd (y size)
      | then-not-wanted-via-else-not-wanted+else-wanted-size+then-not-is_answer w ↦ let z = w.is_answer.ensures.answer in let f = w.if-not-is_answer.true in absurd (cc)
    ]

pub returns-then-word-from-clause-none : goal.returns-then-word-from-clause-none
returns-then-word-from-clause-none c i k l is =
    let told = place_told c.args.script_plan.now c.args.op c.args.size c.args.address i k l is in
    let from : c.in_ok-from.from ≡ c.args.address - c.args.script_plan.now.id * 2 ^ 40 = c.in_ok-from.ensures.1 ∙ ap (λ (n : ℕ). c.args.address - n) c.first_address.ensures.first in
    let line : i ≡ c.in_ok-from.from / 2048 = told.line ∙ ap (λ (n : ℕ). n / 2048) (sym from) in
    let same : l ≡ c.index-wanted.result.now = same_at c.args.script_plan.now.lines.items i (c.in_ok-from.from / 2048) l c.index-wanted.result.now line is.transaction is.at c.index-wanted.ensures in
    let word : k ≡ c.in_ok-from.from % 2048 / 2 ^ c.args.size = told.word ∙ ap (λ (n : ℕ). n % 2048 / 2 ^ c.args.size) (sym from) in
    let count : l.txn.count ≡ c.from.result = ap (λ (x : TransactionPlan). x.txn.count) same ∙ sym c.from.ensures in
    let past = c.if-word-from.true in
    let below = is.word in
    omega (arith, word, count, past, below)

pub returns-clause-found : goal.returns-clause-found
returns-clause-found c =
    let lines = c.args.script_plan.now.lines.items in
    let i = c.in_ok-from.from / 2048 in
    let all = c.len.ensures in
    let some = c.if-line-len.false in
    let inside : i < length lines = omega (arith, all, some) in
    let from : c.in_ok-from.from ≡ c.args.address - c.args.script_plan.now.id * 2 ^ 40 = c.in_ok-from.ensures.1 ∙ ap (λ (n : ℕ). c.args.address - n) c.first_address.ensures.first in
    let low : c.args.script_plan.now.id * 2 ^ 40 ≤ c.args.address = let above = c.in_ok-from.ensures.0 in let first = c.first_address.ensures.first in omega (arith, above, first) in
    let place = place_found c.args.size c.args.script_plan.now.id c.args.address c.requires.size low c.requires.aligned in
    let is : IsPlace (asked_of c.args.script_plan.now) c.args.op c.args.size c.args.address i (c.in_ok-from.from % 2048 / 2 ^ c.args.size) c.index-wanted.result.now = record {
      at = c.index-wanted.ensures;
      transaction = inside;
      word = let count = c.from.ensures in let below = c.if-word-from.false in omega (arith, count, below);
      aimed = c.if-not-wanted.false;
      opcode = sym c.is_answer.ensures.answer ∙ c.if-not-is_answer.false;
      same_size = c.if-wanted-size.false;
      place = place ∙ ap (λ (n : ℕ). c.args.script_plan.now.id * 2 ^ 40 + n / 2048 * 2 ^ 11 + n % 2048 / 2 ^ c.args.size * 2 ^ c.args.size) (sym from);
    } in
    (c.index-wanted.result.now, is)
