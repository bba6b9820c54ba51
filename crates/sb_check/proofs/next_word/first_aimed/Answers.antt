-- The transactions before the one that is found are aimed elsewhere, and that one isn't.
use Rattle.std.proofs.Common.{◌≡◌, ◌≤◌, ◌<◌, ℕ, ◌+◌, Bool, false, List, get_or, ap, sym, ◌∙◌, arith, inl, inr, Some}
use Rattle.std.specs.Prelude.{slice_get}
use Rattle.std.proofs.lemmas.Bool.{cases_lt}
use Rattle.std.proofs.lemmas.Option.{get_or_from_slice_get, slice_get_within}
use Rattle.sb_packet.specs.declared.transaction.Txn.{Txn}
use Rattle.sb_flow.specs.NetworkOf.{network_of}
use Rattle.sb_flow.specs.Ways.{is_aimed_at}
use Rattle.sb_check.proofs.next_word.first_aimed.Goals as goal

-- what is read at a place is what was found there
read_here : (script : List Txn) (n i : ℕ) (x t : Txn) → x ≡ get_or script n x → i ≡ n → slice_get script i ≡ Some t → x ≡ t
read_here script n i x t at here got = at ∙ ap (λ (k : ℕ). get_or script k x) (sym here) ∙ get_or_from_slice_get script i t x got

passed_more : (test : Txn → Bool) (script : List Txn) (from n : ℕ) (x : Txn) → x ≡ get_or script n x → test x ≡ false → ((i : ℕ) (t : Txn) → from ≤ i → i < n → slice_get script i ≡ Some t → test t ≡ false)
    → (i : ℕ) (t : Txn) → from ≤ i → i < n + 1 → slice_get script i ≡ Some t → test t ≡ false
passed_more test script from n x at other before i t low high got = elim (cases_lt i n) [
  | inl less ↦ before i t low less got
  | inr most ↦ let here : i ≡ n = omega arith in ap test (sym (read_here script n i x t at here got)) ∙ other
]

pub loop-number-preserved : goal.loop-number-preserved
loop-number-preserved c =
    let x = c.index-script-number.result in
    record {
      onward = omega arith;
      within = omega arith;
      passed = passed_more (is_aimed_at (network_of c.args.bundle.now) c.args.device) c.args.script.now c.args.from c.loop-number.number x c.index-script-number.is (sym c.is_aimed.ensures ∙ c.if-not-is_aimed.true) c.loop-number.invariant.passed;
    }

pub returns-else-not-is_aimed-clause-aimed : goal.returns-else-not-is_aimed-clause-aimed
returns-else-not-is_aimed-clause-aimed c = λ t got.
    let x = c.index-script-number.result in
    let here : c.loop-number.number ≡ c.loop-number.number = omega arith in
    ap (is_aimed_at (network_of c.args.bundle.now) c.args.device) (sym (read_here c.args.script.now c.loop-number.number c.loop-number.number x t c.index-script-number.is here got)) ∙ sym c.is_aimed.ensures ∙ c.if-not-is_aimed.false

pub returns-after-loop-number-clause-aimed : goal.returns-after-loop-number-clause-aimed
returns-after-loop-number-clause-aimed c = λ t got. absurd (let inside = slice_get_within c.args.script.now c.loop-number.number t got in let end = c.loop-number-test.false in omega arith)
