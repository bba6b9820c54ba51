-- For which transaction the next one waits, by the row of the one that took its slot before.
use Rattle.std.proofs.Common.{◌≡◌, ◌≢◌, ◌<◌, ℕ, arith, sym, ap, ◌∙◌, length, List, Bool, true, false, cond, Some, None}
use Rattle.std.specs.Prelude.{◌==◌, ◌&&◌, not, option_and_then}
use Rattle.std.specs.Option.{option_map_or}
use Rattle.std.proofs.Math.ListN.{get_or}
use Rattle.std.proofs.lemmas.Bool.Decides.{nat_tests}
use Rattle.std.proofs.lemmas.Option.{slice_get-get_or}
use Rattle.sb_host.specs.declared.answer_row.AnswerRow.{AnswerRow}
use Rattle.sb_host.specs.Progress.{TransactionsSide}
use Rattle.sb_host.specs.Windows.{if_missing, misses_word, slot_before, takes_slot_at, window_wait}

-- a row says whether its transaction misses a word
pub misses_by_row : (rows : List AnswerRow) (i : ℕ) (row : AnswerRow) → i < length rows → row ≡ get_or rows i row → misses_word rows i ≡ not (row.missing == 0)
misses_by_row rows i row below at =
    ap (λ o. option_map_or (λ (r : AnswerRow). not (r.missing == 0)) o false) (slice_get-get_or rows i row below) ∙ ap (λ (r : AnswerRow). not (r.missing == 0)) (sym at)

pub missing_some : (n : ℕ) → n ≢ 0 → not (n == 0) ≡ true
missing_some n some = let fails : (n == 0) ≡ false = grind (arith, nat_tests) in ap not fails

pub missing_none : (n : ℕ) → n ≡ 0 → not (n == 0) ≡ false
missing_none n none = let holds : (n == 0) ≡ true = grind (arith, nat_tests) in ap not holds

-- the next transaction waits just where the one that took its slot before misses a word
pub waits_by_slot : (t : TransactionsSide) (i : ℕ) (b : Bool) → t.part ≡ 0 → takes_slot_at t.asked.lines t.next ≡ true → slot_before t.asked.lines t.next ≡ Some i
    → misses_word t.rows i ≡ b → window_wait t ≡ cond b (Some i) None
waits_by_slot t i b first takes before misses =
    let holds : (t.part == 0) ≡ true = grind (arith, nat_tests) in
    ap (λ (x : Bool). cond (x && takes_slot_at t.asked.lines t.next) (option_and_then (if_missing t.rows) (slot_before t.asked.lines t.next)) None) holds
    ∙ ap (λ (x : Bool). cond x (option_and_then (if_missing t.rows) (slot_before t.asked.lines t.next)) None) takes
    ∙ ap (option_and_then (if_missing t.rows)) before
    ∙ ap (λ (x : Bool). cond x (Some i) None) misses
