-- A new table: a row for each transaction, none of whose words is answered.
use Rattle.std.proofs.Common.{◌≡◌, ◌<◌, ◌+◌, ℕ, zero, suc, arith, refl, sym, ap, ◌∙◌, subst, length, List, [], ◌∷◌, ◌++◌, Bool, true, false, Option, None, replicate}
use Rattle.std.specs.Prelude.{map, nat_lt}
use Rattle.std.specs.List.{enumerate_from, range_with_len}
use Rattle.std.proofs.Math.ListN.{get_or}
use Rattle.std.proofs.Math.Seq.{get_or-append_seam}
use Rattle.std.proofs.lemmas.Simd.{map-map}
use Rattle.std.proofs.lemmas.List.{get_or-map, get_or_append_left, get_or_default}
use Rattle.std.proofs.lemmas.List.FromFn.{get_or-enumerate_from, length-enumerate_from}
use Rattle.sb_packet.specs.Accesses.{Access, access_at}
use Rattle.sb_packet.specs.Answers.{Outcome}
use Rattle.sb_packet.specs.Scripts.{IsTransaction}
use Rattle.std.proofs.lemmas.List.Elements.{All-get_or}
use Rattle.sb_host.specs.declared.transaction_plan.TransactionPlan.{TransactionPlan}
use Rattle.sb_host.specs.declared.script_plan.ScriptPlan.{ScriptPlan}
use Rattle.sb_host.specs.declared.answer_row.AnswerRow.{AnswerRow}
use Rattle.sb_host.specs.Asked.{Asked, line_message}
use Rattle.sb_host.specs.Outcomes.{line_outcome, outcomes_so_far}
use Rattle.sb_host.specs.Places.{asked_of}
use Rattle.sb_host.specs.Rows.{IsRow, IsTable, answer_width, device_answer, line_answers, kept_outcome}
use Rattle.sb_host.proofs.TableSteps.{one_or_other}
use Rattle.sb_host.proofs.KeptOutcomes.{outcome_told}
use Rattle.sb_host.proofs.WordBytes.{row_here}

-- no answer
abbrev no_answer : Option Access
no_answer = None

-- each of these transactions has a row without an answer
abbrev pub HaveEmptyRows : List TransactionPlan → List AnswerRow → ℕ → Type 0
HaveEmptyRows lines rows n = (i : ℕ) (d : TransactionPlan) (r : AnswerRow) → i < n → IsRow (answer_width (get_or lines i d)) (replicate (get_or lines i d).txn.count None) (get_or rows i r)

-- one row more
pub rows_more : (lines : List TransactionPlan) (rows new : List AnswerRow) (n : ℕ) (row : AnswerRow) (wanted : TransactionPlan) → length rows ≡ n → new ≡ rows ++ row ∷ [] → n < length lines
    → wanted ≡ get_or lines n wanted → IsRow (answer_width wanted) (replicate wanted.txn.count None) row → HaveEmptyRows lines rows n → HaveEmptyRows lines new (n + 1)
rows_more lines rows new n row wanted long joined inside at is each = λ i d r below.
    let goal : ℕ → AnswerRow → Type 0 = λ k x. IsRow (answer_width (get_or lines k d)) (replicate (get_or lines k d).txn.count None) x in
    one_or_other i n (goal i (get_or new i r))
    (λ same.
    let line : wanted ≡ get_or lines n d = at ∙ get_or_default lines n wanted d inside in
    let stands : get_or new n r ≡ row = ap (λ (list : List AnswerRow). get_or list n r) joined ∙ ap (λ (k : ℕ). get_or (rows ++ row ∷ []) k r) (sym long) ∙ get_or-append_seam rows row [] r in
    let here : goal n (get_or new n r) = subst (goal n) (sym stands) (subst (λ (x : TransactionPlan). IsRow (answer_width x) (replicate x.txn.count None) row) line is) in
    subst (λ (k : ℕ). goal k (get_or new k r)) (sym same) here)
    (λ other.
    let before : i < n = omega (arith, below, other) in
    let stands : get_or new i r ≡ get_or rows i r = ap (λ (list : List AnswerRow). get_or list i r) joined ∙ get_or_append_left rows (row ∷ []) r i (omega (arith, before, long)) in
    subst (goal i) (sym stands) (each i d r before))

none_yet : (received_none aimed : Bool) (word : Access) → device_answer [] aimed word ≡ None
none_yet b true word = refl
none_yet b false word = refl

all_none : (aimed : Bool) (word : ℕ → Access) (a n : ℕ) → map (λ j. device_answer [] aimed (word j)) (range_with_len a n) ≡ replicate n no_answer
all_none true word a zero = refl
all_none false word a zero = refl
all_none true word a (suc n) = ap (λ (rest : List (Option Access)). no_answer ∷ rest) (all_none true word (a + 1) n)
all_none false word a (suc n) = ap (λ (rest : List (Option Access)). no_answer ∷ rest) (all_none false word (a + 1) n)

-- such rows are a table, where nothing was received
pub empty_table : (asked : Asked) (rows : List AnswerRow) → length rows ≡ length asked.lines → HaveEmptyRows asked.lines rows (length asked.lines) → IsTable asked [] rows
empty_table asked rows long each = record {
  rows_of_lines = long;
  each = λ i l r inside.
      let line = get_or asked.lines i l in
      let none : line_answers asked [] i line ≡ replicate line.txn.count None =
      map-map (device_answer [] line.aimed) (access_at (line_message asked i line)) (range_with_len 0 line.txn.count) ∙ all_none line.aimed (access_at (line_message asked i line)) 0 line.txn.count in
      subst (λ (answers : List (Option Access)). IsRow (answer_width line) answers (get_or rows i r)) (sym none) (each i l r inside);
}

-- the outcome of one transaction among all
outcome_at : (asked : Asked) (received : List Access) (next i : ℕ) (none : Outcome) (l : TransactionPlan) → i < length asked.lines → l ≡ get_or asked.lines i l
    → get_or (outcomes_so_far asked received next) i none ≡ line_outcome asked received (nat_lt i next) i l
outcome_at asked received next i none l inside at =
    let f : ℕ × TransactionPlan → Outcome = λ p. line_outcome asked received (nat_lt p.0 next) p.0 p.1 in
    let long : length (enumerate_from 0 asked.lines) ≡ length asked.lines = length-enumerate_from 0 asked.lines in
    get_or-map f (enumerate_from 0 asked.lines) i (i, l) none (omega (arith, long, inside))
    ∙ ap f (get_or-enumerate_from 0 asked.lines i (i, l) inside)
    ∙ ap (λ (k : ℕ). f (k, get_or asked.lines i l)) (omega arith)
    ∙ ap (λ (x : TransactionPlan). f (i, x)) (sym at)

-- What a table's row tells is what has become of its transaction.
pub outcome_kept : (script_plan : ScriptPlan) (received : List Access) (rows : List AnswerRow) (next i : ℕ) (none : Outcome) (l : TransactionPlan) (row : AnswerRow) → i < length script_plan.lines.items
    → l ≡ get_or script_plan.lines.items i l → row ≡ get_or rows i row → IsTable (asked_of script_plan) received rows
    → get_or (outcomes_so_far (asked_of script_plan) received next) i none ≡ kept_outcome l.txn.kind l.aimed (nat_lt i next) row
outcome_kept script_plan received rows next i none l row inside at row_at is =
    let asked = asked_of script_plan in
    let t : IsTransaction l.txn = rw (sym at) at (All-get_or (λ (x : TransactionPlan). IsTransaction x.txn) script_plan.lines.items i l inside script_plan.issuable) in
    outcome_at asked received next i none l inside at
    ∙ outcome_told asked received (nat_lt i next) i l row t.some (row_here asked received rows i l row is at inside row_at)
