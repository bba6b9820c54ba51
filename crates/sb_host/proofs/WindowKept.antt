-- A host keeps its window: no answer is taken back, and a slot is taken again only where nothing is missed.
use Rattle.std.proofs.Common.{◌≡◌, ◌<◌, ◌+◌, ◌-◌, ℕ, zero, suc, arith, refl, sym, ap, subst, ◌∙◌, inl, inr, length, List, [], ◌∷◌, ◌++◌, Bool, true, false, true≢false, cond, Some, None, length-append}
use Rattle.std.specs.Prelude.{Option, ◌==◌, not, map, is_some, count_by, slice_get, nat_lt}
use Rattle.std.specs.Option.{option_or, option_map_or}
use Rattle.std.specs.List.{find}
use Rattle.std.proofs.Math.ListN.{get_or}
use Rattle.std.proofs.lemmas.Bool.{cases_lt}
use Rattle.std.proofs.lemmas.Bool.Decides.{nat_tests}
use Rattle.std.proofs.lemmas.List.Folds.{find-append}
use Rattle.std.proofs.lemmas.List.Sums.{sum_by-cons}
use Rattle.sb_packet.specs.Accesses.{Access}
use Rattle.sb_packet.specs.Cuts.{cut_parts}
use Rattle.sb_host.specs.declared.transaction_plan.TransactionPlan.{TransactionPlan}
use Rattle.sb_host.specs.declared.answer_row.AnswerRow.{AnswerRow}
use Rattle.sb_host.specs.Asked.{Asked, line_accesses, line_message, sent_packets}
use Rattle.sb_host.specs.Outcomes.{first_answer, is_answer_to}
use Rattle.sb_host.specs.Progress.{HasComeTo, HasPassedOver, TransactionsSide}
use Rattle.sb_host.specs.Rows.{IsRow, IsTable, answer_width, device_answer, line_answers}
use Rattle.sb_host.specs.Windows.{KeepsWindow, begun_count, begun_slots, misses_word, slot_before, slots_taken, takes_slot_at, window_wait}
use Rattle.sb_host.proofs.Slots.{got_within, slot_within, slots_more, slots_passed_over, slots_same, takes_inside}
use Rattle.sb_host.proofs.Waits.{missing_some, waits_by_slot}

-- what stands at a place
pub item_at : {X : Type 0} (xs : List X) (i : ℕ) → i < length xs → (x : X) × (slice_get xs i ≡ Some x) × (get_or xs i x ≡ x)
item_at [] i below = absurd (omega (arith, below))
item_at (x ∷ xs) zero below = (x, refl, refl)
item_at (x ∷ xs) (suc i) below = item_at xs i (omega (arith, below))

-- the row of a transaction keeps the answers to its line
pub record HasRow (asked : Asked) (received : List Access) (rows : List AnswerRow) (i : ℕ) : Type 0 where
  pub line : TransactionPlan
  pub row : AnswerRow
  pub line_there : slice_get asked.lines i ≡ Some line
  pub line_at : get_or asked.lines i line ≡ line
  pub row_there : slice_get rows i ≡ Some row
  pub is : IsRow (answer_width line) (line_answers asked received i line) row

pub row_of : (asked : Asked) (received : List Access) (rows : List AnswerRow) (i : ℕ) → IsTable asked received rows → i < length asked.lines → HasRow asked received rows i
row_of asked received rows i table inside =
    let line = item_at asked.lines i inside in
    let row = item_at rows i (let all = table.rows_of_lines in omega (arith, inside, all)) in record {
      line = line.0;
      row = row.0;
      line_there = line.1;
      line_at = line.2;
      row_there = row.1;
      is = subst (λ (r : AnswerRow). IsRow (answer_width line.0) (line_answers asked received i line.0) r) row.2
          (subst (λ (l : TransactionPlan). IsRow (answer_width l) (line_answers asked received i l) (get_or rows i row.0)) line.2 (table.each i line.0 row.0 inside));
    }

-- its count of missing words is that of the words that nothing answered
pub missing_counted : (asked : Asked) (received : List Access) (rows : List AnswerRow) (i : ℕ) (has : HasRow asked received rows i)
    → has.row.missing ≡ count_by not (map is_some (line_answers asked received i has.line))
missing_counted asked received rows i has = has.is.counted ∙ ap (count_by not) has.is.answered

-- what was answered is answered still
still_first : (received more : List Access) (word : Access) → is_some (first_answer received word) ≡ true → is_some (first_answer (received ++ more) word) ≡ true
still_first received more word some = by_first (first_answer received word) refl some
  where
    by_first : (o : Option Access) → first_answer received word ≡ o → is_some o ≡ true → is_some (first_answer (received ++ more) word) ≡ true
    by_first None e none = absurd (true≢false (sym none))
    by_first (Some a) e here = ap is_some (find-append (is_answer_to word) received more ∙ ap (λ (o : Option Access). option_or o (find (is_answer_to word) more)) e)

still_answered : (received more : List Access) (aimed : Bool) (word : Access) → is_some (device_answer received aimed word) ≡ true → is_some (device_answer (received ++ more) aimed word) ≡ true
still_answered received more true word some = still_first received more word some
still_answered received more false word some = some

still_none : (f g : Access → Option Access) → ((w : Access) → is_some (f w) ≡ true → is_some (g w) ≡ true) → (words : List Access)
    → count_by not (map is_some (map f words)) ≡ 0 → count_by not (map is_some (map g words)) ≡ 0
still_none f g stays [] none = refl
still_none f g stays (w ∷ words) none =
    let had = sum_by-cons (λ (b : Bool). cond (not b) 1 0) (is_some (f w)) (map is_some (map f words)) in
    let has = sum_by-cons (λ (b : Bool). cond (not b) 1 0) (is_some (g w)) (map is_some (map g words)) in
    has ∙ by_test (is_some (f w)) refl (sym had ∙ none) (still_none f g stays words)
  where
    fs : ℕ
    fs = count_by not (map is_some (map f words))

    gs : ℕ
    gs = count_by not (map is_some (map g words))

    by_test : (b : Bool) → is_some (f w) ≡ b → cond (not b) 1 0 + fs ≡ 0 → (fs ≡ 0 → gs ≡ 0) → cond (not (is_some (g w))) 1 0 + gs ≡ 0
    by_test false e none rest = absurd (omega (arith, none))
    by_test true e none rest =
        let later : gs ≡ 0 = rest (omega (arith, none)) in
        let none_here : 0 + gs ≡ 0 = omega (arith, later) in
        subst (λ (b : Bool). cond (not b) 1 0 + gs ≡ 0) (sym (stays w e)) none_here

-- a transaction that misses nothing misses nothing once more came
answers_stay : (asked : Asked) (received more : List Access) (rows rows_then : List AnswerRow) (i : ℕ) → IsTable asked received rows → IsTable asked (received ++ more) rows_then
    → i < length asked.lines → misses_word rows i ≡ false → misses_word rows_then i ≡ false
answers_stay asked received more rows rows_then i table table_then inside answered =
    let had = row_of asked received rows i table inside in
    let has = row_of asked (received ++ more) rows_then i table_then inside in
    let same : has.line ≡ had.line = let both : Some has.line ≡ Some had.line = sym has.line_there ∙ had.line_there in cc in
    let fails : not (had.row.missing == 0) ≡ false = sym (ap (λ o. option_map_or (λ (r : AnswerRow). not (r.missing == 0)) o false) had.row_there) ∙ answered in
    let none : had.row.missing ≡ 0 = no_more had.row.missing fails in
    let before : count_by not (map is_some (line_answers asked received i had.line)) ≡ 0 = sym (missing_counted asked received rows i had) ∙ none in
    let now : count_by not (map is_some (line_answers asked (received ++ more) i had.line)) ≡ 0 =
    still_none (device_answer received had.line.aimed) (device_answer (received ++ more) had.line.aimed) (still_answered received more had.line.aimed) (line_accesses asked i had.line) before in
    let zero_left : has.row.missing ≡ 0 =
    missing_counted asked (received ++ more) rows_then i has ∙ ap (λ (l : TransactionPlan). count_by not (map is_some (line_answers asked (received ++ more) i l))) same ∙ now in
    ap (λ o. option_map_or (λ (r : AnswerRow). not (r.missing == 0)) o false) has.row_there ∙ ap (λ (n : ℕ). not (n == 0)) zero_left
  where
    no_more : (n : ℕ) → not (n == 0) ≡ false → n ≡ 0
    no_more zero e = refl
    no_more (suc n) e = absurd (true≢false (sym (missing_some (suc n) (λ is. absurd (omega (arith, is)))) ∙ e))

-- more answers keep the window
pub window_answered : (t : TransactionsSide) (rows_then : List AnswerRow) (received more : List Access) → IsTable t.asked received t.rows → IsTable t.asked (received ++ more) rows_then
    → KeepsWindow t → KeepsWindow (record t { rows = rows_then })
window_answered t rows_then received more table table_then keeps k i at behind =
    let inside : i < length t.asked.lines = takes_inside t.asked.lines i (slot_within t.asked.lines (begun_count t) k i at).1 in
    answers_stay t.asked received more t.rows rows_then i table table_then inside (keeps k i at behind)

-- so does what leaves the slots as they were
pub window_unmoved : (t t_then : TransactionsSide) → begun_slots t_then ≡ begun_slots t → t_then.rows ≡ t.rows → KeepsWindow t → KeepsWindow t_then
window_unmoved t t_then slots rows keeps k i at behind =
    ap (λ (r : List AnswerRow). misses_word r i) rows
    ∙ keeps k i (subst (λ (l : List ℕ). slice_get l k ≡ Some i) slots at) (subst (λ (l : List ℕ). k + 64 < length l) slots behind)

-- the transactions that were passed over begin and take no slot
pub begun_passed_over : (t : TransactionsSide) (n : ℕ) → HasComeTo t.asked t.next t.part → HasPassedOver t.asked t.next n → begun_slots (record t { next = n }) ≡ begun_slots t
begun_passed_over t n come passed = by_part (t.part == 0) refl
  where
    lines : List TransactionPlan
    lines = t.asked.lines

    none_sent : (line : TransactionPlan) → line.aimed ≡ false → sent_packets t.asked t.next line ≡ []
    none_sent line unaimed = ap (λ (b : Bool). cond b (cut_parts 32 (line_message t.asked t.next line)) []) unaimed

    stays : 0 < t.part → n ≡ t.next
    stays some = elim (cases_lt t.next n) [
      | inl further ↦
          let within = passed.within in
          let inside : t.next < length lines = omega (arith, further, within) in
          let line = item_at lines t.next inside in
          let few = (come.begun some line.0).1 in
          let none = ap length (none_sent (get_or lines t.next line.0) (passed.unaimed t.next line.0 (omega arith) further)) in
          absurd (omega (arith, few, none))
      | inr back ↦ let onward = passed.onward in omega (arith, back, onward)
    ]

    by_part : (b : Bool) → (t.part == 0) ≡ b → slots_taken lines (cond b n (n + 1)) ≡ slots_taken lines (cond b t.next (t.next + 1))
    by_part true e = slots_passed_over t.asked t.next n passed
    by_part false e =
        let some : 0 < t.part = grind (arith, nat_tests) in
        ap (λ (m : ℕ). slots_taken lines (m + 1)) (stays some)

-- a transaction that waits for no slot keeps the window where it begins
module _ (t : TransactionsSide) (free : window_wait t ≡ None) (keeps : KeepsWindow t) where
  abbrev lines : List TransactionPlan
  lines = t.asked.lines

  abbrev taken : List ℕ
  taken = slots_taken lines t.next

  -- the one that took its slot before misses nothing
  free_slot : t.part ≡ 0 → takes_slot_at lines t.next ≡ true → (k i : ℕ) → slice_get taken k ≡ Some i → k + 64 ≡ length taken → misses_word t.rows i ≡ false
  free_slot first takes k i at full =
      let test : nat_lt (length taken) 64 ≡ false = grind (arith, nat_tests) in
      let place : length taken - 64 ≡ k = omega (arith, full) in
      let before : slot_before lines t.next ≡ Some i =
      ap (λ (b : Bool). cond b None (slice_get taken (length taken - 64))) test ∙ ap (slice_get taken) place ∙ at in
      by_row (misses_word t.rows i) refl before
    where
      by_row : (b : Bool) → misses_word t.rows i ≡ b → slot_before lines t.next ≡ Some i → misses_word t.rows i ≡ false
      by_row false e before = e
      by_row true e before = let never : Some i ≡ None = sym (waits_by_slot t i true first takes before e) ∙ free in absurd (cc)

  window_begun : (k i : ℕ) → slice_get (slots_taken lines (t.next + 1)) k ≡ Some i → k + 64 < length (slots_taken lines (t.next + 1)) → misses_word t.rows i ≡ false
  window_begun k i at behind = by_part (t.part == 0) refl keeps
    where
      by_part : (b : Bool) → (t.part == 0) ≡ b
          → ((k i : ℕ) → slice_get (slots_taken lines (cond b t.next (t.next + 1))) k ≡ Some i → k + 64 < length (slots_taken lines (cond b t.next (t.next + 1))) → misses_word t.rows i ≡ false)
          → misses_word t.rows i ≡ false
      by_part false e kept = kept k i at behind
      by_part true e kept = by_slot (takes_slot_at lines t.next) refl
        where
          by_slot : (b : Bool) → takes_slot_at lines t.next ≡ b → misses_word t.rows i ≡ false
          by_slot false none =
              let same = slots_same lines t.next none in
              kept k i (subst (λ (l : List ℕ). slice_get l k ≡ Some i) same at) (subst (λ (l : List ℕ). k + 64 < length l) same behind)
          by_slot true takes =
              let first : t.part ≡ 0 = grind (arith, nat_tests) in
              let more = slots_more lines t.next takes in
              let long : length (slots_taken lines (t.next + 1)) ≡ length taken + 1 = ap length more ∙ length-append taken (t.next ∷ []) in
              let inside : k < length taken = omega (arith, long, behind) in
              let here : slice_get taken k ≡ Some i = sym (got_within taken (t.next ∷ []) k inside) ∙ subst (λ (l : List ℕ). slice_get l k ≡ Some i) more at in
              elim (cases_lt (k + 64) (length taken)) [
                | inl earlier ↦ kept k i here earlier
                | inr last ↦ free_slot first takes k i here (omega (arith, long, behind, last))
              ]

  pub window_taken : (t_then : TransactionsSide) → t_then.asked ≡ t.asked → t_then.rows ≡ t.rows → begun_count t_then ≡ t.next + 1 → KeepsWindow t_then
  window_taken t_then asked rows begun k i at behind =
      let same : begun_slots t_then ≡ slots_taken lines (t.next + 1) = ap (λ (a : Asked). slots_taken a.lines (begun_count t_then)) asked ∙ ap (slots_taken lines) begun in
      ap (λ (r : List AnswerRow). misses_word r i) rows
      ∙ window_begun k i (subst (λ (l : List ℕ). slice_get l k ≡ Some i) same at) (subst (λ (l : List ℕ). k + 64 < length l) same behind)
