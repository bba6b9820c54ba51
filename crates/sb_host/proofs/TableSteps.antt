-- What a table keeps where one more word is received.
use Rattle.std.proofs.Common.{◌≡◌, ◌≢◌, ◌<◌, ◌+◌, ◌*◌, ◌^◌, ℕ, List, [], ◌∷◌, ◌++◌, refl, sym, ap, subst, ◌∙◌, arith, length, Bool, true, false, cond, Option, Some, None}
use Rattle.std.specs.Prelude.{map, set, is_some, ◌==◌, ◌&&◌}
use Rattle.std.specs.List.{range_with_len, find}
use Rattle.std.specs.Option.{option_or}
use Rattle.std.proofs.Math.ListN.{get_or}
use Rattle.std.proofs.lemmas.Bool.Decides.{nat_tests}
use Rattle.std.proofs.lemmas.List.{length-set, get_or-set_same, get_or-set_other, same_lists, get_or_default}
use Rattle.std.proofs.lemmas.Simd.{map-map}
use Rattle.std.proofs.lemmas.List.Folds.{find-append}
use Rattle.std.proofs.lemmas.List.FromFn.{get_or-map-range_with_len, length-map-range_with_len}
use Rattle.std.proofs.lemmas.Bool.{and_parts}
use Rattle.sb_packet.specs.Accesses.{Access, access_at}
use Rattle.sb_packet.proofs.Ranges.{range_agrees}
use Rattle.sb_host.specs.declared.transaction_plan.TransactionPlan.{TransactionPlan}
use Rattle.sb_host.specs.declared.script_plan.ScriptPlan.{ScriptPlan}
use Rattle.sb_host.specs.declared.answer_row.AnswerRow.{AnswerRow}
use Rattle.sb_host.specs.Asked.{Asked, line_message}
use Rattle.sb_host.specs.Outcomes.{first_answer, is_answer_to, is_answered_by}
use Rattle.sb_host.specs.Places.{IsPlace, asked_of}
use Rattle.sb_host.specs.Rows.{IsRow, IsTable, answer_width, device_answer, line_answers, with_answer}
use Rattle.sb_host.proofs.RowAnswers.{with_first, with_second}
use Rattle.sb_host.proofs.Placed.{place_told}

-- one number is another or not
pub one_or_other : (j k : ℕ) → (P : Type 0) → (j ≡ k → P) → (j ≢ k → P) → P
one_or_other j k P same other =
    elim (j == k) as (λ b. (j == k) ≡ b → P) [
      | true ↦ λ e. same (grind (arith, nat_tests))
      | false ↦ λ e. other (λ h. grind (arith, nat_tests))
    ] refl

-- a list that is made place by place, with one place changed
pub one_changed : (f g : ℕ → Option Access) (n k : ℕ) (a : Access) → k < n → ((j : ℕ) → j < n → j ≢ k → g j ≡ f j) → g k ≡ option_or (f k) (Some a)
    → map g (range_with_len 0 n) ≡ with_answer (map f (range_with_len 0 n)) k a
one_changed f g n k a below others here =
    let fs = map f (range_with_len 0 n) in
    let gs = map g (range_with_len 0 n) in
    let long_f = length-map-range_with_len f 0 n in
    let long_g = length-map-range_with_len g 0 n in
    let at : get_or fs k None ≡ f k = get_or-map-range_with_len f 0 n k k None below (omega arith) in
    let goal : Option Access → Type 0 = λ x. f k ≡ x → gs ≡ with_answer fs k a in
    elim (f k) as goal [
      | None ↦ λ e.
          let first : with_answer fs k a ≡ set fs k (Some a) = with_first fs k a (ap is_some (at ∙ e)) in
          let there : g k ≡ Some a = here ∙ ap (λ (x : Option Access). option_or x (Some a)) e in
          let same : gs ≡ set fs k (Some a) = same_lists gs (set fs k (Some a)) (long_g ∙ sym long_f ∙ sym (length-set fs k (Some a))) (λ j d inside.
          let j_in : j < n = omega (arith, inside, long_g) in
          let left : get_or gs j d ≡ g j = get_or-map-range_with_len g 0 n j j d j_in (omega arith) in
          one_or_other j k (get_or gs j d ≡ get_or (set fs k (Some a)) j d)
          (λ same. left ∙ ap g same ∙ there ∙ sym (ap (λ (i : ℕ). get_or (set fs k (Some a)) i d) same ∙ get_or-set_same fs k (Some a) d (omega (arith, below, long_f))))
          (λ other. left ∙ others j j_in other ∙ sym (get_or-set_other fs k j (Some a) d other ∙ get_or-map-range_with_len f 0 n j j d j_in (omega arith)))) in
          same ∙ sym first
      | Some y ↦ λ e.
          let second : with_answer fs k a ≡ fs = with_second fs k a (ap is_some (at ∙ e)) in
          let there : g k ≡ f k = here ∙ ap (λ (x : Option Access). option_or x (Some a)) e ∙ sym e in
          range_agrees g f 0 0 n (λ j inside. let none : 0 + j ≡ j = omega arith in
          rw none (one_or_other j k (g j ≡ f j) (λ same. ap g same ∙ there ∙ ap f (sym same)) (λ other. others j inside other)))
          ∙ sym second
    ] refl

-- a received word that doesn't answer one leaves it as it was
first_same : (received : List Access) (word a : Access) → is_answer_to word a ≡ false → first_answer (received ++ a ∷ []) word ≡ first_answer received word
first_same received word a fails =
    find-append (is_answer_to word) received (a ∷ [])
    ∙ ap (λ (b : Bool). option_or (find (is_answer_to word) received) (cond b (Some a) None)) fails
    ∙ nothing_more (find (is_answer_to word) received)
  where
    nothing_more : (x : Option Access) → option_or x None ≡ x
    nothing_more None = refl
    nothing_more (Some x) = refl

-- one that answers it is taken where none did before
first_more : (received : List Access) (word a : Access) → is_answer_to word a ≡ true → first_answer (received ++ a ∷ []) word ≡ option_or (first_answer received word) (Some a)
first_more received word a holds =
    find-append (is_answer_to word) received (a ∷ [])
    ∙ ap (λ (b : Bool). option_or (find (is_answer_to word) received) (cond b (Some a) None)) holds

-- a received word that answers word k of transaction i belongs there
belongs : (asked : Asked) (a : Access) (i k : ℕ) (l : TransactionPlan) → l ≡ get_or asked.lines i l → i < length asked.lines → k < l.txn.count → l.aimed ≡ true
    → is_answer_to (access_at (line_message asked i l) k) a ≡ true → IsPlace asked a.op a.size a.dst i k l
belongs asked a i k l at inside below aimed holds =
    let word = access_at (line_message asked i l) k in
    let first = and_parts ((a.dst == word.src) && (a.size == word.size)) (is_answered_by word.op a.op) holds in
    let second = and_parts (a.dst == word.src) (a.size == word.size) (first.0) in
    let place : (a.dst == word.src) ≡ true = second.0 in
    let size : (a.size == word.size) ≡ true = second.1 in
    let size_is : a.size ≡ word.size = grind (arith, nat_tests) in
    record {
      at = at;
      transaction = inside;
      word = below;
      aimed = aimed;
      opcode = first.1;
      same_size = sym size_is;
      place = let dst : a.dst ≡ word.src = grind (arith, nat_tests) in dst ∙ ap (λ (s : ℕ). (line_message asked i l).src + k * 2 ^ s) (sym size_is);
    }

-- and what belongs there answers it
answers_there : (asked : Asked) (a : Access) (i k : ℕ) (l : TransactionPlan) → IsPlace asked a.op a.size a.dst i k l → is_answer_to (access_at (line_message asked i l) k) a ≡ true
answers_there asked a i k l is =
    let word = access_at (line_message asked i l) k in
    let dst : a.dst ≡ word.src = is.place ∙ ap (λ (s : ℕ). (line_message asked i l).src + k * 2 ^ s) (sym is.same_size) in
    let size : a.size ≡ word.size = sym is.same_size in
    let dst_is : (a.dst == word.src) ≡ true = grind (arith, nat_tests) in
    let size_is : (a.size == word.size) ≡ true = grind (arith, nat_tests) in
    rw (dst_is, size_is) is.opcode

-- the answer to a word of a transaction, with one more received word, where that one belongs to no such word
other_answer : (asked : Asked) (received : List Access) (a : Access) (i j : ℕ) (l : TransactionPlan) → l ≡ get_or asked.lines i l → i < length asked.lines → j < l.txn.count
    → (IsPlace asked a.op a.size a.dst i j l → ⊥)
    → device_answer (received ++ a ∷ []) l.aimed (access_at (line_message asked i l) j) ≡ device_answer received l.aimed (access_at (line_message asked i l) j)
other_answer asked received a i j l at inside below elsewhere =
    let word = access_at (line_message asked i l) j in
    elim (l.aimed) as (λ b. l.aimed ≡ b → device_answer (received ++ a ∷ []) b word ≡ device_answer received b word) [
      | true ↦ λ aimed. elim (is_answer_to word a) as (λ b. is_answer_to word a ≡ b → first_answer (received ++ a ∷ []) word ≡ first_answer received word) [
        | true ↦ λ holds. absurd (elsewhere (belongs asked a i j l at inside below aimed holds))
        | false ↦ λ fails. first_same received word a fails
      ] refl
      | false ↦ λ aimed. refl
    ] refl

-- all answers to a transaction, where the word belongs to none of its words
other_answers : (asked : Asked) (received : List Access) (a : Access) (i : ℕ) (l : TransactionPlan) → l ≡ get_or asked.lines i l → i < length asked.lines
    → ((j : ℕ) → IsPlace asked a.op a.size a.dst i j l → ⊥)
    → line_answers asked (received ++ a ∷ []) i l ≡ line_answers asked received i l
other_answers asked received a i l at inside elsewhere =
    map-map (device_answer (received ++ a ∷ []) l.aimed) (access_at (line_message asked i l)) (range_with_len 0 l.txn.count)
    ∙ range_agrees (λ j. device_answer (received ++ a ∷ []) l.aimed (access_at (line_message asked i l) j)) (λ j. device_answer received l.aimed (access_at (line_message asked i l) j)) 0 0 l.txn.count
    (λ j below. let none : 0 + j ≡ j = omega arith in rw none (other_answer asked received a i j l at inside below (elsewhere j)))
    ∙ sym (map-map (device_answer received l.aimed) (access_at (line_message asked i l)) (range_with_len 0 l.txn.count))

-- all answers to a transaction, where the word belongs to word k of it
own_answers : (asked : Asked) (received : List Access) (a : Access) (i k : ℕ) (l : TransactionPlan) → IsPlace asked a.op a.size a.dst i k l
    → ((j : ℕ) → IsPlace asked a.op a.size a.dst i j l → j ≡ k)
    → line_answers asked (received ++ a ∷ []) i l ≡ with_answer (line_answers asked received i l) k a
own_answers asked received a i k l is single =
    let word = access_at (line_message asked i l) in
    let f = λ (j : ℕ). device_answer received l.aimed (word j) in
    let g = λ (j : ℕ). device_answer (received ++ a ∷ []) l.aimed (word j) in
    let here : g k ≡ option_or (f k) (Some a) =
    subst (λ (b : Bool). device_answer (received ++ a ∷ []) b (word k) ≡ option_or (device_answer received b (word k)) (Some a)) (sym is.aimed)
    (first_more received (word k) a (answers_there asked a i k l is)) in
    map-map (device_answer (received ++ a ∷ []) l.aimed) word (range_with_len 0 l.txn.count)
    ∙ one_changed f g l.txn.count k a is.word (λ j below other. other_answer asked received a i j l is.at is.transaction below (λ there. other (single j there))) here
    ∙ ap (λ (answers : List (Option Access)). with_answer answers k a) (sym (map-map (device_answer received l.aimed) word (range_with_len 0 l.txn.count)))

-- a word that answers none changes no table
pub table_same : (asked : Asked) (received : List Access) (rows : List AnswerRow) (a : Access) → ((i j : ℕ) (l : TransactionPlan) → IsPlace asked a.op a.size a.dst i j l → ⊥)
    → IsTable asked received rows → IsTable asked (received ++ a ∷ []) rows
table_same asked received rows a nowhere is = record {
  rows_of_lines = is.rows_of_lines;
  each = λ i l r inside.
      let line = get_or asked.lines i l in
      let at : line ≡ get_or asked.lines i line = get_or_default asked.lines i l line inside in
      subst (λ (answers : List (Option Access)). IsRow (answer_width line) answers (get_or rows i r)) (sym (other_answers asked received a i line at inside (λ j. nowhere i j line))) (is.each i l r inside);
}

-- a word that answers word k of transaction i changes that one's row
pub table_more : (script_plan : ScriptPlan) (received : List Access) (rows : List AnswerRow) (a : Access) (i k : ℕ) (wanted : TransactionPlan) (old new : AnswerRow)
    → IsPlace (asked_of script_plan) a.op a.size a.dst i k wanted
    → old ≡ get_or rows i old
    → ((answers : List (Option Access)) → IsRow (answer_width wanted) answers old → IsRow (answer_width wanted) (with_answer answers k a) new)
    → IsTable (asked_of script_plan) received rows → IsTable (asked_of script_plan) (received ++ a ∷ []) (set rows i new)
table_more script_plan received rows a i k wanted old new there old_at row is = record {
  rows_of_lines = length-set rows i new ∙ is.rows_of_lines;
  each = λ j l r inside.
      let asked = asked_of script_plan in
      let told = place_told script_plan a.op a.size a.dst i k wanted there in
      let goal : ℕ → AnswerRow → Type 0 = λ n x. IsRow (answer_width (get_or asked.lines n l)) (line_answers asked (received ++ a ∷ []) n (get_or asked.lines n l)) x in
      one_or_other j i (goal j (get_or (set rows i new) j r))
      (λ same.
      let here : i < length rows = let long = is.rows_of_lines in let within = there.transaction in omega (arith, long, within) in
      let line : wanted ≡ get_or asked.lines i l = there.at ∙ get_or_default asked.lines i wanted l there.transaction in
      let stands : get_or rows i r ≡ old = get_or_default rows i r old here ∙ sym old_at in
      let kept : IsRow (answer_width wanted) (line_answers asked received i wanted) old =
      subst (λ (x : AnswerRow). IsRow (answer_width wanted) (line_answers asked received i wanted) x) stands
      (subst (λ (x : TransactionPlan). IsRow (answer_width x) (line_answers asked received i x) (get_or rows i r)) (sym line) (is.each i l r there.transaction)) in
      let answers = own_answers asked received a i k wanted there (λ m other. (place_told script_plan a.op a.size a.dst i m wanted other).word ∙ sym told.word) in
      let taken : IsRow (answer_width wanted) (line_answers asked (received ++ a ∷ []) i wanted) new =
      subst (λ (xs : List (Option Access)). IsRow (answer_width wanted) xs new) (sym answers) (row (line_answers asked received i wanted) kept) in
      let at_i : goal i (get_or (set rows i new) i r) =
      subst (goal i) (sym (get_or-set_same rows i new r here))
      (subst (λ (x : TransactionPlan). IsRow (answer_width x) (line_answers asked (received ++ a ∷ []) i x) new) line taken) in
      subst (λ (n : ℕ). goal n (get_or (set rows i new) n r)) (sym same) at_i)
      (λ other.
      let line = get_or asked.lines j l in
      let at : line ≡ get_or asked.lines j line = get_or_default asked.lines j l line inside in
      let answers = other_answers asked received a j line at inside (λ m placed.
      other ((place_told script_plan a.op a.size a.dst j m line placed).line ∙ sym told.line)) in
      subst (goal j) (sym (get_or-set_other rows i j new r other))
      (subst (λ (xs : List (Option Access)). IsRow (answer_width line) xs (get_or rows j r)) (sym answers) (is.each j l r inside)));
}
