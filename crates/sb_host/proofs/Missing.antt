-- A host that waits for a slot misses an answer; and at most as many transactions are under way as there are slots.
use Rattle.std.proofs.Common.{◌≡◌, ◌≢◌, ◌≤◌, ◌<◌, ◌+◌, ◌-◌, ℕ, zero, suc, arith, refl, sym, ap, subst, ◌∙◌, inl, inr, length, List, [], ◌∷◌, ◌++◌, take, drop, Bool, true, false, true≢false, cond, Some, None, length-append, append_assoc}
use Rattle.std.specs.Prelude.{Option, Contains, ◌==◌, ◌&&◌, not, map, filter, flat_map, is_some, count_by, slice_get, option_map, option_and_then, if◌then◌else◌}
use Rattle.std.specs.Option.{option_map_or}
use Rattle.std.proofs.lemmas.Bool.{and_parts, cases_lt}
use Rattle.std.proofs.lemmas.Bool.Decides.{nat_tests}
use Rattle.std.proofs.lemmas.List.{append_cancel_right, get_or-append-add, get_or_append_left, length-take-le, take-append-drop}
use Rattle.std.proofs.lemmas.List.Sums.{count_by-le-length, length-filter, sum_by-cons}
use Rattle.std.proofs.lemmas.List.FromFn.{get_or-map-range_with_len, length-map-range_with_len}
use Rattle.sb_packet.specs.Accesses.{Access, access_at, message_accesses}
use Rattle.sb_packet.specs.Scripts.{request_of}
use Rattle.sb_link.specs.declared.answers.Cause.TheVariants as causes
use Rattle.sb_flow.specs.Rings.{is_answered, is_answered_kind}
use Rattle.sb_node.specs.Sides.{received_words}
use Rattle.sb_port.specs.Ports.{offered_words}
use Rattle.sb_host.specs.declared.transaction_plan.TransactionPlan.{TransactionPlan}
use Rattle.sb_host.specs.declared.answer_row.AnswerRow.{AnswerRow}
use Rattle.sb_host.specs.Asked.{Asked, accesses_from, asked_accesses, line_accesses, line_message, packets_from, sent_accesses}
use Rattle.sb_host.specs.Hosts.{HostSide, IsWholeHost, host_wait}
use Rattle.sb_host.specs.Progress.{TransactionsSide}
use Rattle.sb_host.specs.Rows.{device_answer}
use Rattle.sb_host.specs.Windows.{IsAnswerMissed, begun_slots, if_missing, misses_word, slot_before, slots_taken, takes_slot, takes_slot_at, under_way, window_cause}
use Rattle.sb_host.proofs.Beginning.{words_of_packets}
use Rattle.sb_host.proofs.Slots.{before_within, slot_within, takes_inside}
use Rattle.sb_host.proofs.Waits.{missing_none}
use Rattle.sb_host.proofs.WindowKept.{missing_counted, row_of}

-- what is in a list is in a longer one
in_first : (xs ys : List Access) (a : Access) → Contains xs a → Contains (xs ++ ys) a
in_first xs ys a (k, inside, is) = (k, (let long = length-append xs ys in omega (arith, inside, long)), get_or_append_left xs ys a k inside ∙ is)

in_second : (xs ys : List Access) (a : Access) → Contains ys a → Contains (xs ++ ys) a
in_second xs ys a (k, inside, is) = (length xs + k, (let long = length-append xs ys in omega (arith, inside, long)), get_or-append-add xs ys k a ∙ is)

-- a word that nothing answered, where some are missing
missed_word : (f : Access → Option Access) (words : List Access) → count_by not (map is_some (map f words)) ≢ 0 → (word : Access) × Contains words word × (f word ≡ None)
missed_word f [] some = absurd (some refl)
missed_word f (w ∷ words) some = by_answer (f w) refl (missed_word f words)
  where
    rest : ℕ
    rest = count_by not (map is_some (map f words))

    by_answer : (o : Option Access) → f w ≡ o → (rest ≢ 0 → (word : Access) × Contains words word × (f word ≡ None)) → (word : Access) × Contains (w ∷ words) word × (f word ≡ None)
    by_answer None e later = (w, (0, omega arith, refl), e)
    by_answer (Some a) e later =
        let counted = sum_by-cons (λ (b : Bool). cond (not b) 1 0) (is_some (f w)) (map is_some (map f words)) in
        let none_here : count_by not (map is_some (map f (w ∷ words))) ≡ 0 + rest = counted ∙ ap (λ (o : Option Access). cond (not (is_some o)) 1 0 + rest) e in
        let found = later (λ none. some (let all = none_here in omega (arith, all, none))) in
        (found.0, in_second (w ∷ []) words found.0 found.1, found.2)

-- the words of first transactions, and of those behind them
accesses_split : (asked : Asked) (i : ℕ) (xs ys : List TransactionPlan) → accesses_from asked i (xs ++ ys) ≡ accesses_from asked i xs ++ accesses_from asked (i + length xs) ys
accesses_split asked i [] ys = let none : i ≡ i + 0 = omega arith in ap (λ (n : ℕ). accesses_from asked n ys) none
accesses_split asked i (x ∷ xs) ys =
    let more : i + 1 + length xs ≡ i + suc (length xs) = omega arith in
    ap (λ (l : List Access). sent_accesses asked i x ++ l) (accesses_split asked (i + 1) xs ys ∙ ap (λ (n : ℕ). accesses_from asked (i + 1) xs ++ accesses_from asked n ys) more)
    ∙ sym (append_assoc (sent_accesses asked i x) (accesses_from asked (i + 1) xs) (accesses_from asked (i + suc (length xs)) ys))

-- the words of a transaction are among those of the first ones
in_line : (asked : Asked) (a : Access) (line : TransactionPlan) (lines : List TransactionPlan) (from n i : ℕ) → i < n → slice_get lines i ≡ Some line
    → Contains (sent_accesses asked (from + i) line) a → Contains (accesses_from asked from (take n lines)) a
in_line asked a line [] from n i below there inside = absurd (let none : None ≡ Some line = there in cc)
in_line asked a line (x ∷ lines) from zero i below there inside = absurd (omega (arith, below))
in_line asked a line (x ∷ lines) from (suc n) zero below there inside =
    let same : x ≡ line = let both : Some x ≡ Some line = there in cc in
    let here : from + 0 ≡ from = omega arith in
    in_first (sent_accesses asked from x) (accesses_from asked (from + 1) (take n lines)) a
    (subst (λ (l : TransactionPlan). Contains (sent_accesses asked from l) a) (sym same) (subst (λ (k : ℕ). Contains (sent_accesses asked k line) a) here inside))
in_line asked a line (x ∷ lines) from (suc n) (suc i) below there inside =
    let next : from + suc i ≡ from + 1 + i = omega arith in
    in_second (sent_accesses asked from x) (accesses_from asked (from + 1) (take n lines)) a
    (in_line asked a line lines (from + 1) n i (omega (arith, below)) there (subst (λ (k : ℕ). Contains (sent_accesses asked k line) a) next inside))

-- a host that is at the first packet of a transaction has offered the words of those before it
offered_first : (asked : Asked) (next part : ℕ) (offered : List Access) → next ≤ length asked.lines → part ≡ 0
    → offered ++ flat_map message_accesses (drop part (packets_from asked next (drop next asked.lines))) ≡ asked_accesses asked → offered ≡ accesses_from asked 0 (take next asked.lines)
offered_first asked next part offered within first so_far =
    let lines = asked.lines in
    let left : flat_map message_accesses (drop part (packets_from asked next (drop next lines))) ≡ accesses_from asked next (drop next lines) =
    ap (λ (k : ℕ). flat_map message_accesses (drop k (packets_from asked next (drop next lines)))) first ∙ words_of_packets asked next (drop next lines) in
    let long : 0 + length (take next lines) ≡ next = let some = length-take-le next lines within in omega (arith, some) in
    let whole : asked_accesses asked ≡ accesses_from asked 0 (take next lines) ++ accesses_from asked next (drop next lines) =
    ap (accesses_from asked 0) (sym (take-append-drop next lines)) ∙ accesses_split asked 0 (take next lines) (drop next lines)
    ∙ ap (λ (n : ℕ). accesses_from asked 0 (take next lines) ++ accesses_from asked n (drop next lines)) long in
    append_cancel_right offered (accesses_from asked 0 (take next lines)) (accesses_from asked next (drop next lines))
    (ap (λ (l : List Access). offered ++ l) (sym left) ∙ so_far ∙ whole)

-- the words of a line have its host and its opcode
made_by : (asked : Asked) (i : ℕ) (line : TransactionPlan) (a : Access) → Contains (line_accesses asked i line) a → (a.host ≡ asked.id) × (a.op ≡ request_of line.txn.kind)
made_by asked i line a (k, inside, is) =
    let m = line_message asked i line in
    let count : length (line_accesses asked i line) ≡ m.count = length-map-range_with_len (access_at m) 0 m.count in
    let made : a ≡ access_at m k = sym is ∙ get_or-map-range_with_len (access_at m) 0 m.count k k a (omega (arith, inside, count)) (omega arith) in
    (ap (λ (x : Access). x.host) made, ap (λ (x : Access). x.op) made)

-- what waits, by the definition
record IsWaitFor (t : TransactionsSide) : Type 0 where
  old : ℕ
  first : t.part ≡ 0
  before : slot_before t.asked.lines t.next ≡ Some old
  misses : misses_word t.rows old ≡ true

wait_for : (t : TransactionsSide) → is_some (window_cause t) ≡ true → IsWaitFor t
wait_for t waits = by_first ((t.part == 0) && takes_slot_at t.asked.lines t.next) refl waits
  where
    by_first : (b : Bool) → ((t.part == 0) && takes_slot_at t.asked.lines t.next) ≡ b
        → is_some (option_map causes.Window (cond b (option_and_then (if_missing t.rows) (slot_before t.asked.lines t.next)) None)) ≡ true → IsWaitFor t
    by_first false e none = absurd (true≢false (sym none))
    by_first true e some = by_before (slot_before t.asked.lines t.next) refl some
      where
        by_before : (o : Option ℕ) → slot_before t.asked.lines t.next ≡ o → is_some (option_map causes.Window (option_and_then (if_missing t.rows) o)) ≡ true → IsWaitFor t
        by_before None b none = absurd (true≢false (sym none))
        by_before (Some i) b some = by_row (misses_word t.rows i) refl some
          where
            by_row : (m : Bool) → misses_word t.rows i ≡ m → is_some (option_map causes.Window (cond m (Some i) None)) ≡ true → IsWaitFor t
            by_row false m none = absurd (true≢false (sym none))
            by_row true m some = record {
              old = i;
              first = let part = (and_parts (t.part == 0) (takes_slot_at t.asked.lines t.next) e).0 in grind (arith, nat_tests);
              before = b;
              misses = m;
            }

-- A host that waits for a slot misses an answer.
pub waiting_misses : (h : HostSide) → IsWholeHost h → is_some (host_wait h) ≡ true → IsAnswerMissed h.transactions.asked.id (offered_words h.requests) (received_words h.answers)
waiting_misses h whole waits =
    let t = h.transactions in
    let o = whole.in_order in
    let asked = t.asked in
    let received = received_words h.answers in
    let wait = wait_for t waits in
    let i = wait.old in
    let within = slot_within asked.lines t.next (length (slots_taken asked.lines t.next) - 64) i (before_within asked.lines t.next i wait.before).0 in
    let has = row_of asked received t.rows i o.table (takes_inside asked.lines i within.1) in
    let takes : takes_slot has.line ≡ true = sym (ap (λ o. option_map_or takes_slot o false) has.line_there) ∙ within.1 in
    let kind = and_parts has.line.aimed (is_answered_kind has.line.txn.kind) takes in
    let some : not (has.row.missing == 0) ≡ true = sym (ap (λ o. option_map_or (λ (r : AnswerRow). not (r.missing == 0)) o false) has.row_there) ∙ wait.misses in
    let counted = missing_counted asked received t.rows i has in
    let found = missed_word (device_answer received has.line.aimed) (line_accesses asked i has.line)
    (λ none. true≢false (sym some ∙ missing_none has.row.missing (counted ∙ none))) in
    let offered = offered_first asked t.next t.part (offered_words h.requests) o.come.within wait.first o.offered in
    let here : 0 + i ≡ i = omega arith in
    let sent : Contains (sent_accesses asked (0 + i) has.line) found.0 =
    subst (λ (k : ℕ). Contains (sent_accesses asked k has.line) found.0) (sym here)
    (subst (λ (b : Bool). Contains (if b then line_accesses asked i has.line else []) found.0) (sym kind.0) found.1) in
    let of_line = made_by asked i has.line found.0 found.1 in record {
      word = found.0;
      own = of_line.0;
      was_offered = subst (λ (l : List Access). Contains l found.0) (sym offered) (in_line asked found.0 has.line asked.lines 0 t.next i within.0 has.line_there sent);
      answered = ap is_answered of_line.1 ∙ kind.1;
      missed = subst (λ (b : Bool). device_answer received b found.0 ≡ None) kind.0 found.2;
    }

-- At most as many pass as there are behind the last of those that don't.
few_pass : (p : ℕ → Bool) (xs : List ℕ) → ((k i : ℕ) → slice_get xs k ≡ Some i → k + 64 < length xs → p i ≡ false) → length (filter p xs) ≤ 64
few_pass p [] fails = omega arith
few_pass p (x ∷ xs) fails = elim (cases_lt (length xs) 64) [
  | inl few ↦ let counted = length-filter p (x ∷ xs) in let most = count_by-le-length p (x ∷ xs) in omega (arith, few, counted, most)
  | inr many ↦
      let first : p x ≡ false = fails 0 x refl (omega (arith, many)) in
      let rest = few_pass p xs (λ k i at behind. fails (k + 1) i (let next : k + 1 ≡ suc k = omega arith in rw next at) (omega (arith, behind))) in
      subst (λ (b : Bool). length (cond b (x ∷ filter p xs) (filter p xs)) ≤ 64) (sym first) rest
]

pub few_under_way : (h : HostSide) → IsWholeHost h → length (under_way h.transactions) ≤ 64
few_under_way h whole = few_pass (misses_word h.transactions.rows) (begun_slots h.transactions) whole.in_order.window
