-- The numbers of the transactions that take a slot: with one transaction more, and what a window says of them.
use Rattle.std.proofs.Common.{◌≡◌, ◌≤◌, ◌<◌, ◌+◌, ◌-◌, ℕ, zero, suc, arith, refl, sym, ap, subst, ◌∙◌, inl, inr, length, List, [], ◌∷◌, ◌++◌, Bool, true, false, true≢false, cond, Some, None, length-append, append_assoc, append-nil}
use Rattle.std.specs.Prelude.{◌&&◌, Option, slice_get, nat_lt, filter}
use Rattle.std.specs.List.{range_with_len}
use Rattle.std.specs.Option.{option_map_or}
use Rattle.std.proofs.Math.ListN.{get_or}
use Rattle.std.proofs.lemmas.Bool.{cases_lt}
use Rattle.std.proofs.lemmas.Bool.Decides.{nat_tests}
use Rattle.std.proofs.lemmas.List.Elements.{filter-append}
use Rattle.std.proofs.lemmas.Option.{get_or_from_slice_get, slice_get-get_or, slice_get_past}
use Rattle.sb_flow.specs.Rings.{is_answered_kind}
use Rattle.sb_host.specs.declared.transaction_plan.TransactionPlan.{TransactionPlan}
use Rattle.sb_host.specs.Asked.{Asked}
use Rattle.sb_host.specs.Progress.{HasPassedOver}
use Rattle.sb_host.specs.Windows.{IsWindow, slot_before, slots_taken, takes_slot, takes_slot_at}

-- one number more
range_more : (a n : ℕ) → range_with_len a (n + 1) ≡ range_with_len a n ++ (a + n) ∷ []
range_more a zero = let same : a ≡ a + 0 = omega arith in ap (λ (x : ℕ). x ∷ []) same
range_more a (suc n) =
    let long : suc n + 1 ≡ suc (n + 1) = omega arith in
    let same : a + 1 + n ≡ a + suc n = omega arith in
    ap (range_with_len a) long ∙ ap (λ (l : List ℕ). a ∷ l) (range_more (a + 1) n ∙ ap (λ (x : ℕ). range_with_len (a + 1) n ++ x ∷ []) same)

-- what stands behind a list, and within it
pub got_behind : {X : Type 0} (xs ys : List X) (x : X) → slice_get (xs ++ x ∷ ys) (length xs) ≡ Some x
got_behind [] ys x = refl
got_behind (y ∷ xs) ys x = got_behind xs ys x

pub got_within : {X : Type 0} (xs ys : List X) (k : ℕ) → k < length xs → slice_get (xs ++ ys) k ≡ slice_get xs k
got_within [] ys k below = absurd (omega (arith, below))
got_within (x ∷ xs) ys zero below = refl
got_within (x ∷ xs) ys (suc k) below = got_within xs ys k (omega (arith, below))

-- a number that was kept is within the range, and passes
kept_within : (p : ℕ → Bool) (a n k i : ℕ) → slice_get (filter p (range_with_len a n)) k ≡ Some i → (i < a + n) × (p i ≡ true)
kept_within p a zero k i e = absurd (let none : None ≡ Some i = e in cc)
kept_within p a (suc n) k i e = by_test (p a) refl e (λ j here. kept_within p (a + 1) n j i here)
  where
    Rest : Type 0
    Rest = (j : ℕ) → slice_get (filter p (range_with_len (a + 1) n)) j ≡ Some i → (i < a + 1 + n) × (p i ≡ true)

    further : (i < a + 1 + n) × (p i ≡ true) → (i < a + suc n) × (p i ≡ true)
    further is = let below = is.0 in (omega (arith, below), is.1)

    by_place : (j : ℕ) → p a ≡ true → slice_get (a ∷ filter p (range_with_len (a + 1) n)) j ≡ Some i → Rest → (i < a + suc n) × (p i ≡ true)
    by_place zero passes e rest = let same : a ≡ i = cc in (omega (arith, same), subst (λ x. p x ≡ true) same passes)
    by_place (suc j) passes e rest = further (rest j e)

    by_test : (b : Bool) → p a ≡ b → slice_get (cond b (a ∷ filter p (range_with_len (a + 1) n)) (filter p (range_with_len (a + 1) n))) k ≡ Some i → Rest → (i < a + suc n) × (p i ≡ true)
    by_test false fails e rest = further (rest k e)
    by_test true passes e rest = by_place k passes e rest

-- the line of a transaction says whether it takes a slot
pub takes_by_line : (lines : List TransactionPlan) (i : ℕ) (line : TransactionPlan) → i < length lines → line ≡ get_or lines i line → takes_slot_at lines i ≡ takes_slot line
takes_by_line lines i line below at =
    ap (λ o. option_map_or takes_slot o false) (slice_get-get_or lines i line below) ∙ ap takes_slot (sym at)

-- and there is one that does
pub takes_inside : (lines : List TransactionPlan) (i : ℕ) → takes_slot_at lines i ≡ true → i < length lines
takes_inside lines i takes = elim (cases_lt i (length lines)) [
  | inl below ↦ below
  | inr past ↦ absurd (true≢false (sym takes ∙ ap (λ o. option_map_or takes_slot o false) (slice_get_past lines i past)))
]

-- transactions that are aimed at no device take none
unaimed_at : (lines : List TransactionPlan) (i : ℕ) → ((d : TransactionPlan) → (get_or lines i d).aimed ≡ false) → takes_slot_at lines i ≡ false
unaimed_at lines i unaimed = by_line (slice_get lines i) refl
  where
    by_line : (o : Option TransactionPlan) → slice_get lines i ≡ o → option_map_or takes_slot o false ≡ false
    by_line None e = refl
    by_line (Some x) e = ap (λ (b : Bool). b && is_answered_kind x.txn.kind) (sym (ap (λ (l : TransactionPlan). l.aimed) (get_or_from_slice_get lines i x x e)) ∙ unaimed x)

module _ (lines : List TransactionPlan) where
  slots_next : (n : ℕ) → slots_taken lines (n + 1) ≡ slots_taken lines n ++ cond (takes_slot_at lines n) (n ∷ []) []
  slots_next n =
      let same : 0 + n ≡ n = omega arith in
      ap (filter (takes_slot_at lines)) (range_more 0 n)
      ∙ filter-append (takes_slot_at lines) (range_with_len 0 n) ((0 + n) ∷ [])
      ∙ ap (λ (x : ℕ). slots_taken lines n ++ cond (takes_slot_at lines x) (x ∷ []) []) same

  -- a transaction that takes a slot is one more, and any other none
  pub slots_more : (n : ℕ) → takes_slot_at lines n ≡ true → slots_taken lines (n + 1) ≡ slots_taken lines n ++ n ∷ []
  slots_more n takes = slots_next n ∙ ap (λ (b : Bool). slots_taken lines n ++ cond b (n ∷ []) []) takes

  pub slots_same : (n : ℕ) → takes_slot_at lines n ≡ false → slots_taken lines (n + 1) ≡ slots_taken lines n
  slots_same n not_one = slots_next n ∙ ap (λ (b : Bool). slots_taken lines n ++ cond b (n ∷ []) []) not_one ∙ append-nil (slots_taken lines n)

  pub slots_more_long : (n : ℕ) → takes_slot_at lines n ≡ true → length (slots_taken lines (n + 1)) ≡ length (slots_taken lines n) + 1
  slots_more_long n takes = ap length (slots_more n takes) ∙ length-append (slots_taken lines n) (n ∷ [])

  -- transactions that take no slot are none
  pub slots_passed : (k i : ℕ) → ((j : ℕ) → i ≤ j → j < i + k → takes_slot_at lines j ≡ false) → slots_taken lines (i + k) ≡ slots_taken lines i
  slots_passed zero i none = let same : i + 0 ≡ i = omega arith in ap (slots_taken lines) same
  slots_passed (suc k) i none =
      let same : i + suc k ≡ i + k + 1 = omega arith in
      ap (slots_taken lines) same ∙ slots_same (i + k) (none (i + k) (omega arith) (omega arith)) ∙ slots_passed k i (λ j from below. none j from (omega (arith, below)))

  -- a transaction that took a slot is before the next one, and takes one
  pub slot_within : (n k i : ℕ) → slice_get (slots_taken lines n) k ≡ Some i → (i < n) × (takes_slot_at lines i ≡ true)
  slot_within n k i e = let is = kept_within (takes_slot_at lines) 0 n k i e in let below = is.0 in (omega (arith, below), is.1)

  -- what took a slot before is one of these
  pub before_within : (n i : ℕ) → slot_before lines n ≡ Some i
      → (slice_get (slots_taken lines n) (length (slots_taken lines n) - 64) ≡ Some i) × (64 ≤ length (slots_taken lines n))
  before_within n i e = by_test (nat_lt (length (slots_taken lines n)) 64) refl e
    where
      taken : List ℕ
      taken = slots_taken lines n

      by_test : (b : Bool) → nat_lt (length taken) 64 ≡ b → cond b None (slice_get taken (length taken - 64)) ≡ Some i → (slice_get taken (length taken - 64) ≡ Some i) × (64 ≤ length taken)
      by_test true t e = absurd (let none : None ≡ Some i = e in cc)
      by_test false t e = (e, grind (arith, nat_tests))

  pub before_inside : (n i : ℕ) → slot_before lines n ≡ Some i → i < length lines
  before_inside n i e = takes_inside lines i (slot_within n (length (slots_taken lines n) - 64) i (before_within n i e).0).1

  -- what stands before a transaction that takes a slot, and behind it
  slots_split : (k i : ℕ) → takes_slot_at lines i ≡ true → (rest : List ℕ) × (slots_taken lines (i + 1 + k) ≡ slots_taken lines i ++ i ∷ rest)
  slots_split zero i takes = let same : i + 1 + 0 ≡ i + 1 = omega arith in ([], ap (slots_taken lines) same ∙ slots_more i takes)
  slots_split (suc k) i takes =
      let before = slots_split k i takes in
      let n = i + 1 + k in
      let same : i + 1 + suc k ≡ n + 1 = omega arith in
      let more = cond (takes_slot_at lines n) (n ∷ []) [] in
      (before.0 ++ more, ap (slots_taken lines) same ∙ slots_next n ∙ ap (λ (l : List ℕ). l ++ more) before.1 ∙ append_assoc (slots_taken lines i) (i ∷ before.0) more)

  module _ (n oldest taken : ℕ) (is : IsWindow lines n oldest taken) where
    -- where fewer than 64 took a slot, the next one takes a new one
    none_before : taken < 64 → slot_before lines n ≡ None
    none_before few =
        let none = is.all few in
        let all = is.counted in
        let short : length (slots_taken lines n) < 64 = omega (arith, few, none, all) in
        let test : nat_lt (length (slots_taken lines n)) 64 ≡ true = grind (arith, nat_tests) in
        ap (λ (b : Bool). cond b None (slice_get (slots_taken lines n) (length (slots_taken lines n) - 64))) test

    -- and else that of the oldest
    pub oldest_before : 64 ≤ taken → slot_before lines n ≡ Some oldest
    oldest_before full =
        let few = is.few in
        let all = is.counted in
        let behind = is.behind in
        let takes = is.first (omega (arith, full)) in
        let k = n - (oldest + 1) in
        let apart : oldest < n = by_counts behind all full in
        let here : oldest + 1 + k ≡ n = omega (arith, apart) in
        let split = slots_split k oldest takes in
        let whole : slots_taken lines n ≡ slots_taken lines oldest ++ oldest ∷ split.0 = ap (slots_taken lines) (sym here) ∙ split.1 in
        let long : 64 ≤ length (slots_taken lines n) = omega (arith, full, all) in
        let test : nat_lt (length (slots_taken lines n)) 64 ≡ false = grind (arith, nat_tests) in
        let place : length (slots_taken lines n) - 64 ≡ length (slots_taken lines oldest) = omega (arith, all, full, few) in
        ap (λ (b : Bool). cond b None (slice_get (slots_taken lines n) (length (slots_taken lines n) - 64))) test
        ∙ ap (slice_get (slots_taken lines n)) place
        ∙ ap (λ (l : List ℕ). slice_get l (length (slots_taken lines oldest))) whole
        ∙ got_behind (slots_taken lines oldest) split.0 oldest
      where
        by_counts : oldest ≤ n → length (slots_taken lines oldest) + taken ≡ length (slots_taken lines n) → 64 ≤ taken → oldest < n
        by_counts behind all full = elim (cases_lt oldest n) [
          | inl apart ↦ apart
          | inr past ↦
              let same : oldest ≡ n = omega (arith, behind, past) in
              let counts = ap (λ (x : ℕ). length (slots_taken lines x)) same in
              absurd (omega (arith, counts, all, full))
        ]

  -- transactions that take no slot leave the window as it was
  pub window_same : (n m oldest taken : ℕ) → n ≤ m → slots_taken lines m ≡ slots_taken lines n → IsWindow lines n oldest taken → IsWindow lines m oldest taken
  window_same n m oldest taken onward same is = record {
    behind = let behind = is.behind in omega (arith, behind, onward);
    counted = is.counted ∙ sym (ap length same);
    few = is.few;
    all = is.all;
    first = is.first;
  }

  -- one that takes a slot comes to it
  module _ (n oldest taken oldest_then : ℕ) (takes : takes_slot_at lines n ≡ true) (is : IsWindow lines n oldest taken) (within : oldest_then ≤ n) (first : takes_slot_at lines oldest_then ≡ true) where
    pub window_more : taken < 64 → slots_taken lines oldest_then ≡ slots_taken lines oldest → IsWindow lines (n + 1) oldest_then (taken + 1)
    window_more few same =
        let all = is.counted in
        let long = ap length same in
        let more = slots_more_long n takes in
        let none = is.all few in record {
          behind = omega (arith, within);
          counted = omega (arith, all, long, more);
          few = omega (arith, few);
          all = λ lt. omega (arith, long, none);
          first = λ some. first;
        }

    pub window_moved : taken ≡ 64 → slots_taken lines oldest_then ≡ slots_taken lines (oldest + 1) → IsWindow lines (n + 1) oldest_then taken
    window_moved full same =
        let all = is.counted in
        let long = ap length same in
        let more = slots_more_long n takes in
        let old = slots_more_long oldest (is.first (omega (arith, full))) in record {
          behind = omega (arith, within);
          counted = omega (arith, all, long, more, old);
          few = is.few;
          all = λ lt. absurd (omega (arith, lt, full));
          first = λ some. first;
        }

-- transactions that were passed over took no slot
pub slots_passed_over : (asked : Asked) (before after : ℕ) → HasPassedOver asked before after → slots_taken asked.lines after ≡ slots_taken asked.lines before
slots_passed_over asked before after passed =
    let onward = passed.onward in
    let whole : before + (after - before) ≡ after = omega (arith, onward) in
    ap (slots_taken asked.lines) (sym whole)
    ∙ slots_passed asked.lines (after - before) before (λ j from below. unaimed_at asked.lines j (λ d. passed.unaimed j d from (omega (arith, below, whole))))
