-- Entries that are collected device by device: of each device they have its own, in order.
use Rattle.std.proofs.Common.{◌≡◌, ◌≢◌, ℕ, zero, suc, ◌+◌, ◌<◌, ◌≤◌, Bool, true, false, List, [], ◌∷◌, ◌++◌, refl, sym, ap, ◌∙◌, subst, arith, append-nil}
use Rattle.std.specs.Prelude.{◌==◌, ◌&&◌, ◌||◌, nat_lt, nat_le, filter, flat_map, All, IsTrue, slice_index_or}
use Rattle.std.specs.List.{range_with_len}
use Rattle.std.proofs.lemmas.Bool.Decides.{nat_tests}
use Rattle.std.proofs.lemmas.List.Elements.{All-append, All-head, All-nil, All-tail, All-weaker, filter-append}
use Rattle.sb_packet.proofs.Lists.{filter_all, filter_none}
use Rattle.sb_packet.specs.Journals.{is_in_round_order, may_follow}
use Rattle.sb_packet.specs.declared.entry.Entry.{Entry}
use Rattle.sb_member.proofs.RingsJoined.{same_or_not}

-- an entry is at a device
abbrev pub is_of_device : ℕ → Entry → Bool
is_of_device d e = e.device == d

pub filter_own : (d : ℕ) (list : List Entry) → All (λ e. e.device ≡ d) list → filter (is_of_device d) list ≡ list
filter_own d list own = filter_all (is_of_device d) list (All-weaker (λ e. e.device ≡ d) (λ e. is_of_device d e ≡ true) (λ e here. grind (arith, nat_tests)) list own)

pub filter_other : (d c : ℕ) (list : List Entry) → c ≢ d → All (λ e. e.device ≡ c) list → filter (is_of_device d) list ≡ []
filter_other d c list apart own =
    filter_none (is_of_device d) list (All-weaker (λ e. e.device ≡ c) (λ e. is_of_device d e ≡ false) (λ e here. let not_here : e.device ≢ d = λ same. apart (sym here ∙ same) in grind (arith, nat_tests)) list own)

-- both of two facts hold
pub true_and : (a b : Bool) → a ≡ true → b ≡ true → (a && b) ≡ true
true_and true b e f = f
true_and false b e f = absurd (cc)

first_true : (a b : Bool) → (a && b) ≡ true → a ≡ true
first_true true b e = refl
first_true false b e = e

second_true : (a b : Bool) → (a && b) ≡ true → b ≡ true
second_true true b e = e
second_true false b e = absurd (cc)

-- lists in order are in order one behind the other, where each entry of the second may follow each of the first
pub ordered-append : (xs ys : List Entry) → IsTrue (is_in_round_order xs) → IsTrue (is_in_round_order ys)
    → All (λ a. All (λ b. may_follow a b ≡ true) ys) xs → IsTrue (is_in_round_order (xs ++ ys))
ordered-append [] ys one other follow = other
ordered-append (a ∷ []) [] one other follow = refl
ordered-append (a ∷ []) (b ∷ ys) one other follow =
    true_and (may_follow a b) (is_in_round_order (b ∷ ys)) (All-head (λ b. may_follow a b ≡ true) b ys (All-head (λ a. All (λ b. may_follow a b ≡ true) (b ∷ ys)) a [] follow)) other
ordered-append (a ∷ b ∷ xs) ys one other follow =
    true_and (may_follow a b) (is_in_round_order (b ∷ (xs ++ ys))) (first_true (may_follow a b) (is_in_round_order (b ∷ xs)) one)
    (ordered-append (b ∷ xs) ys (second_true (may_follow a b) (is_in_round_order (b ∷ xs)) one) other (All-tail (λ a. All (λ b. may_follow a b ≡ true) ys) a (b ∷ xs) follow))

pub follows_later : (a b : Entry) → a.round < b.round → may_follow a b ≡ true
follows_later a b lt = let test : nat_lt a.round b.round ≡ true = grind (arith, nat_tests) in
    ap (λ (t : Bool). t || ((a.round == b.round) && nat_le a.device b.device)) test

pub follows_beside : (a b : Entry) → a.round ≡ b.round → a.device ≤ b.device → may_follow a b ≡ true
follows_beside a b same le =
    let test : nat_lt a.round b.round ≡ false = grind (arith, nat_tests) in
    let round : (a.round == b.round) ≡ true = grind (arith, nat_tests) in
    let device : nat_le a.device b.device ≡ true = grind (arith, nat_tests) in
    ap (λ (t : Bool). t || ((a.round == b.round) && nat_le a.device b.device)) test
    ∙ true_and (a.round == b.round) (nat_le a.device b.device) round device

pub ordered_alike : (round d : ℕ) (list : List Entry) → All (λ e. e.round ≡ round) list → All (λ e. e.device ≡ d) list → IsTrue (is_in_round_order list)
ordered_alike round d [] rounds own = refl
ordered_alike round d (a ∷ []) rounds own = refl
ordered_alike round d (a ∷ b ∷ list) rounds own =
    let later = All-tail (λ e. e.round ≡ round) a (b ∷ list) rounds in
    let others = All-tail (λ e. e.device ≡ d) a (b ∷ list) own in
    let same : a.round ≡ b.round = All-head (λ e. e.round ≡ round) a (b ∷ list) rounds ∙ sym (All-head (λ e. e.round ≡ round) b list later) in
    let le : a.device ≤ b.device = (let p = All-head (λ e. e.device ≡ d) a (b ∷ list) own in let q = All-head (λ e. e.device ≡ d) b list others in omega (arith, p, q)) in
    true_and (may_follow a b) (is_in_round_order (b ∷ list)) (follows_beside a b same le) (ordered_alike round d (b ∷ list) later others)

-- What each device gives, for those from one on.
module _ (given : ℕ → List Entry) (n : ℕ) where
  abbrev all_given : ℕ → ℕ → List Entry
  all_given start m = flat_map given (range_with_len start m)

  pub all_collected : (P : Entry → Type 0) → ((d : ℕ) → d < n → All P (given d)) → (start m : ℕ) → start + m ≤ n → All P (flat_map given (range_with_len start m))
  all_collected P each start zero le = All-nil P
  all_collected P each start (suc m) le =
      All-append P (given start) (all_given (start + 1) m) (each start (omega (arith, le))) (all_collected P each (start + 1) m (omega (arith, le)))

  pub none_collected : ((d : ℕ) → d < n → given d ≡ []) → (start m : ℕ) → start + m ≤ n → flat_map given (range_with_len start m) ≡ []
  none_collected none start zero le = refl
  none_collected none start (suc m) le =
      ap (λ (list : List Entry). list ++ all_given (start + 1) m) (none start (omega (arith, le))) ∙ none_collected none (start + 1) m (omega (arith, le))

  module _ (own : (d : ℕ) → d < n → All (λ e. e.device ≡ d) (given d)) where
    none_before : (d start m : ℕ) → d < start → start + m ≤ n → filter (is_of_device d) (flat_map given (range_with_len start m)) ≡ []
    none_before d start zero lt le = refl
    none_before d start (suc m) lt le =
        filter-append (is_of_device d) (given start) (all_given (start + 1) m)
        ∙ ap (λ (list : List Entry). list ++ filter (is_of_device d) (all_given (start + 1) m)) (filter_other d start (given start) (λ e. omega (arith, lt, e)) (own start (omega (arith, le))))
        ∙ none_before d (start + 1) m (omega (arith, lt)) (omega (arith, le))

    pub own_collected : (d start m : ℕ) → start ≤ d → d < start + m → start + m ≤ n → filter (is_of_device d) (flat_map given (range_with_len start m)) ≡ given d
    own_collected d start zero low lt le = absurd (omega (arith, low, lt))
    own_collected d start (suc m) low lt le =
        filter-append (is_of_device d) (given start) (all_given (start + 1) m)
        ∙ same_or_not start d
        (λ e.
        ap (λ (list : List Entry). list ++ filter (is_of_device d) (all_given (start + 1) m))
        (filter_own d (given start) (subst (λ (c : ℕ). All (λ e. e.device ≡ c) (given start)) e (own start (omega (arith, le)))) ∙ ap given e)
        ∙ ap (λ (list : List Entry). given d ++ list) (none_before d (start + 1) m (omega (arith, e)) (omega (arith, le)))
        ∙ append-nil (given d))
        (λ apart.
        ap (λ (list : List Entry). list ++ filter (is_of_device d) (all_given (start + 1) m)) (filter_other d start (given start) apart (own start (omega (arith, le))))
        ∙ own_collected d (start + 1) m (further start d low apart) (omega (arith, lt)) (omega (arith, le)))
      where
        further : (a b : ℕ) → a ≤ b → a ≢ b → a + 1 ≤ b
        further zero zero le apart = absurd (apart refl)
        further zero (suc b) le apart = omega arith
        further (suc a) zero le apart = absurd (omega (arith, le))
        further (suc a) (suc b) le apart = let more = further a b (omega (arith, le)) (λ e. apart (ap suc e)) in omega (arith, more)

    none_below : (start m : ℕ) → start + m ≤ n → All (λ e. start ≤ e.device) (flat_map given (range_with_len start m))
    none_below start zero le = All-nil (λ e. start ≤ e.device)
    none_below start (suc m) le =
        All-append (λ e. start ≤ e.device) (given start) (all_given (start + 1) m)
        (All-weaker (λ e. e.device ≡ start) (λ e. start ≤ e.device) (λ e same. omega (arith, same)) (given start) (own start (omega (arith, le))))
        (All-weaker (λ e. start + 1 ≤ e.device) (λ e. start ≤ e.device) (λ e more. omega (arith, more)) (all_given (start + 1) m) (none_below (start + 1) m (omega (arith, le))))

    -- what is collected in one round is in order
    pub ordered_collected : (round : ℕ) → ((d : ℕ) → d < n → All (λ e. e.round ≡ round) (given d)) → (start m : ℕ) → start + m ≤ n → IsTrue (is_in_round_order (flat_map given (range_with_len start m)))
    ordered_collected round rounds start zero le = refl
    ordered_collected round rounds start (suc m) le =
        let here = rounds start (omega (arith, le)) in
        let mine = own start (omega (arith, le)) in
        let later = all_collected (λ e. e.round ≡ round) rounds (start + 1) m (omega (arith, le)) in
        let above = none_below (start + 1) m (omega (arith, le)) in
        ordered-append (given start) (all_given (start + 1) m) (ordered_alike round start (given start) here mine) (ordered_collected round rounds (start + 1) m (omega (arith, le)))
        (λ i x lt j y below.
        let p = here i x lt in let q = mine i x lt in let u = later j y below in let v = above j y below in
        follows_beside (slice_index_or (given start) i x) (slice_index_or (all_given (start + 1) m) j y) (p ∙ sym u) (omega (arith, q, v)))
