-- Answers among others: each is found by where it goes, its opcode and its size.
use Rattle.std.proofs.Common.{◌≡◌, ◌≢◌, ◌≤◌, ◌<◌, ℕ, zero, suc, Bool, true, false, cond, List, [], ◌∷◌, refl, sym, ap, ◌∙◌, arith, inl, inr}
use Rattle.std.specs.Prelude.{◌==◌, ◌⊎◌, filter, filter_map, All, AllPairs, Contains, Option, Some, None, get_or}
use Rattle.std.specs.List.{find, cons_option}
use Rattle.std.proofs.lemmas.Bool.{cases_lt}
use Rattle.std.proofs.lemmas.Bool.Decides.{nat_tests}
use Rattle.std.proofs.lemmas.List.{get_or_default}
use Rattle.std.proofs.lemmas.List.Elements.{All-nil, All-cons, All-head, All-tail}
use Rattle.sb_packet.specs.Accesses.{Access}
use Rattle.sb_packet.specs.Memories.{MemoryState, access_step, access_answer}
use Rattle.sb_packet.specs.Networks.{Network}
use Rattle.sb_packet.specs.Answers.{answer_at_first}
use Rattle.sb_packet.proofs.FoundAnswers.{same_access_self}
use Rattle.sb_packet.proofs.Lists.{AllPairs-head, AllPairs-tail}
use Rattle.sb_host.specs.Outcomes.{is_answer_to}
use Rattle.sb_laws.proofs.Answering.{IsAnswerOf, other_access}

-- where no two words are answered at one address, what is found for each is its own answer, from some memory
pub own_answers : (m : MemoryState) (list : List Access) → AllPairs (λ a b. a.src ≢ b.src) list → All (λ a. (k : MemoryState) × (answer_at_first m list a ≡ access_answer k a)) list
own_answers m [] apart i d below = absurd (omega arith)
own_answers m (x ∷ list) apart zero d below = (m, ap (λ (b : Bool). cond b (access_answer m x) (answer_at_first (access_step m x) list x)) (same_access_self x))
own_answers m (x ∷ list) apart (suc i) d below =
    let a = get_or list i d in
    let later = own_answers (access_step m x) list (AllPairs-tail (λ a b. a.src ≢ b.src) x list apart) i d (omega arith) in
    let other = other_access x a (AllPairs-head (λ a b. a.src ≢ b.src) x list apart i d (omega arith)) in
    (later.0, ap (λ (b : Bool). cond b (access_answer m x) (answer_at_first (access_step m x) list a)) other ∙ later.1)

-- an answer looks like one, and nothing that goes elsewhere does
pub looks_like : (network : Network) (a b : Access) → IsAnswerOf network a b → is_answer_to a b ≡ true
looks_like network a b is =
    let address : (b.dst == a.src) ≡ true = let same = is.address in grind (arith, nat_tests) in
    let size : (b.size == a.size) ≡ true = let same = is.size in grind (arith, nat_tests) in
    rw (address, size, is.op) refl

goes_elsewhere : (a b : Access) → b.dst ≢ a.src → is_answer_to a b ≡ false
goes_elsewhere a b apart = let other : (b.dst == a.src) ≡ false = grind (arith, nat_tests) in rw other refl

pub goes_there : (a b : Access) → is_answer_to a b ≡ true → b.dst ≡ a.src
goes_there a b e = by_test (b.dst == a.src) refl e
  where
    by_test : (t : Bool) → (b.dst == a.src) ≡ t → is_answer_to a b ≡ true → b.dst ≡ a.src
    by_test true t e = grind (arith, nat_tests)
    by_test false t e = absurd (let not_so : is_answer_to a b ≡ false = rw t refl in cc)

module _ (network : Network) (reply : Access → Option Access) where
  -- the answers that there are to a word are its own
  abbrev pub IsRepliedTo : Access → Type 0
  IsRepliedTo a = (b : Access) → reply a ≡ Some b → IsAnswerOf network a b

  none_later : (a : Access) (list : List Access) → All (λ x. a.src ≢ x.src) list → All IsRepliedTo list → find (is_answer_to a) (filter_map reply list) ≡ None
  none_later a [] apart replied = refl
  none_later a (x ∷ list) apart replied = by_answer (reply x) refl (none_later a list (All-tail (λ x. a.src ≢ x.src) x list apart) (All-tail IsRepliedTo x list replied))
    where
      by_answer : (o : Option Access) → reply x ≡ o → find (is_answer_to a) (filter_map reply list) ≡ None → find (is_answer_to a) (cons_option o (filter_map reply list)) ≡ None
      by_answer None e later = later
      by_answer (Some b) e later =
          let to = (All-head IsRepliedTo x list replied b e).address in
          let away = All-head (λ x. a.src ≢ x.src) x list apart in
          let other : b.dst ≢ a.src = λ same. away (sym same ∙ to) in
          rw (goes_elsewhere a b other) later

  -- among the answers to words with different reply addresses, each word's is found
  pub found_replies : (list : List Access) → AllPairs (λ a b. a.src ≢ b.src) list → All IsRepliedTo list → All (λ a. find (is_answer_to a) (filter_map reply list) ≡ reply a) list
  found_replies [] apart replied i d below = absurd (omega arith)
  found_replies (x ∷ list) apart replied zero d below = by_answer (reply x) refl
    where
      by_answer : (o : Option Access) → reply x ≡ o → find (is_answer_to x) (cons_option o (filter_map reply list)) ≡ o
      by_answer None e = none_later x list (AllPairs-head (λ a b. a.src ≢ b.src) x list apart) (All-tail IsRepliedTo x list replied)
      by_answer (Some b) e = rw (looks_like network x b (All-head IsRepliedTo x list replied b e)) refl
  found_replies (x ∷ list) apart replied (suc i) d below =
      past (get_or list i d) (AllPairs-head (λ a b. a.src ≢ b.src) x list apart i d (omega arith)) (reply x) refl
      ∙ found_replies list (AllPairs-tail (λ a b. a.src ≢ b.src) x list apart) (All-tail IsRepliedTo x list replied) i d (omega arith)
    where
      past : (a : Access) → x.src ≢ a.src → (o : Option Access) → reply x ≡ o → find (is_answer_to a) (cons_option o (filter_map reply list)) ≡ find (is_answer_to a) (filter_map reply list)
      past a away None e = refl
      past a away (Some b) e =
          let to = (All-head IsRepliedTo x list replied b e).address in
          let other : b.dst ≢ a.src = λ same. away (sym to ∙ same) in
          rw (goes_elsewhere a b other) refl

-- what holds of each answer that there is holds of all of them
pub All-replies : (Q : Access → Type 0) (reply : Access → Option Access) (list : List Access) → All (λ a. (b : Access) → reply a ≡ Some b → Q b) list → All Q (filter_map reply list)
All-replies Q reply [] h = All-nil Q
All-replies Q reply (x ∷ list) h = by_answer (reply x) refl (All-replies Q reply list (All-tail (λ a. (b : Access) → reply a ≡ Some b → Q b) x list h))
  where
    by_answer : (o : Option Access) → reply x ≡ o → All Q (filter_map reply list) → All Q (cons_option o (filter_map reply list))
    by_answer None e rest = rest
    by_answer (Some b) e rest = All-cons Q b (filter_map reply list) (All-head (λ a. (b : Access) → reply a ≡ Some b → Q b) x list h b e) rest

-- where all that passes a test passes another, it is found among what passes the other
pub found_within : (p q : Access → Bool) (list : List Access) → All (λ x. p x ≡ true → q x ≡ true) list → find p list ≡ find p (filter q list)
found_within p q [] h = refl
found_within p q (x ∷ list) h = by_tests (p x) refl (q x) refl (found_within p q list (All-tail (λ x. p x ≡ true → q x ≡ true) x list h))
  where
    by_tests : (b : Bool) → p x ≡ b → (c : Bool) → q x ≡ c → find p list ≡ find p (filter q list) → cond (p x) (Some x) (find p list) ≡ find p (cond c (x ∷ filter q list) (filter q list))
    by_tests true t true u later = rw t refl
    by_tests true t false u later = absurd (let yes = All-head (λ x. p x ≡ true → q x ≡ true) x list h t in cc)
    by_tests false t true u later = rw t later
    by_tests false t false u later = rw t later

-- in a list that rises two elements with one reply address are one
pub one_by_address : (list : List Access) → AllPairs (λ a b. a.src < b.src) list → (a b : Access) → Contains list a → Contains list b → a.src ≡ b.src → a ≡ b
one_by_address list rises a b (i, inside, is) (j, within, at) same = by_places (cases_lt i j)
  where
    first : get_or list i a ≡ a
    first = is

    second : get_or list j a ≡ b
    second = get_or_default list j a b within ∙ at

    by_equal : i ≡ j → a ≡ b
    by_equal e = sym first ∙ ap (λ (n : ℕ). get_or list n a) e ∙ second

    by_later : (j < i) ⊎ (i ≤ j) → j ≤ i → a ≡ b
    by_later (inl above) le = let apart : (get_or list j a).src < (get_or list i a).src = rises j i a above inside in let one = ap (λ (x : Access). x.src) first in let two = ap (λ (x : Access). x.src) second in absurd (omega arith)
    by_later (inr below) le = by_equal (omega arith)

    by_places : (i < j) ⊎ (j ≤ i) → a ≡ b
    by_places (inl below) = let apart : (get_or list i a).src < (get_or list j a).src = rises i j a below within in let one = ap (λ (x : Access). x.src) first in let two = ap (λ (x : Access). x.src) second in absurd (omega arith)
    by_places (inr le) = by_later (cases_lt j i) le
