-- The answers that a device gives, seen word by word.
use Rattle.std.proofs.Common.{◌≡◌, ◌≢◌, ◌≤◌, Bool, true, false, cond, List, [], ◌∷◌, length, refl, sym, ap, ◌∙◌, arith, subst}
use Rattle.std.specs.Prelude.{◌==◌, filter, filter_map, All, AllPairs, Option, Some, None}
use Rattle.std.specs.List.{cons_option}
use Rattle.std.proofs.lemmas.Bool.Decides.{nat_tests}
use Rattle.std.proofs.lemmas.List.Elements.{All-filter, All-head, All-tail}
use Rattle.sb_word.specs.declared.command.Op.{Op}
use Rattle.sb_word.specs.declared.command.Op.TheVariants.{ReqRd, ReqWr, ReqWrPosted, ReqAtomic, RespRd, RespWr}
use Rattle.sb_packet.specs.Accesses.{Access}
use Rattle.sb_packet.specs.Memories.{MemoryState, access_step, access_answer, answers_in, answer_by, reply, bytes_at, write_code, old_bytes}
use Rattle.sb_packet.specs.declared.transaction.Code.TheVariants as the_codes
use Rattle.sb_packet.specs.Networks.{Network}
use Rattle.sb_packet.specs.Answers.{answer_at_first, same_access}
use Rattle.sb_packet.specs.Journals.{is_request}
use Rattle.sb_link.specs.RingPlans.{NetFlow}
use Rattle.sb_packet.proofs.FoundAnswers.{same_access_self}
use Rattle.sb_packet.proofs.Lists.{AllPairs-head, AllPairs-tail}
use Rattle.sb_flow.specs.Rings.{is_answered}
use Rattle.sb_laws.specs.Flows.{is_of, words_of_flow}
use Rattle.sb_host.specs.Outcomes.{is_answered_by}

-- the answers to some words, one step after another
abbrev pub given : MemoryState → List Access → List Access
given m list = filter_map (λ answer. answer) (answers_in m list)

-- what an answer has of the word that it answers
pub record IsAnswerOf (network : Network) (a b : Access) : Type 0 where
  pub flow : (f : NetFlow) → is_of network f b ≡ is_of network f a
  pub address : b.dst ≡ a.src
  pub op : is_answered_by a.op b.op ≡ true
  pub size : b.size ≡ a.size

pub answer_is : (network : Network) (m : MemoryState) (a b : Access) → access_answer m a ≡ Some b → IsAnswerOf network a b
answer_is network m a b e = by_op a.op refl e
  where
    from_it : (x : Access) → Some x ≡ Some b → IsAnswerOf network a x → IsAnswerOf network a b
    from_it x some is = let same : x ≡ b = cc in subst (IsAnswerOf network a) same is

    by_op : (op : Op) → a.op ≡ op → answer_by op m a ≡ Some b → IsAnswerOf network a b
    by_op ReqRd is e = from_it (reply a RespRd the_codes.Ok (bytes_at m a)) e (record { flow = λ f. rw is refl; address = refl; op = rw is refl; size = refl })
    by_op ReqWr is e = from_it (reply a RespWr (write_code m) []) e (record { flow = λ f. rw is refl; address = refl; op = rw is refl; size = refl })
    by_op ReqWrPosted is e = absurd (cc)
    by_op ReqAtomic is e = from_it (reply a RespRd (write_code m) (old_bytes m a)) e (record { flow = λ f. rw is refl; address = refl; op = rw is refl; size = refl })
    by_op RespRd is e = absurd (cc)
    by_op RespWr is e = absurd (cc)

-- a word that asks and is answered has an answer, and a posted one has none
pub answered_has_one : (m : MemoryState) (a : Access) → is_request a.op ≡ true → is_answered a.op ≡ true → access_answer m a ≡ None → ⊥
answered_has_one m a asks t e = by_op a.op asks t e
  where
    by_op : (op : Op) → is_request op ≡ true → is_answered op ≡ true → answer_by op m a ≡ None → ⊥
    by_op ReqRd asks t e = cc
    by_op ReqWr asks t e = cc
    by_op ReqWrPosted asks t e = cc
    by_op ReqAtomic asks t e = cc
    by_op RespRd asks t e = cc
    by_op RespWr asks t e = cc

pub others_have_none : (m : MemoryState) (a : Access) → is_answered a.op ≡ false → access_answer m a ≡ None
others_have_none m a t = by_op a.op t
  where
    by_op : (op : Op) → is_answered op ≡ false → answer_by op m a ≡ None
    by_op ReqRd t = absurd (cc)
    by_op ReqWr t = absurd (cc)
    by_op ReqWrPosted t = refl
    by_op ReqAtomic t = absurd (cc)
    by_op RespRd t = absurd (cc)
    by_op RespWr t = absurd (cc)

-- words with other reply addresses are others
pub other_access : (x a : Access) → x.src ≢ a.src → same_access x a ≡ false
other_access x a apart =
    let other : (x.src == a.src) ≡ false = grind (arith, nat_tests) in
    rw other refl

-- words that are not x are answered by what comes after x
past : (m : MemoryState) (x : Access) (list words : List Access) → All (λ a. x.src ≢ a.src) words →
    filter_map (answer_at_first m (x ∷ list)) words ≡ filter_map (answer_at_first (access_step m x) list) words
past m x list [] h = refl
past m x list (a ∷ words) h =
    let here : answer_at_first m (x ∷ list) a ≡ answer_at_first (access_step m x) list a =
    ap (λ (b : Bool). cond b (access_answer m x) (answer_at_first (access_step m x) list a)) (other_access x a (All-head (λ a. x.src ≢ a.src) a words h)) in
    rw (here, past m x list words (All-tail (λ a. x.src ≢ a.src) a words h)) refl

module _ (network : Network) (f : NetFlow) where
  -- the answer to a word is of the flow exactly where the word is
  answer_kept : (b : Bool) (o : Option Access) (rest : List Access) → ((x : Access) → o ≡ Some x → is_of network f x ≡ b) →
      words_of_flow network f (cons_option o rest) ≡ cond b (cons_option o (words_of_flow network f rest)) (words_of_flow network f rest)
  answer_kept true None rest h = refl
  answer_kept false None rest h = refl
  answer_kept true (Some x) rest h = rw (h x refl) refl
  answer_kept false (Some x) rest h = rw (h x refl) refl

  first_kept : (m : MemoryState) (x : Access) (list : List Access) →
      words_of_flow network f (given m (x ∷ list)) ≡ cond (is_of network f x) (cons_option (access_answer m x) (words_of_flow network f (given (access_step m x) list))) (words_of_flow network f (given (access_step m x) list))
  first_kept m x list = answer_kept (is_of network f x) (access_answer m x) (given (access_step m x) list) (λ y e. (answer_is network m x y e).flow f)

  -- the answers to a flow's words are what is found for each of them at its first place
  pub flow_answers_found : (m : MemoryState) (list : List Access) → AllPairs (λ a b. a.src ≢ b.src) list →
      words_of_flow network f (given m list) ≡ filter_map (answer_at_first m list) (words_of_flow network f list)
  flow_answers_found m [] apart = refl
  flow_answers_found m (x ∷ list) apart = first_kept m x list ∙ by_flow (is_of network f x) (flow_answers_found (access_step m x) list (AllPairs-tail (λ a b. a.src ≢ b.src) x list apart))
    where
      skipped : filter_map (answer_at_first m (x ∷ list)) (words_of_flow network f list) ≡ filter_map (answer_at_first (access_step m x) list) (words_of_flow network f list)
      skipped = past m x list (words_of_flow network f list) (All-filter (is_of network f) (λ a. x.src ≢ a.src) list (AllPairs-head (λ a b. a.src ≢ b.src) x list apart))

      here : answer_at_first m (x ∷ list) x ≡ access_answer m x
      here = ap (λ (b : Bool). cond b (access_answer m x) (answer_at_first (access_step m x) list x)) (same_access_self x)

      by_flow : (b : Bool) → words_of_flow network f (given (access_step m x) list) ≡ filter_map (answer_at_first (access_step m x) list) (words_of_flow network f list) →
          cond b (cons_option (access_answer m x) (words_of_flow network f (given (access_step m x) list))) (words_of_flow network f (given (access_step m x) list))
          ≡ filter_map (answer_at_first m (x ∷ list)) (cond b (x ∷ words_of_flow network f list) (words_of_flow network f list))
      by_flow true later = rw (here, skipped, later) refl
      by_flow false later = later ∙ sym skipped

  -- there are no more answers than words that are answered
  pub answers_are_few : (m : MemoryState) (list : List Access) → length (words_of_flow network f (given m list)) ≤ length (filter (λ a. is_answered a.op) (words_of_flow network f list))
  answers_are_few m [] = omega arith
  answers_are_few m (x ∷ list) = rw (first_kept m x list) (by_flow (is_of network f x) (answers_are_few (access_step m x) list))
    where
      rest : List Access
      rest = words_of_flow network f (given (access_step m x) list)

      wanted : List Access
      wanted = filter (λ a. is_answered a.op) (words_of_flow network f list)

      by_answer : (b : Bool) → is_answered x.op ≡ b → (o : Option Access) → access_answer m x ≡ o → length rest ≤ length wanted → length (cons_option o rest) ≤ length (cond b (x ∷ wanted) wanted)
      by_answer b t None e later = elim b as (λ c. length rest ≤ length (cond c (x ∷ wanted) wanted)) [ true ↦ omega arith | false ↦ later ]
      by_answer true t (Some y) e later = omega arith
      by_answer false t (Some y) e later = absurd (let none = others_have_none m x t in cc)

      by_flow : (b : Bool) → length rest ≤ length wanted → length (cond b (cons_option (access_answer m x) rest) rest) ≤ length (filter (λ a. is_answered a.op) (cond b (x ∷ words_of_flow network f list) (words_of_flow network f list)))
      by_flow true later = by_answer (is_answered x.op) refl (access_answer m x) refl later
      by_flow false later = later
