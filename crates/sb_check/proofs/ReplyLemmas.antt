-- Answers go back where their words came from; so those to the words of one transaction are told by where they go.
use Rattle.std.proofs.Common.{◌≡◌, ◌≤◌, ℕ, zero, suc, ◌+◌, ◌*◌, ◌^◌, Bool, true, false, cond, List, [], ◌∷◌, ◌++◌, length, replicate, take, drop, refl, ap, ◌∙◌, arith, subst, Option, Some, None, length-append, length-take}
use Rattle.std.specs.Prelude.{◌-◌, All, filter, filter_map, map, sum_by}
use Rattle.std.specs.List.{cons_option, range_with_len}
use Rattle.std.proofs.lemmas.List.{length-replicate}
use Rattle.std.proofs.lemmas.List.Elements.{All-head, All-tail, filter_map-append}
use Rattle.std.proofs.lemmas.List.Sums.{sum_by-cons}
use Rattle.sb_word.specs.declared.command.Op.{Op}
use Rattle.sb_word.specs.declared.command.Op.TheVariants.{ReqRd, ReqWr, ReqWrPosted, ReqAtomic, RespRd, RespWr}
use Rattle.sb_packet.specs.Accesses.{Access}
use Rattle.sb_packet.specs.Answers.{answer_body, unreached_by}
use Rattle.sb_packet.specs.Memories.{MemoryState, access_answer, access_step, answer_by, answers_in, answers_to, bytes_at, memory_after, old_bytes, reply, write_code}
use Rattle.sb_packet.specs.declared.transaction.Code.{Code}
use Rattle.sb_packet.specs.declared.transaction.Code.TheVariants.{NetErr, Ok}
use Rattle.sb_packet.proofs.FoundAnswers.{answers_in-append}
use Rattle.sb_check.specs.Gathering.{is_reply_to}
use Rattle.sb_check.proofs.OwnWords.{is_word_of}

-- an access answers a word: it goes where that came from, and brings no more bytes than the word has
pub record IsReplyOf (a b : Access) : Type 0 where
  pub host : b.host ≡ a.host
  pub address : b.dst ≡ a.src
  pub short : length b.bytes ≤ 2 ^ a.size

is_reply : (a b : Access) (op : Op) (code : Code) (bytes : List ℕ) → length bytes ≤ 2 ^ a.size → Some (reply a op code bytes) ≡ Some b → IsReplyOf a b
is_reply a b op code bytes short e =
    let same : reply a op code bytes ≡ b = cc in
    subst (IsReplyOf a) same (record { host = refl; address = refl; short = short })

some_bytes : (n : ℕ) (bytes : List ℕ) → length (take n bytes) ≤ n
some_bytes n bytes = simp length-take (omega arith)

old_short : (m : MemoryState) (a : Access) → length (old_bytes m a) ≤ 2 ^ a.size
old_short m a = elim m.readonly as (λ r. length (cond r (replicate (2 ^ a.size) 0) (bytes_at m a)) ≤ 2 ^ a.size) [
  | true ↦ omega (arith, length-replicate {A = ℕ} (2 ^ a.size) 0)
  | false ↦ some_bytes (2 ^ a.size) (drop (a.dst - m.base) m.bytes)
]

-- what a device answers, and what is answered where there is none
pub answer_is : (op : Op) (m : MemoryState) (a b : Access) → answer_by op m a ≡ Some b → IsReplyOf a b
answer_is ReqRd m a b e = is_reply a b RespRd Ok (bytes_at m a) (some_bytes (2 ^ a.size) (drop (a.dst - m.base) m.bytes)) e
answer_is ReqWr m a b e = is_reply a b RespWr (write_code m) [] (omega arith) e
answer_is ReqWrPosted m a b e = absurd (cc)
answer_is ReqAtomic m a b e = is_reply a b RespRd (write_code m) (old_bytes m a) (old_short m a) e
answer_is RespRd m a b e = absurd (cc)
answer_is RespWr m a b e = absurd (cc)

pub unreached_is : (op : Op) (a b : Access) → unreached_by op a ≡ Some b → IsReplyOf a b
unreached_is ReqRd a b e = is_reply a b RespRd NetErr (replicate (2 ^ a.size) 0) (omega (arith, length-replicate {A = ℕ} (2 ^ a.size) 0)) e
unreached_is ReqWr a b e = is_reply a b RespWr NetErr [] (omega arith) e
unreached_is ReqWrPosted a b e = absurd (cc)
unreached_is ReqAtomic a b e = is_reply a b RespRd NetErr (replicate (2 ^ a.size) 0) (omega (arith, length-replicate {A = ℕ} (2 ^ a.size) 0)) e
unreached_is RespRd a b e = absurd (cc)
unreached_is RespWr a b e = absurd (cc)

-- an answer is told just as its word is
told_alike : (id i : ℕ) (a b : Access) → IsReplyOf a b → is_reply_to id i b ≡ is_word_of id i a
told_alike id i a b is = rw (is.host, is.address) refl

-- the answers to one access and to those behind it
pub answers_one : (m : MemoryState) (a : Access) (list : List Access) → answers_to m (a ∷ list) ≡ cons_option (access_answer m a) (answers_to (access_step m a) list)
answers_one m a list = refl

pub answers_to-append : (m : MemoryState) (xs ys : List Access) → answers_to m (xs ++ ys) ≡ answers_to m xs ++ answers_to (memory_after m xs) ys
answers_to-append m xs ys = ap (filter_map (λ (o : Option Access). o)) (answers_in-append m xs ys) ∙ filter_map-append (λ (o : Option Access). o) (answers_in m xs) (answers_in (memory_after m xs) ys)

module _ (id i : ℕ) where
  -- answers to words of the transaction are its answers
  pub all_own : (m : MemoryState) (list : List Access) → All (λ a. is_word_of id i a ≡ true) list → filter (is_reply_to id i) (answers_to m list) ≡ answers_to m list
  all_own m [] own = refl
  all_own m (a ∷ list) own = by_answer (access_answer m a) refl (all_own (access_step m a) list (All-tail (λ a. is_word_of id i a ≡ true) a list own))
    where
      by_answer : (o : Option Access) → access_answer m a ≡ o → filter (is_reply_to id i) (answers_to (access_step m a) list) ≡ answers_to (access_step m a) list
          → filter (is_reply_to id i) (cons_option o (answers_to (access_step m a) list)) ≡ cons_option o (answers_to (access_step m a) list)
      by_answer None e rest = rest
      by_answer (Some b) e rest = rw (told_alike id i a b (answer_is a.op m a b e), All-head (λ a. is_word_of id i a ≡ true) a list own, rest) refl

  -- and answers to others are not
  pub none_own : (m : MemoryState) (list : List Access) → All (λ a. is_word_of id i a ≡ false) list → filter (is_reply_to id i) (answers_to m list) ≡ []
  none_own m [] own = refl
  none_own m (a ∷ list) own = by_answer (access_answer m a) refl (none_own (access_step m a) list (All-tail (λ a. is_word_of id i a ≡ false) a list own))
    where
      by_answer : (o : Option Access) → access_answer m a ≡ o → filter (is_reply_to id i) (answers_to (access_step m a) list) ≡ []
          → filter (is_reply_to id i) (cons_option o (answers_to (access_step m a) list)) ≡ []
      by_answer None e rest = rest
      by_answer (Some b) e rest = rw (told_alike id i a b (answer_is a.op m a b e), All-head (λ a. is_word_of id i a ≡ false) a list own, rest) refl

  -- the answers to the transaction among all are the answers to its words among all
  pub own_answers_are : (answer : Access → Option Access) (list : List Access) → All (λ a. (b : Access) → answer a ≡ Some b → IsReplyOf a b) list
      → filter (is_reply_to id i) (filter_map answer list) ≡ filter_map answer (filter (is_word_of id i) list)
  own_answers_are answer [] are = refl
  own_answers_are answer (a ∷ list) are =
      by_answer (answer a) refl (is_word_of id i a) refl (own_answers_are answer list (All-tail (λ a. (b : Access) → answer a ≡ Some b → IsReplyOf a b) a list are))
    where
      by_answer : (o : Option Access) → answer a ≡ o → (t : Bool) → is_word_of id i a ≡ t → filter (is_reply_to id i) (filter_map answer list) ≡ filter_map answer (filter (is_word_of id i) list)
          → filter (is_reply_to id i) (cons_option o (filter_map answer list)) ≡ filter_map answer (cond t (a ∷ filter (is_word_of id i) list) (filter (is_word_of id i) list))
      by_answer None e true own rest = rw (e, rest) refl
      by_answer None e false own rest = rest
      by_answer (Some b) e true own rest = rw (told_alike id i a b (All-head (λ a. (b : Access) → answer a ≡ Some b → IsReplyOf a b) a list are b e), own, e, rest) refl
      by_answer (Some b) e false own rest = rw (told_alike id i a b (All-head (λ a. (b : Access) → answer a ≡ Some b → IsReplyOf a b) a list are b e), own) rest

  -- the answers to the transaction bring no more bytes than its words have
  pub own_answers_short : (m : MemoryState) (list : List Access) → length (answer_body (filter (is_reply_to id i) (answers_to m list))) ≤ sum_by (λ a. 2 ^ a.size) (filter (is_word_of id i) list)
  own_answers_short m [] = omega arith
  own_answers_short m (a ∷ list) = by_answer (access_answer m a) refl (is_word_of id i a) refl (own_answers_short (access_step m a) list)
    where
      rest : List Access
      rest = answers_to (access_step m a) list

      by_answer : (o : Option Access) → access_answer m a ≡ o → (t : Bool) → is_word_of id i a ≡ t
          → length (answer_body (filter (is_reply_to id i) rest)) ≤ sum_by (λ a. 2 ^ a.size) (filter (is_word_of id i) list)
          → length (answer_body (filter (is_reply_to id i) (cons_option o rest))) ≤ sum_by (λ a. 2 ^ a.size) (cond t (a ∷ filter (is_word_of id i) list) (filter (is_word_of id i) list))
      by_answer None e true own short = omega (arith, short, sum_by-cons (λ (a : Access). 2 ^ a.size) a (filter (is_word_of id i) list))
      by_answer None e false own short = short
      by_answer (Some b) e true own short =
          let is = answer_is a.op m a b e in
          rw (told_alike id i a b is, own) (omega (arith, is.short, short, length-append b.bytes (answer_body (filter (is_reply_to id i) rest)), sum_by-cons (λ (a : Access). 2 ^ a.size) a (filter (is_word_of id i) list)))
      by_answer (Some b) e false own short = rw (told_alike id i a b (answer_is a.op m a b e), own) short

-- so do the answers of no device
pub unreached_short : (list : List Access) → length (answer_body (filter_map (λ a. unreached_by a.op a) list)) ≤ sum_by (λ a. 2 ^ a.size) list
unreached_short [] = omega arith
unreached_short (a ∷ list) = by_answer (unreached_by a.op a) refl (unreached_short list)
  where
    rest : List Access
    rest = filter_map (λ a. unreached_by a.op a) list

    by_answer : (o : Option Access) → unreached_by a.op a ≡ o → length (answer_body rest) ≤ sum_by (λ a. 2 ^ a.size) list
        → length (answer_body (cons_option o rest)) ≤ sum_by (λ a. 2 ^ a.size) (a ∷ list)
    by_answer None e short = omega (arith, short, sum_by-cons (λ (a : Access). 2 ^ a.size) a list)
    by_answer (Some b) e short =
        let is = unreached_is a.op a b e in
        omega (arith, is.short, short, length-append b.bytes (answer_body rest), sum_by-cons (λ (a : Access). 2 ^ a.size) a list)

-- the words of a message have so many bytes together
pub words_long : (f : ℕ → Access) (size : ℕ) → ((j : ℕ) → (f j).size ≡ size) → (a n : ℕ) → sum_by (λ a. 2 ^ a.size) (map f (range_with_len a n)) ≡ n * 2 ^ size
words_long f size same a zero = omega arith
words_long f size same a (suc n) =
    let here : 2 ^ (f a).size ≡ 2 ^ size = ap (λ (s : ℕ). 2 ^ s) (same a) in
    omega (arith, here, words_long f size same (a + 1) n, sum_by-cons (λ (a : Access). 2 ^ a.size) (f a) (map f (range_with_len (a + 1) n)))

-- where each access is answered by one of a list, or each by none, these are the answers
all_some : (list : List Access) → filter_map (λ (o : Option Access). o) (map (λ a. Some a) list) ≡ list
all_some [] = refl
all_some (a ∷ list) = ap (λ (l : List Access). a ∷ l) (all_some list)

pub answers_given : (m : MemoryState) (words given : List Access) → answers_in m words ≡ map (λ a. Some a) given → answers_to m words ≡ given
answers_given m words given are = ap (filter_map (λ (o : Option Access). o)) are ∙ all_some given

all_none : (list : List Access) → filter_map (λ (o : Option Access). o) (map (λ (a : Access). None) list) ≡ []
all_none [] = refl
all_none (a ∷ list) = all_none list

pub answers_none : (m : MemoryState) (words : List Access) → answers_in m words ≡ map (λ _. None) words → answers_to m words ≡ []
answers_none m words are = ap (filter_map (λ (o : Option Access). o)) are ∙ all_none words
