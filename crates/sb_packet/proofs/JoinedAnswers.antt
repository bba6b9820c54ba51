-- What the answers of a message come to, and those of one list after another.
use Rattle.std.proofs.Common.{◌≡◌, ◌≤◌, ◌<◌, ℕ, zero, suc, ◌+◌, ◌*◌, ◌^◌, List, [], ◌∷◌, ◌++◌, refl, ap, ◌∙◌, arith, take, drop, zero-mul}
use Rattle.std.specs.Prelude.{map, fold, max}
use Rattle.std.specs.List.{range_with_len}
use Rattle.std.proofs.lemmas.Grind.{flat_map-append}
use Rattle.std.proofs.lemmas.List.{map-append}
use Rattle.std.proofs.lemmas.List.Folds.{flat_map-map}
use Rattle.sb_packet.specs.Accesses.{Access, access_at, message_accesses}
use Rattle.sb_packet.specs.Messages.{Message, message_span}
use Rattle.sb_packet.specs.Answers.{answer_code, answer_body}
use Rattle.sb_packet.proofs.Shares.{shares_joined}

-- the greatest from a number on
greatest_from : (n : ℕ) (xs : List ℕ) → fold max n xs ≡ max n (fold max 0 xs)
greatest_from n [] = omega arith
greatest_from n (x ∷ xs) =
    let from_x : fold max (max 0 x) xs ≡ max (max 0 x) (fold max 0 xs) = greatest_from (max 0 x) xs in
    let from_n : fold max (max n x) xs ≡ max (max n x) (fold max 0 xs) = greatest_from (max n x) xs in
    rw (from_n, from_x) (omega arith)

greatest-append : (n : ℕ) (xs ys : List ℕ) → fold max n (xs ++ ys) ≡ fold max (fold max n xs) ys
greatest-append n [] ys = refl
greatest-append n (x ∷ xs) ys = greatest-append (max n x) xs ys

-- The code of answers is the greater of the codes of the first and of the others.
pub answer_code-append : (xs ys : List Access) → answer_code (xs ++ ys) ≡ max (answer_code xs) (answer_code ys)
answer_code-append xs ys =
    ap (fold max 0) (map-append (λ (a : Access). a.tail) xs ys)
    ∙ greatest-append 0 (map (λ (a : Access). a.tail) xs) (map (λ (a : Access). a.tail) ys)
    ∙ greatest_from (answer_code xs) (map (λ (a : Access). a.tail) ys)

-- Their body is the one and then the other.
pub answer_body-append : (xs ys : List Access) → answer_body (xs ++ ys) ≡ answer_body xs ++ answer_body ys
answer_body-append xs ys = flat_map-append (λ (a : Access). a.bytes) xs ys

-- codes that are all one
one_code : (code : ℕ) (f : ℕ → Access) (n a k : ℕ) → ((j : ℕ) → (f j).tail ≡ code) → code ≤ n → fold max n (map (λ (x : Access). x.tail) (map f (range_with_len a k))) ≡ n
one_code code f n a zero same low = refl
one_code code f n a (suc k) same low =
    let kept : max n (f a).tail ≡ n = let here = same a in omega arith in
    ap (λ (least : ℕ). fold max least (map (λ (x : Access). x.tail) (map f (range_with_len (a + 1) k)))) kept ∙ one_code code f n (a + 1) k same low

-- The words of a message have its code.
pub code_of_message : (m : Message) → 0 < m.count → answer_code (message_accesses m) ≡ m.tail
code_of_message m some = from_count m.count some where
  from_count : (k : ℕ) → 0 < k → fold max 0 (map (λ (x : Access). x.tail) (map (access_at m) (range_with_len 0 k))) ≡ m.tail
  from_count zero none = absurd (omega arith)
  from_count (suc k) more =
      let first : max 0 m.tail ≡ m.tail = omega arith in
      ap (λ (least : ℕ). fold max least (map (λ (x : Access). x.tail) (map (access_at m) (range_with_len 1 k)))) first ∙ one_code m.tail (access_at m) m.tail 1 k (λ j. refl) (omega arith)

-- shares one after another are the bytes that they are shares of
joined_shares : (m : Message) (a k : ℕ) → answer_body (map (access_at m) (range_with_len a k)) ≡ take (k * 2 ^ m.size) (drop (a * 2 ^ m.size) m.bytes)
joined_shares m a k = flat_map-map (λ (x : Access). x.bytes) (access_at m) (range_with_len a k) ∙ shares_joined m.size m.bytes a k

-- The bytes of its words are those that it carries, as far as it speaks of them.
pub body_of_message : (m : Message) → answer_body (message_accesses m) ≡ take (message_span m) m.bytes
body_of_message m = joined_shares m 0 m.count ∙ ap (λ (k : ℕ). take (message_span m) (drop k m.bytes)) (zero-mul (2 ^ m.size))
