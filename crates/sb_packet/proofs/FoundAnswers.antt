-- Where no two accesses have one reply address, the answer at the first place of an access is its answer in the run.
use Rattle.std.proofs.Common.{◌≡◌, ◌≢◌, ◌<◌, ℕ, suc, List, [], ◌∷◌, ◌++◌, ap, sym, ◌∙◌, refl, arith, append_assoc, subst, Bool, true, false, cond, length}
use Rattle.std.specs.Prelude.{◌==◌, Option, Some, None, map, bytes_eq, AllPairs}
use Rattle.std.proofs.lemmas.Bool.Decides.{nat_tests}
use Rattle.std.proofs.lemmas.List.Elements.{All-head}
use Rattle.sb_packet.specs.Accesses.{Access}
use Rattle.sb_packet.specs.Memories.{MemoryState, access_step, access_answer, answers_in, memory_after}
use Rattle.sb_packet.specs.Answers.{same_access, same_bool, answer_at_first, same_atomic}
use Rattle.sb_word.specs.Atomics.{atomic_number}
use Rattle.sb_word.specs.declared.atomic.AtomicOp.{AtomicOp}
use Rattle.sb_packet.proofs.Lists.{All-right, AllPairs-head, AllPairs-tail}

eq_self : (n : ℕ) → (n == n) ≡ true
eq_self n = grind (arith, nat_tests)

pub eq_below : (a b : ℕ) → a < b → (a == b) ≡ false
eq_below a b h = grind (arith, nat_tests)

bool_self : (b : Bool) → same_bool b b ≡ true
bool_self true = refl
bool_self false = refl

atomic_self : (a : Option AtomicOp) → same_atomic a a ≡ true
atomic_self None = refl
atomic_self (Some a) = eq_self (atomic_number a)

bytes_self : (xs : List ℕ) → bytes_eq xs xs ≡ true
bytes_self [] = refl
bytes_self (x ∷ xs) = simp (eq_self, bytes_self xs)

-- an access is itself
pub same_access_self : (a : Access) → same_access a a ≡ true
same_access_self a = simp (eq_self, atomic_self, bool_self, bytes_self)

-- accesses with other reply addresses are others
same_access_apart : (x a : Access) → x.src ≢ a.src → same_access x a ≡ false
same_access_apart x a apart =
    let other : (x.src == a.src) ≡ false = grind (arith, nat_tests) in
    rw other refl

-- the memory after one run and another
pub memory_after-append : (m : MemoryState) (xs ys : List Access) → memory_after m (xs ++ ys) ≡ memory_after (memory_after m xs) ys
memory_after-append m [] ys = refl
memory_after-append m (x ∷ xs) ys = memory_after-append (access_step m x) xs ys

-- the answers in one run and another
pub answers_in-append : (m : MemoryState) (xs ys : List Access) → answers_in m (xs ++ ys) ≡ answers_in m xs ++ answers_in (memory_after m xs) ys
answers_in-append m [] ys = refl
answers_in-append m (x ∷ xs) ys = ap (λ (rest : List (Option Access)). access_answer m x ∷ rest) (answers_in-append (access_step m x) xs ys)

-- a run has a place for each access
pub length-answers_in : (m : MemoryState) (xs : List Access) → length (answers_in m xs) ≡ length xs
length-answers_in m [] = refl
length-answers_in m (x ∷ xs) = ap (λ (n : ℕ). suc n) (length-answers_in (access_step m x) xs)

-- an access is found behind others
found_behind : (m : MemoryState) (xs : List Access) (a : Access) (ys : List Access) → AllPairs (λ a b. a.src ≢ b.src) (xs ++ a ∷ ys) → answer_at_first m (xs ++ a ∷ ys) a ≡ access_answer (memory_after m xs) a
found_behind m [] a ys apart = ap (λ (b : Bool). cond b (access_answer m a) (answer_at_first (access_step m a) ys a)) (same_access_self a)
found_behind m (x ∷ xs) a ys apart =
    let others = All-right (λ b. x.src ≢ b.src) xs (a ∷ ys) (AllPairs-head (λ a b. a.src ≢ b.src) x (xs ++ a ∷ ys) apart) in
    ap (λ (b : Bool). cond b (access_answer m x) (answer_at_first (access_step m x) (xs ++ a ∷ ys) a)) (same_access_apart x a (All-head (λ b. x.src ≢ b.src) a ys others))
    ∙ found_behind (access_step m x) xs a ys (AllPairs-tail (λ a b. a.src ≢ b.src) x (xs ++ a ∷ ys) apart)

-- the accesses behind some of a list find their answers in the whole
found_from : (m : MemoryState) (xs ys : List Access) → AllPairs (λ a b. a.src ≢ b.src) (xs ++ ys) → map (answer_at_first m (xs ++ ys)) ys ≡ answers_in (memory_after m xs) ys
found_from m xs [] apart = refl
found_from m xs (a ∷ ys) apart =
    let joined : xs ++ a ∷ ys ≡ (xs ++ a ∷ []) ++ ys = sym (append_assoc xs (a ∷ []) ys) in
    let rest = found_from m (xs ++ a ∷ []) ys (subst (AllPairs (λ a b. a.src ≢ b.src)) joined apart) in
    let next : answers_in (memory_after m (xs ++ a ∷ [])) ys ≡ answers_in (access_step (memory_after m xs) a) ys =
    ap (λ (k : MemoryState). answers_in k ys) (memory_after-append m xs (a ∷ [])) in
    let here : map (answer_at_first m (xs ++ a ∷ ys)) ys ≡ map (answer_at_first m ((xs ++ a ∷ []) ++ ys)) ys = ap (λ (l : List Access). map (answer_at_first m l) ys) joined in
    ap (λ (found : Option Access). found ∷ map (answer_at_first m (xs ++ a ∷ ys)) ys) (found_behind m xs a ys apart)
    ∙ ap (λ (more : List (Option Access)). access_answer (memory_after m xs) a ∷ more) (here ∙ rest ∙ next)

-- where no two accesses have one reply address, each finds its own answer
pub answers_found : (m : MemoryState) (list : List Access) → AllPairs (λ a b. a.src ≢ b.src) list → map (answer_at_first m list) list ≡ answers_in m list
answers_found m list apart = found_from m [] list apart

-- those that rise are apart
pub apart_from_rising : (list : List Access) → AllPairs (λ a b. a.src < b.src) list → AllPairs (λ a b. a.src ≢ b.src) list
apart_from_rising list rise i j d below inside same = let h = rise i j d below inside in absurd (omega arith)
