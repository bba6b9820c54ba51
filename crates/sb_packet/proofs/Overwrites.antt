-- What accesses do to a memory, one after another.
use Rattle.std.proofs.Common.{◌≡◌, ◌≤◌, ◌<◌, ℕ, zero, suc, ◌+◌, ◌-◌, ◌*◌, List, [], ◌∷◌, ◌++◌, refl, ap, sym, ◌∙◌, arith, take, drop, length, Bool, false, true, cond, subst, append_assoc, add-zero}
use Rattle.std.specs.Prelude.{map, flat_map, Option}
use Rattle.std.specs.List.{range_with_len}
use Rattle.std.proofs.lemmas.List.{drop-drop, length-take, length-drop, length-append, take-append-drop, append-nil}
use Rattle.std.proofs.Math.Seq.{take-append_seam, drop-append-add}
use Rattle.sb_word.specs.declared.command.Op.{Op}
use Rattle.sb_word.specs.declared.command.Op.TheVariants.{ReqRd, ReqWr, ReqWrPosted, ReqAtomic, RespRd, RespWr}
use Rattle.sb_packet.specs.Accesses.{Access}
use Rattle.sb_packet.specs.Memories.{MemoryState, overwritten, stored, written, access_step, access_answer, memory_after, answers_in}

-- what stands behind a front is written over
over_append : (front xs zs : List ℕ) → take (length front) (front ++ drop (length front) xs) ++ zs ++ drop (length front + length zs) (front ++ drop (length front) xs) ≡ front ++ zs ++ drop (length front + length zs) xs
over_append front xs zs = rw (take-append_seam front (drop (length front) xs), drop-append-add front (drop (length front) xs) (length zs), drop-drop) refl

-- two pieces written one behind the other are one piece written
pub overwritten-overwritten : (xs : List ℕ) (place : ℕ) (ys zs : List ℕ) → place + length ys ≤ length xs → overwritten (overwritten xs place ys) (place + length ys) zs ≡ overwritten xs place (ys ++ zs)
overwritten-overwritten xs place ys zs h =
    let front = take place xs ++ ys in
    let long : length front ≡ place + length ys = simp (length-append, length-take) (omega arith) in
    let P : ℕ → Type 0 = λ n. take n (front ++ drop n xs) ++ zs ++ drop (n + length zs) (front ++ drop n xs) ≡ front ++ zs ++ drop (n + length zs) xs in
    let ends : place + length ys + length zs ≡ place + length (ys ++ zs) = rw length-append (omega arith) in
    subst P long (over_append front xs zs) ∙ rw ends (simp append_assoc)

-- a write within a list keeps its length
pub length-overwritten : (xs : List ℕ) (place : ℕ) (ys : List ℕ) → place + length ys ≤ length xs → length (overwritten xs place ys) ≡ length xs
length-overwritten xs place ys h = simp (length-append, length-take, length-drop) (omega arith)

-- to store nothing leaves the memory as it is
pub stored-nothing : (m : MemoryState) (address : ℕ) → stored m address [] ≡ m
stored-nothing m address = ap (λ (bytes : List ℕ). record m { bytes = bytes }) (rw (append-nil, add-zero) (take-append-drop (address - m.base) m.bytes))

-- a request changes neither where a memory lies nor whether it may be written
written-readonly : (op : Op) (m : MemoryState) (a : Access) → (written op m a).readonly ≡ m.readonly
written-readonly ReqRd m a = refl
written-readonly ReqWr m a = refl
written-readonly ReqWrPosted m a = refl
written-readonly ReqAtomic m a = refl
written-readonly RespRd m a = refl
written-readonly RespWr m a = refl

-- an access doesn't change whether the memory may be written
pub access_step-readonly : (m : MemoryState) (a : Access) → (access_step m a).readonly ≡ m.readonly
access_step-readonly m a = elim m.readonly as (λ r. (cond r m (written a.op m a)).readonly ≡ m.readonly) [ true ↦ refl | false ↦ written-readonly a.op m a ]

-- a memory that may be written takes what a request writes
pub access_step_taken : (m : MemoryState) (a : Access) → m.readonly ≡ false → access_step m a ≡ written a.op m a
access_step_taken m a writable = ap (λ (r : Bool). cond r m (written a.op m a)) writable

-- a memory that may not be written stays as it is
pub access_step_refused : (m : MemoryState) (a : Access) → m.readonly ≡ true → access_step m a ≡ m
access_step_refused m a refuses = ap (λ (r : Bool). cond r m (written a.op m a)) refuses

-- a memory that may not be written stays as it is, whatever accesses come
pub memory_after_refused : (m : MemoryState) (list : List Access) → m.readonly ≡ true → memory_after m list ≡ m
memory_after_refused m [] refuses = refl
memory_after_refused m (a ∷ list) refuses = ap (λ (n : MemoryState). memory_after n list) (access_step_refused m a refuses) ∙ memory_after_refused m list refuses

-- accesses that each leave the memory as it is do so one after another
pub memory_after_unchanged : (m : MemoryState) (f : ℕ → Access) → ((j : ℕ) → access_step m (f j) ≡ m) → (a k : ℕ) → memory_after m (map f (range_with_len a k)) ≡ m
memory_after_unchanged m f stays a zero = refl
memory_after_unchanged m f stays a (suc k) = ap (λ (n : MemoryState). memory_after n (map f (range_with_len (a + 1) k))) (stays a) ∙ memory_after_unchanged m f stays (a + 1) k

-- accesses that each store the next s bytes store all of them
pub memory_after_stores : (f : ℕ → Access) (g : ℕ → List ℕ) (n x s : ℕ) → ((m : MemoryState) (j : ℕ) → m.readonly ≡ false → access_step m (f j) ≡ stored m (x + j * s) (g j)) → ((j : ℕ) → j < n → length (g j) ≡ s) → (m : MemoryState) (a k : ℕ) → a + k ≤ n → m.readonly ≡ false → m.base ≤ x → (x - m.base) + (a + k) * s ≤ length m.bytes → memory_after m (map f (range_with_len a k)) ≡ stored m (x + a * s) (flat_map g (range_with_len a k))
memory_after_stores f g n x s writes long m a zero within writable low h = sym (stored-nothing m (x + a * s))
memory_after_stores f g n x s writes long m a (suc k) within writable low h =
    let sized : length (g a) ≡ s = long a (omega arith) in
    let next = stored m (x + a * s) (g a) in
    let room : (x + a * s - m.base) + length (g a) ≤ length m.bytes = omega arith in
    let kept : length next.bytes ≡ length m.bytes = length-overwritten m.bytes (x + a * s - m.base) (g a) room in
    let rest = memory_after_stores f g n x s writes long next (a + 1) k (omega arith) writable low (omega arith) in
    let place : x + (a + 1) * s - m.base ≡ (x + a * s - m.base) + length (g a) = omega arith in
    ap (λ (n : MemoryState). memory_after n (map f (range_with_len (a + 1) k))) (writes m a writable) ∙ rest
    ∙ ap (λ (bytes : List ℕ). record m { bytes = bytes }) (rw place (overwritten-overwritten m.bytes (x + a * s - m.base) (g a) (flat_map g (range_with_len (a + 1) k)) room))

-- accesses that leave the memory as it is are answered from it
pub answers_in_unchanged : (m : MemoryState) (f g : ℕ → Access) (o : Access → Option Access) (n : ℕ) → ((j : ℕ) → access_step m (f j) ≡ m) → ((j : ℕ) → j < n → access_answer m (f j) ≡ o (g j)) → (a k : ℕ) → a + k ≤ n → answers_in m (map f (range_with_len a k)) ≡ map o (map g (range_with_len a k))
answers_in_unchanged m f g o n stays gives a zero h = refl
answers_in_unchanged m f g o n stays gives a (suc k) h =
    rw (gives a (omega arith), stays a) (ap (λ (rest : List (Option Access)). o (g a) ∷ rest) (answers_in_unchanged m f g o n stays gives (a + 1) k (omega arith)))

-- accesses that are answered alike by every memory that may be written, or by every one that may not
pub answers_in_alike : (r : Bool) (f g : ℕ → Access) (o : Access → Option Access) → ((m : MemoryState) (j : ℕ) → m.readonly ≡ r → access_answer m (f j) ≡ o (g j)) → (m : MemoryState) (a k : ℕ) → m.readonly ≡ r → answers_in m (map f (range_with_len a k)) ≡ map o (map g (range_with_len a k))
answers_in_alike r f g o gives m a zero same = refl
answers_in_alike r f g o gives m a (suc k) same =
    rw (gives m a same) (ap (λ (rest : List (Option Access)). o (g a) ∷ rest) (answers_in_alike r f g o gives (access_step m (f a)) (a + 1) k (access_step-readonly m (f a) ∙ same)))
