-- Lines of a list's items, each with its place.
use Rattle.std.proofs.Common.{◌≡◌, ◌≤◌, ◌<◌, ℕ, zero, suc, ◌+◌, ◌*◌, List, [], ◌∷◌, ◌++◌, ap, sym, ◌∙◌, refl, arith, append_assoc, add-zero, take, drop, length, get_or, subst}
use Rattle.std.specs.Prelude.{flat_map, decimal, Result, Ok, Err, IsErr}
use Rattle.std.specs.List.{enumerate_from}
use Rattle.std.proofs.lemmas.List.{append-nil, take_more, take_all, take-append-drop, length-take, drop-drop}
use Rattle.sb_packet.specs.Answers.{Outcome}
use Rattle.sb_text.specs.TextLines.{body_text}
use Rattle.sb_text.specs.Reports.{image_rows, outcome_line, state_front, state_text}
use Rattle.sb_packet.specs.declared.transaction.TxnState.{TxnState}
use Rattle.sb_io.specs.declared.sink.Sink as sinks
use Rattle.sb_text.specs.Printing.{IsPrinted, Prints}
use Rattle.sb_text.proofs.PrintLemmas.{printed_as, printed_before, printed_then, prints_then}

-- one line after another, each by its item and its place
abbrev pub indexed : {A : Type 0} → (ℕ → A → List ℕ) → ℕ → List A → List ℕ
indexed f i xs = flat_map (λ p. f p.0 p.1) (enumerate_from i xs)

-- the lines of some items, and of those behind them
indexed-append : {A : Type 0} (f : ℕ → A → List ℕ) (i : ℕ) (xs ys : List A) → indexed f i (xs ++ ys) ≡ indexed f i xs ++ indexed f (i + length xs) ys
indexed-append f i [] ys = ap (λ (k : ℕ). indexed f k ys) (sym (add-zero i))
indexed-append f i (x ∷ xs) ys =
    let next : i + 1 + length xs ≡ i + suc (length xs) = omega arith in
    ap (λ (r : List ℕ). f i x ++ r) (indexed-append f (i + 1) xs ys ∙ ap (λ (k : ℕ). indexed f (i + 1) xs ++ indexed f k ys) next)
    ∙ sym (append_assoc (f i x) (indexed f (i + 1) xs) (indexed f (i + suc (length xs)) ys))

-- lines that don't depend on the places
pub indexed_plain : {A : Type 0} (f : A → List ℕ) (i : ℕ) (xs : List A) → indexed (λ k x. f x) i xs ≡ flat_map f xs
indexed_plain f i [] = refl
indexed_plain f i (x ∷ xs) = ap (λ (r : List ℕ). f x ++ r) (indexed_plain f (i + 1) xs)

-- one line more
indexed_more : {A : Type 0} (f : ℕ → A → List ℕ) (xs : List A) (i : ℕ) (d : A) → i < length xs → indexed f 0 (take i xs) ++ f i (get_or xs i d) ≡ indexed f 0 (take (i + 1) xs)
indexed_more f xs i d below =
    let long : 0 + length (take i xs) ≡ i = simp length-take (omega arith) in
    let one : indexed f (0 + length (take i xs)) (get_or xs i d ∷ []) ≡ f i (get_or xs i d) = rw long (append-nil (f i (get_or xs i d))) in
    sym (ap (indexed f 0) (take_more xs i d below) ∙ indexed-append f 0 (take i xs) (get_or xs i d ∷ []) ∙ ap (λ (r : List ℕ). indexed f 0 (take i xs) ++ r) one)

-- the lines up to a place, and the rest
indexed_split : {A : Type 0} (f : ℕ → A → List ℕ) (xs : List A) (i : ℕ) → indexed f 0 (take i xs) ++ indexed f (0 + length (take i xs)) (drop i xs) ≡ indexed f 0 xs
indexed_split f xs i = sym (indexed-append f 0 (take i xs) (drop i xs)) ∙ ap (indexed f 0) (take-append-drop i xs)

-- one line is printed more
pub lines_more : {A K T U V E F : Type 0} (f : ℕ → A → List ℕ) (sink : sinks.Ghosts K) (u : U) (v : V) (t : T) (a b c : K) (w x y l : List ℕ) (xs : List A) (i : ℕ) (d : A) → i < length xs → l ≡ f i (get_or xs i d)
    → IsPrinted {E = E} sink (Ok u) a b w x (indexed f 0 (take i xs)) → IsPrinted {E = F} sink (Ok v) b c x y l → IsPrinted {E = E} sink (Ok t) a c w y (indexed f 0 (take (i + 1) xs))
lines_more f sink u v t a b c w x y l xs i d below is h k =
    let P : List ℕ → Type 0 = λ s. Prints (sink.held a) w (sink.held c) y s in
    record {
      done = subst P (ap (λ (r : List ℕ). indexed f 0 (take i xs) ++ r) is ∙ indexed_more f xs i d below) (prints_then _ _ _ w x y _ l h.done k.done);
      part = tt;
      cause = tt;
      clean = k.clean ∙ h.clean;
    }

-- a part of one more line is a part of all
pub lines_failed : {A K T U V E F G : Type 0} (f : ℕ → A → List ℕ) (sink : sinks.Ghosts K) (u : U) (e : F) (r : Result T G) (a b c : K) (w x y l : List ℕ) (xs : List A) (i : ℕ) (d : A) → IsErr r → i < length xs → l ≡ f i (get_or xs i d)
    → IsPrinted {E = E} sink (Ok u) a b w x (indexed f 0 (take i xs)) → IsPrinted {T = V} sink (Err e) b c x y l → IsPrinted sink r a c w y (indexed f 0 xs)
lines_failed f sink u e r a b c w x y l xs i d failed below is h k =
    let P : List ℕ → Type 0 = λ s. IsPrinted sink r a c w y s in
    let upto : indexed f 0 (take i xs) ++ l ≡ indexed f 0 (take (i + 1) xs) = ap (λ (r : List ℕ). indexed f 0 (take i xs) ++ r) is ∙ indexed_more f xs i d below in
    let both : IsPrinted {T = Unit {0}} sink (Err e) a c w y (indexed f 0 (take i xs) ++ l) = printed_then sink (Err e) a b c w x y _ l h.done h.clean (record { done = tt; part = k.part; cause = k.cause; clean = tt }) in
    let here : IsPrinted {T = Unit {0}} sink (Err e) a c w y (indexed f 0 (take (i + 1) xs)) = printed_as sink (Err e) a c w y _ _ upto both in
    subst P (indexed_split f xs (i + 1)) (printed_before sink r e a c w y _ (indexed f (0 + length (take (i + 1) xs)) (drop (i + 1) xs)) failed here)

-- all lines are printed
pub lines_all : {A K T U E F : Type 0} (f : ℕ → A → List ℕ) (sink : sinks.Ghosts K) (u : U) (t : T) (a b : K) (w x : List ℕ) (xs : List A) (i : ℕ) → length xs ≤ i → IsPrinted {E = E} sink (Ok u) a b w x (indexed f 0 (take i xs)) → IsPrinted {E = F} sink (Ok t) a b w x (indexed f 0 xs)
lines_all f sink u t a b w x xs i all h =
    let P : List ℕ → Type 0 = λ s. Prints (sink.held a) w (sink.held b) x s in
    record { done = subst P (ap (indexed f 0) (take_all i xs all)) h.done; part = tt; cause = tt; clean = h.clean }

-- the line of an outcome, in its parts
pub outcome_parts : (i : ℕ) (none : Outcome) (os : List Outcome) (s : TxnState) (body : List ℕ) → (get_or os i none).state ≡ s → (get_or os i none).body ≡ body
    → state_front i s ++ (body_text body ++ 10 ∷ []) ≡ outcome_line i (get_or os i none)
unfolding state_front
outcome_parts i none os s body is has =
    let rest = body_text body ++ 10 ∷ [] in
    rw (is, has, append_assoc (decimal i) (32 ∷ (state_text s ++ 32 ∷ [])) rest, append_assoc (state_text s) (32 ∷ []) rest) refl

-- the rows of an image
pub length-image_rows : (n : ℕ) (bytes : List ℕ) → length (image_rows n bytes) ≡ n
length-image_rows zero bytes = refl
length-image_rows (suc n) bytes = ap suc (length-image_rows n (drop 32 bytes))

pub image_row_at : (n k : ℕ) (bytes : List ℕ) → k < n → get_or (image_rows n bytes) k [] ≡ take 32 (drop (k * 32) bytes)
image_row_at zero k bytes below = absurd (omega arith)
image_row_at (suc n) zero bytes below = refl
image_row_at (suc n) (suc k) bytes below =
    let place : 32 + k * 32 ≡ suc k * 32 = omega arith in
    image_row_at n k (drop 32 bytes) (omega arith) ∙ ap (take 32) (rw (drop-drop, place) refl)
