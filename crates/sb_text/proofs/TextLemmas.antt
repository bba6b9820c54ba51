-- The lines of a text, one after another.
use Rattle.std.proofs.Common.{◌≡◌, ◌<◌, ◌≤◌, ◌+◌, ℕ, zero, suc, Bool, true, false, List, [], ◌∷◌, ◌++◌, length, get_or, take, drop, ap, sym, refl, ◌∙◌, arith, add-one, drop-cons}
use Rattle.std.specs.Prelude.{All}
use Rattle.std.specs.List.{slice_split}
use Rattle.std.proofs.lemmas.List.{take-append-drop}
use Rattle.std.proofs.lemmas.List.Elements.{All-nil, All-cons}
use Rattle.std.proofs.lemmas.List.Splits.{length-slice_split, slice_split_none, slice_split_at}
use Rattle.sb_text.specs.Lines.{is_line_end, without_empty_end, lines_of}

-- a test that doesn't hold fails
fails : (test : Bool) → ¬ (test ≡ true) → test ≡ false
fails true not_so = absurd (not_so refl)
fails false not_so = refl

-- bytes that are no line feed, one by one and together
pub no_line_end : (text : List ℕ) (n : ℕ) → ((k : ℕ) → 0 ≤ k → k < n → ¬ (is_line_end (get_or text k 0) ≡ true)) → All (λ b. is_line_end b ≡ false) (take n text)
no_line_end text zero each = All-nil (λ b. is_line_end b ≡ false)
no_line_end [] (suc n) each = All-nil (λ b. is_line_end b ≡ false)
no_line_end (b ∷ text) (suc n) each = All-cons (λ b. is_line_end b ≡ false) b (take n text) (fails (is_line_end b) (each 0 (omega arith) (omega arith))) (no_line_end text n (λ k low below. each (suc k) (omega arith) (omega arith)))

-- a piece that isn't the last is a line
piece_is_line : (piece : List ℕ) (pieces : List (List ℕ)) → 0 < length pieces → without_empty_end (piece ∷ pieces) ≡ piece ∷ without_empty_end pieces
piece_is_line piece [] some = absurd (omega arith)
piece_is_line piece (next ∷ pieces) some = refl

-- a text is one line, if it has no line feed and isn't empty
pub last_line : (text : List ℕ) → 0 < length text → All (λ b. is_line_end b ≡ false) text → lines_of text ≡ text ∷ []
last_line [] some all = absurd (omega arith)
last_line (b ∷ text) some all = ap without_empty_end (slice_split_none is_line_end (b ∷ text) all)

-- the line before a line feed, and the lines behind it
pub first_line : (text : List ℕ) (n : ℕ) → n < length text → All (λ b. is_line_end b ≡ false) (take n text) → is_line_end (get_or text n 0) ≡ true → lines_of text ≡ take n text ∷ lines_of (drop (n + 1) text)
first_line text n within all ends =
    let rest = drop (n + 1) text in
    let parts : take n text ++ get_or text n 0 ∷ rest ≡ text = rw (add-one, ← drop-cons text n 0 within) (take-append-drop n text) in
    let some : 0 < length (slice_split is_line_end rest) = omega (arith, length-slice_split is_line_end rest) in
    ap lines_of (sym parts)
    ∙ ap without_empty_end (slice_split_at is_line_end (take n text) (get_or text n 0) rest all ends)
    ∙ piece_is_line (take n text) (slice_split is_line_end rest) some
