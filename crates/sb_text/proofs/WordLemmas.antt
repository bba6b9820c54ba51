-- The words of a line, one after another.
use Rattle.std.proofs.Common.{◌≡◌, ◌<◌, ℕ, zero, suc, true, false, List, [], ◌∷◌, ◌++◌, length, get_or, take, drop, length-take, ◌≤◌, ap, sym, refl, ◌∙◌, arith}
use Rattle.std.proofs.lemmas.Bool.{false≢true}
use Rattle.std.specs.Prelude.{All, filter, not}
use Rattle.std.proofs.lemmas.List.{append-nil, take-append-drop}
use Rattle.std.proofs.lemmas.List.Elements.{All-head, All-tail}
use Rattle.std.proofs.lemmas.List.Splits.{slice_split-cons_yes, slice_split_none, slice_split_at}
use Rattle.sb_text.specs.Lines.{IsTrimmed, is_blank, is_empty, words_in_line}

-- the pieces that are words
abbrev kept : List (List ℕ) → List (List ℕ)
kept pieces = filter (λ piece. not (is_empty piece)) pieces

-- a blank at the front makes no word
words_after_blank : (b : ℕ) (line : List ℕ) → is_blank b ≡ true → words_in_line (b ∷ line) ≡ words_in_line line
words_after_blank b line blank = ap kept (slice_split-cons_yes is_blank b line blank)

-- nor do several
words_after_blanks : (blanks line : List ℕ) → All (λ b. is_blank b ≡ true) blanks → words_in_line (blanks ++ line) ≡ words_in_line line
words_after_blanks [] line all = refl
words_after_blanks (b ∷ blanks) line all =
    words_after_blank b (blanks ++ line) (All-head (λ b. is_blank b ≡ true) b blanks all)
    ∙ words_after_blanks blanks line (All-tail (λ b. is_blank b ≡ true) b blanks all)

-- a line is empty, or begins with a blank
abbrev EndsWord : List ℕ → Type 0
EndsWord [] = Unit {0}
EndsWord (b ∷ line) = is_blank b ≡ true

-- a word at the front is the first word
words_after_word : (word line : List ℕ) → 0 < length word → All (λ b. is_blank b ≡ false) word → EndsWord line → words_in_line (word ++ line) ≡ word ∷ words_in_line line
words_after_word (b ∷ word) [] some all ends =
    ap words_in_line (append-nil (b ∷ word)) ∙ ap kept (slice_split_none is_blank (b ∷ word) all)
words_after_word (b ∷ word) (next ∷ line) some all ends =
    ap kept (slice_split_at is_blank (b ∷ word) next line all ends)
    ∙ ap (λ (words : List (List ℕ)). (b ∷ word) ∷ words) (sym (words_after_blank next line ends))
words_after_word [] line some all ends = absurd (omega arith)

-- what stands behind a word
ends_word : (line : List ℕ) (n : ℕ) → (n < length line → is_blank (get_or line n 0) ≡ true) → EndsWord (drop n line)
ends_word [] zero blank = tt
ends_word [] (suc n) blank = tt
ends_word (b ∷ line) zero blank = blank (omega arith)
ends_word (b ∷ line) (suc n) blank = ends_word line n (λ h. blank (omega arith))

-- the line behind n blanks has the same words
pub words_behind_blanks : (line : List ℕ) (n : ℕ) → All (λ b. is_blank b ≡ true) (take n line) → words_in_line line ≡ words_in_line (drop n line)
words_behind_blanks line n all = ap words_in_line (sym (take-append-drop n line)) ∙ words_after_blanks (take n line) (drop n line) all

-- where no blank stands at the front, a word does
some_word : (line : List ℕ) (n : ℕ) → 0 < length line → IsTrimmed line → (n < length line → is_blank (get_or line n 0) ≡ true) → 0 < n
some_word line zero some trimmed ends = absurd (false≢true (sym (trimmed some) ∙ ends some))
some_word line (suc n) some trimmed ends = omega arith

-- the first word, of n bytes, and those behind it
pub first_word : (line : List ℕ) (n : ℕ) → 0 < length line → IsTrimmed line → n ≤ length line → All (λ b. is_blank b ≡ false) (take n line) → (n < length line → is_blank (get_or line n 0) ≡ true) → words_in_line line ≡ take n line ∷ words_in_line (drop n line)
first_word line n some trimmed within all ends =
    let solid : 0 < n = some_word line n some trimmed ends in
    let long : 0 < length (take n line) = simp length-take (omega arith) in
    ap words_in_line (sym (take-append-drop n line)) ∙ words_after_word (take n line) (drop n line) long all (ends_word line n ends)
