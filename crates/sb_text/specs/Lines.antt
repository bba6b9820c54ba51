-- The lines of a text, and the words of a line.
use Rattle.std.specs.Prelude.{ℕ, ◌≡◌, ◌<◌, Bool, true, false, not, ◌||◌, ◌==◌, List, [], ◌∷◌, filter, length, slice_index, if◌then◌else◌}
use Rattle.std.specs.List.{slice_split}

-- the line feed
abbrev pub is_line_end : ℕ → Bool
is_line_end byte = byte == 10

-- the blank and the tab
abbrev pub is_blank : ℕ → Bool
is_blank byte = (byte == 32) || (byte == 9)

-- a piece has no byte
abbrev pub is_empty : List ℕ → Bool
is_empty [] = true
is_empty (byte ∷ piece) = false

-- pieces without a last one that is empty
abbrev pub without_empty_end : List (List ℕ) → List (List ℕ)
without_empty_end [] = []
without_empty_end (piece ∷ []) = if is_empty piece then [] else piece ∷ []
without_empty_end (piece ∷ next ∷ pieces) = piece ∷ without_empty_end (next ∷ pieces)

-- The lines of a text are its pieces between line feeds; a last piece counts if it isn't empty.
abbrev pub lines_of : List ℕ → List (List ℕ)
lines_of text = without_empty_end (slice_split is_line_end text)

-- The words of a line are its pieces between blanks and tabs that aren't empty.
abbrev pub words_in_line : List ℕ → List (List ℕ)
words_in_line line = filter (λ piece. not (is_empty piece)) (slice_split is_blank line)

-- a line begins with no blank
abbrev pub IsTrimmed : List ℕ → Type 0
IsTrimmed line = 0 < length line → is_blank (slice_index line 0) ≡ false
