-- The words of a report's lines, and the lines. This project's own.
use Rattle.std.specs.Prelude.{ℕ, zero, suc, ◌/◌, ◌%◌, List, [], ◌∷◌, ◌++◌, codes, slice_index, decimal}
use Rattle.hex.specs.Hex.{encode_lower, lower_digits}
use Rattle.sb_text.specs.declared.line_word.LineWord.{LineWord}
use Rattle.sb_text.specs.declared.line_word.LineWord.TheVariants.{Number, Text}

-- words with a blank between them, and a line feed
abbrev pub text_line : List (List ℕ) → List ℕ
text_line [] = 10 ∷ []
text_line (word ∷ []) = word ++ 10 ∷ []
text_line (word ∷ next ∷ rest) = word ++ 32 ∷ text_line (next ∷ rest)

-- a number in so many hexadecimal digits, in lower case
abbrev pub hex_number : ℕ → ℕ → List ℕ
hex_number zero n = []
hex_number (suc count) n = hex_number count (n / 16) ++ slice_index lower_digits (n % 16) ∷ []

-- two hexadecimal digits a byte, or a dash where there is none
abbrev pub body_text : List ℕ → List ℕ
body_text [] = codes "-"
body_text (b ∷ bs) = encode_lower (b ∷ bs)

-- The words of a line that is printed.

-- a word is a text, or a number in decimal digits
abbrev pub word_text : LineWord → List ℕ
word_text (Text text) = text.now
word_text (Number n) = decimal n
