-- What comparing a text with what is left of a report comes to.
use Rattle.std.specs.Prelude.{ℕ, ◌≡◌, ◌++◌, ◌&&◌, not, Bool, true, false, List, [], ◌∷◌, All, filter, length, None, codes, Result, OnOk, OnErr, ◌+◌, ◌*◌, ◌/◌, ◌%◌, slice_index, decimal}
use Rattle.sb_packet.specs.Networks.{Network}
use Rattle.sb_packet.specs.Answers.{RunResults}
use Rattle.sb_text.specs.Lines.{is_line_end}
use Rattle.sb_text.specs.Reports.{devices_text, hosts_text}
use Rattle.sb_text.specs.TextLines.{body_text, text_line}
use Rattle.sb_check.specs.ReportLines.{IsFirstDifference}
use Rattle.hex.specs.Hex.{encode_lower, lower_digits}
use Rattle.sb_link.specs.Prefixes.{IsPrefix}
use Rattle.sb_check.specs.declared.line_piece.LinePiece.{LinePiece}
use Rattle.sb_check.specs.declared.line_piece.LinePiece.TheVariants.{Body, Digits, Number, Text}

-- a text has no line feed
abbrev pub IsUnended : List ℕ → Type 0
IsUnended text = All (λ b. is_line_end b ≡ false) text

-- a text has no line feed but at its end
abbrev pub is_within_line : List ℕ → Bool
is_within_line [] = true
is_within_line (byte ∷ []) = true
is_within_line (byte ∷ next ∷ rest) = not (is_line_end byte) && is_within_line (next ∷ rest)

-- Two texts begin alike, and their first difference is in the line in which that ends; `after` is what is left of the first text there.
pub record DifferBehind (a b after : List ℕ) : Type 0 where
  pub alike : List ℕ
  pub joined : a ≡ alike ++ after
  pub differs : IsFirstDifference a b (length (filter is_line_end alike))

-- What comparing a text with what is left of a report comes to: it was there and was taken off; or it differs, whatever may
-- stand behind it, in the line that is reached.
pub record IsCompared {T E : Type 0} (result : Result T E) (before after text : List ℕ) : Type 0 where
  pub there : OnOk result (before ≡ text ++ after)
  pub differs : OnErr result ((behind : List ℕ) → DifferBehind before (text ++ behind) after)

-- what a report has behind its history
abbrev pub closing_text : Network → RunResults → List ℕ
closing_text network told = hosts_text network told None ++ devices_text network told None ++ text_line (codes "end" ∷ [])

-- What a text is compared with, word by word.

-- a word of a line: a text, a number in decimal digits, bytes in two hexadecimal digits each, or a body
abbrev pub piece_text : LinePiece → List ℕ
piece_text (Text text) = text.now
piece_text (Number n) = decimal n
piece_text (Digits bytes) = encode_lower bytes.now
piece_text (Body bytes) = body_text bytes.now

-- What comparing a text with the next one comes to: it was there and was taken off, or it isn't what the text begins with.
pub record IsMatched {T E : Type 0} (result : Result T E) (before after text : List ℕ) : Type 0 where
  pub matched : OnOk result (before ≡ text ++ after)
  pub differs : OnErr result (¬ IsPrefix text before)

-- the digits of the byte at a place stand at twice that place
pub record HasDigits (digits bytes : List ℕ) (k : ℕ) : Type 0 where
  pub high : slice_index digits (2 * k) ≡ slice_index lower_digits (slice_index bytes k / 16)
  pub low : slice_index digits (2 * k + 1) ≡ slice_index lower_digits (slice_index bytes k % 16)
