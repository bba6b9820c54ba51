-- Words without a line feed.
use Rattle.std.proofs.Common.{◌≡◌, ◌<◌, ◌/◌, ◌%◌, ◌^◌, ℕ, zero, suc, Bool, true, false, List, [], ◌∷◌, sym, subst, refl, arith}
use Rattle.std.specs.Prelude.{All, codes, decimal, slice_index}
use Rattle.std.specs.List.{list_all}
use Rattle.std.proofs.lemmas.Bool.{and_parts}
use Rattle.std.proofs.lemmas.Bool.Decides.{nat_tests}
use Rattle.std.proofs.lemmas.List.Elements.{All-append, All-cons, All-head, All-nil, All-tail}
use Rattle.hex.specs.Hex.{encode_lower, encode_with, lower_digits}
use Rattle.hex.proofs.HexLemmas.{IsDigits-lower_digits}
use Rattle.sb_packet.specs.Names.{is_name, is_name_byte}
use Rattle.sb_packet.specs.declared.transaction.Code.{Code}
use Rattle.sb_packet.specs.declared.transaction.Code.TheVariants as the_codes
use Rattle.sb_packet.specs.declared.transaction.TxnState.{TxnState}
use Rattle.sb_packet.specs.declared.transaction.TxnState.TheVariants.{Waiting, Posted, Answered}
use Rattle.sb_text.specs.Lines.{is_line_end}
use Rattle.sb_text.specs.Numerals.{is_digit_of}
use Rattle.sb_text.specs.Reports.{code_text, state_text}
use Rattle.sb_text.specs.TextLines.{body_text, hex_number}
use Rattle.sb_check.specs.Comparing.{IsUnended}
use Rattle.sb_check.proofs.DigitLemmas.{decimal-digits}

abbrev none : IsUnended []
none = All-nil (λ b. is_line_end b ≡ false)

abbrev next : (b : ℕ) (text : List ℕ) → is_line_end b ≡ false → IsUnended text → IsUnended (b ∷ text)
next b text other rest = All-cons (λ b. is_line_end b ≡ false) b text other rest

-- what a test passes that no line feed does
by_test : (test : ℕ → Bool) → ((c : ℕ) → test c ≡ true → is_line_end c ≡ false) → (text : List ℕ) → list_all test text ≡ true → IsUnended text
by_test test other [] all = none
by_test test other (c ∷ text) all =
    let parts = and_parts (test c) (list_all test text) all in
    next c text (other c parts.0) (by_test test other text parts.1)

-- digits
digit_other : (c : ℕ) → is_digit_of 16 c ≡ true → is_line_end c ≡ false
digit_other c is = grind (arith, nat_tests)

decimal_other : (c : ℕ) → is_digit_of 10 c ≡ true → is_line_end c ≡ false
decimal_other c is = grind (arith, nat_tests)

pub decimal_unended : (n : ℕ) → n < 2 ^ 64 → IsUnended (decimal n)
decimal_unended n small = by_test (is_digit_of 10) decimal_other (decimal n) (decimal-digits n small)

lower_other : (d : ℕ) → d < 16 → is_line_end (slice_index lower_digits d) ≡ false
lower_other d below = digit_other (slice_index lower_digits d) (rw (IsDigits-lower_digits d below) (grind (arith, nat_tests)))

pub hex_number_unended : (k n : ℕ) → IsUnended (hex_number k n)
hex_number_unended zero n = none
hex_number_unended (suc k) n =
    let below : n % 16 < 16 = omega arith in
    All-append (λ b. is_line_end b ≡ false) (hex_number k (n / 16)) (slice_index lower_digits (n % 16) ∷ []) (hex_number_unended k (n / 16)) (next (slice_index lower_digits (n % 16)) [] (lower_other (n % 16) below) none)

pub encode_lower_unended : (bytes : List ℕ) → All (λ b. b < 256) bytes → IsUnended (encode_lower bytes)
unfolding encode_with
encode_lower_unended [] small = none
encode_lower_unended (b ∷ bytes) small =
    let byte : b < 256 = All-head (λ b. b < 256) b bytes small in
    let high : b / 16 < 16 = omega arith in
    let low : b % 16 < 16 = omega arith in
    next (slice_index lower_digits (b / 16)) (slice_index lower_digits (b % 16) ∷ encode_lower bytes) (lower_other (b / 16) high)
    (next (slice_index lower_digits (b % 16)) (encode_lower bytes) (lower_other (b % 16) low) (encode_lower_unended bytes (All-tail (λ b. b < 256) b bytes small)))

pub body_text_unended : (bytes : List ℕ) → All (λ b. b < 256) bytes → IsUnended (body_text bytes)
body_text_unended [] small = next 45 [] refl none
body_text_unended (b ∷ bytes) small = encode_lower_unended (b ∷ bytes) small

-- the words of a line that are the same in all
letters_other : (c : ℕ) → is_name_byte c ≡ true → is_line_end c ≡ false
letters_other c is = grind (arith, nat_tests)

pub letters_unended : (text : List ℕ) → list_all is_name_byte text ≡ true → IsUnended text
letters_unended text all = by_test is_name_byte letters_other text all

pub name_unended : (text : List ℕ) → is_name text ≡ true → IsUnended text
name_unended text named = letters_unended text (and_parts _ (list_all is_name_byte text) named).1

-- how far a transaction came
code_unended : (code : Code) → IsUnended (code_text code)
code_unended the_codes.Ok = letters_unended (codes "ok") refl
code_unended the_codes.ExOk = letters_unended (codes "exok") refl
code_unended the_codes.DevErr = letters_unended (codes "deverr") refl
code_unended the_codes.NetErr = letters_unended (codes "neterr") refl

pub state_unended : (state : TxnState) → IsUnended (state_text state)
state_unended Waiting = letters_unended (codes "waiting") refl
state_unended Posted = letters_unended (codes "posted") refl
state_unended (Answered code) = code_unended code

-- words of a line, each without one
pub no_words : All IsUnended []
no_words = All-nil IsUnended

pub a_word : (word : List ℕ) (words : List (List ℕ)) → IsUnended word → All IsUnended words → All IsUnended (word ∷ words)
a_word word words first rest = All-cons IsUnended word words first rest

-- a word that is another
pub same_unended : (a b : List ℕ) → a ≡ b → IsUnended b → IsUnended a
same_unended a b same unended = subst (λ (t : List ℕ). IsUnended t) (sym same) unended

pub three_words : (a b c : List ℕ) → IsUnended a → IsUnended b → IsUnended c → All IsUnended (a ∷ b ∷ c ∷ [])
three_words a b c x y z = a_word a (b ∷ c ∷ []) x (a_word b (c ∷ []) y (a_word c [] z no_words))

pub four_words : (a b c d : List ℕ) → IsUnended a → IsUnended b → IsUnended c → IsUnended d → All IsUnended (a ∷ b ∷ c ∷ d ∷ [])
four_words a b c d w x y z = a_word a (b ∷ c ∷ d ∷ []) w (three_words b c d x y z)
