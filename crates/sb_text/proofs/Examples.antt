-- The definitions at work on small cases.
use Rattle.std.proofs.Common.{◌≡◌, ◌∷◌, [], ◌++◌, refl, Some, None, Ok, Err}
use Rattle.std.specs.Prelude.{codes}
use Rattle.hex.specs.Hex.{decode_pairs}
use Rattle.sb_word.specs.declared.atomic.AtomicOp.TheVariants.{Swap}
use Rattle.sb_packet.specs.declared.transaction.Kind.TheVariants.{Read, Write, Posted, Atomic}
use Rattle.sb_text.specs.Numerals.{numeral_of}
use Rattle.sb_text.specs.Lines.{lines_of, words_in_line}
use Rattle.sb_text.specs.Sentences.{line_of}
use Rattle.sb_text.specs.Scripts.{script_of_text}
use Rattle.sb_text.specs.declared.line_fault.LineFault.TheVariants as faults
use Rattle.sb_text.specs.declared.script_fault.ScriptFault.TheVariants as script_faults

-- ---- numbers

hexadecimal : numeral_of (codes "0xfF8") ≡ Some 4088
hexadecimal = refl

greatest_hexadecimal : numeral_of (codes "0xFFFFFFFFFFFFFFFF") ≡ Some 18446744073709551615
greatest_hexadecimal = refl

seventeen_digits : numeral_of (codes "0x00000000000000000") ≡ None
seventeen_digits = refl

no_digit : numeral_of (codes "0x") ≡ None
no_digit = refl

upper_case_mark : numeral_of (codes "0X10") ≡ None
upper_case_mark = refl

greatest : numeral_of (codes "18446744073709551615") ≡ Some 18446744073709551615
greatest = refl

too_great : numeral_of (codes "18446744073709551616") ≡ None
too_great = refl

leading_zeros : numeral_of (codes "00000000000000000007") ≡ Some 7
leading_zeros = refl

twenty_one_digits : numeral_of (codes "000000000000000000007") ≡ None
twenty_one_digits = refl

letters_are_not_decimal : numeral_of (codes "12a") ≡ None
letters_are_not_decimal = refl

-- ---- words and lines

words : words_in_line (codes "\t wr\t0x10 ") ≡ codes "wr" ∷ codes "0x10" ∷ []
words = refl

no_words : words_in_line (codes " \t ") ≡ []
no_words = refl

lines : lines_of (codes "a\r\n\nb") ≡ codes "a\r" ∷ [] ∷ codes "b" ∷ []
lines = refl

ended_line : lines_of (codes "a\n") ≡ codes "a" ∷ []
ended_line = refl

no_lines : lines_of [] ≡ []
no_lines = refl

-- ---- lines that say something, or nothing

read : line_of (codes "rd 0x10 2 3") ≡ Ok (Some (record { kind = Read; size = 2; addr = 16; count = 3; body = [] }))
read = refl

one_return : line_of (codes "rd 7 0 1\r") ≡ Ok (Some (record { kind = Read; size = 0; addr = 7; count = 1; body = [] }))
one_return = refl

two_returns : line_of (codes "rd 7 0 1\r\r") ≡ Err faults.Number
two_returns = refl

posted : line_of (codes "wp 4090 1 aB01Ff02") ≡ Ok (Some (record { kind = Posted; size = 1; addr = 4090; count = 2; body = 171 ∷ 1 ∷ 255 ∷ 2 ∷ [] }))
unfolding decode_pairs
posted = refl

atomic : line_of (codes "swap 0x8 0 7f") ≡ Ok (Some (record { kind = Atomic Swap; size = 0; addr = 8; count = 1; body = 127 ∷ [] }))
unfolding decode_pairs
atomic = refl

blank : line_of (codes " \t\r") ≡ Ok None
blank = refl

comment : line_of (codes "\t#rd") ≡ Ok None
comment = refl

comment_of_any_bytes : line_of (codes "#" ++ 0 ∷ 255 ∷ []) ≡ Ok None
comment_of_any_bytes = refl

bytes_of_a_word : line_of (0 ∷ codes "rd 0 0 1") ≡ Err faults.Verb
bytes_of_a_word = refl

-- ---- each fault, and the first of two

no_verb : line_of (codes "READ 0 0") ≡ Err faults.Verb
no_verb = refl

no_verb_alone : line_of (codes "rD") ≡ Err faults.Verb
no_verb_alone = refl

three_words : line_of (codes "rd 0 9") ≡ Err faults.Number
three_words = refl

five_words : line_of (codes "rd 0 0 1 1") ≡ Err faults.Number
five_words = refl

no_number : line_of (codes "rd 0 9 zz") ≡ Err faults.Number
no_number = refl

size_before_length : line_of (codes "rd 4 9 0") ≡ Err faults.Size
size_before_length = refl

size_before_data : line_of (codes "wr 4 4 0") ≡ Err faults.Size
size_before_data = refl

no_data : line_of (codes "wr 1 1 zz") ≡ Err faults.Data
unfolding decode_pairs
no_data = refl

odd_data : line_of (codes "add 0 0 123") ≡ Err faults.Data
odd_data = refl

no_length : line_of (codes "rd 1 1 0") ≡ Err faults.Length
no_length = refl

too_long : line_of (codes "rd 0 0 257") ≡ Err faults.Length
too_long = refl

half_a_word : line_of (codes "wr 0 1 010203") ≡ Err faults.Length
unfolding decode_pairs
half_a_word = refl

two_atomic_words : line_of (codes "max 1 0 0102") ≡ Err faults.Length
unfolding decode_pairs
two_atomic_words = refl

not_aligned : line_of (codes "rd 4095 1 1") ≡ Err faults.Aligned
not_aligned = refl

past_a_page : line_of (codes "rd 0x100000000000ffff 0 2") ≡ Err faults.Page
past_a_page = refl

out_of_range : line_of (codes "rd 0x100000000000000 0 1") ≡ Err faults.Range
out_of_range = refl

last_in_range : line_of (codes "rd 0xffffffffffffff 0 1") ≡ Ok (Some (record { kind = Read; size = 0; addr = 72057594037927935; count = 1; body = [] }))
last_in_range = refl

-- ---- scripts

two_lines : script_of_text (codes "wr 0x10 2 0102030405060708\r\nrd 0x10 2 2") ≡ Ok (
    record { kind = Write; size = 2; addr = 16; count = 2; body = 1 ∷ 2 ∷ 3 ∷ 4 ∷ 5 ∷ 6 ∷ 7 ∷ 8 ∷ [] } ∷
    record { kind = Read; size = 2; addr = 16; count = 2; body = [] } ∷ [])
unfolding decode_pairs
two_lines = refl

third_line : script_of_text (codes "# one\n\nrd 0 4 1\nrd\n") ≡ Err (script_faults.Line 3 faults.Size)
third_line = refl

nothing : script_of_text (codes "\n \n#\n") ≡ Ok []
nothing = refl
