-- What a line of a script says.
use Rattle.std.specs.Prelude.{Bool, Option, Some, None, Result, Ok, Err, if◌then◌else◌, ℕ, ◌+◌, ◌*◌, ◌/◌, ◌%◌, ◌^◌, ◌==◌, nat_lt, nat_le, ◌&&◌, List, [], length, false, ◌∷◌, take, codes, bytes_eq, option_map}
use Rattle.std.specs.List.{find}
use Rattle.std.specs.Str.Lines.{strip_carriage_return}
use Rattle.hex.specs.Hex.{decode_of}
use Rattle.hex.specs.declared.error.FromHexError.{FromHexError}
use Rattle.sb_packet.specs.declared.transaction.Kind.{Kind}
use Rattle.sb_packet.specs.declared.transaction.Kind.TheVariants.{Atomic, Posted, Read, Write}
use Rattle.sb_packet.specs.declared.transaction.Txn.{Txn}
use Rattle.sb_text.specs.Numerals.{numeral_of}
use Rattle.sb_text.specs.declared.line_fault.LineFault.{LineFault}
use Rattle.sb_text.specs.Lines.{words_in_line}
use Rattle.sb_text.specs.declared.line_fault.LineFault.TheVariants as faults
use Rattle.sb_word.specs.declared.atomic.AtomicOp.TheVariants as atomics

-- Tests in a row, of which the first that fails gives the fault.

-- the next step, if this one found no fault
infixl 10 ◌>>=◌
abbrev pub ◌>>=◌ : {A B Fault : Type 0} → Result A Fault → (A → Result B Fault) → Result B Fault
(Ok x) >>= next = next x
(Err fault) >>= next = Err fault

-- a value, or that fault where there is none
abbrev pub some_or : {A Fault : Type 0} → Option A → Fault → Result A Fault
some_or (Some x) fault = Ok x
some_or None fault = Err fault

-- that fault unless a test holds
abbrev pub unless : {Fault : Type 0} → Bool → Fault → Result (Unit {0}) Fault
unless test fault = if test then Ok tt else Err fault

-- A transaction from the words of a line.

-- the number of words that a read's last word tells; the others tell none
abbrev pub told_count : Kind → List ℕ → Option ℕ
told_count Read last = numeral_of last
told_count Write last = Some 0
told_count Posted last = Some 0
told_count (Atomic atomic) last = Some 0

-- the bytes that digits stand for, two for each
abbrev pub decoded : Result (List ℕ) FromHexError → Result (List ℕ) LineFault
decoded (Ok bytes) = Ok bytes
decoded (Err error) = Err faults.Data

-- the bytes that a line brings; a read brings none
abbrev pub body_of : Kind → List ℕ → Result (List ℕ) LineFault
body_of Read last = Ok []
body_of Write last = decoded (decode_of last)
body_of Posted last = decoded (decode_of last)
body_of (Atomic atomic) last = decoded (decode_of last)

-- as many words as bytes fill, where they fill them
abbrev pub whole_words : ℕ → List ℕ → Option ℕ
whole_words size body = if length body % 2 ^ size == 0 then Some (length body / 2 ^ size) else None

-- the number of words: what a read tells, and what all else brings
abbrev pub count_of : Kind → ℕ → ℕ → List ℕ → Option ℕ
count_of Read size told body = Some told
count_of Write size told body = whole_words size body
count_of Posted size told body = whole_words size body
count_of (Atomic atomic) size told body = whole_words size body

-- an atomic is one word at most, and all else 256
abbrev pub most_words : Kind → ℕ
most_words Read = 256
most_words Write = 256
most_words Posted = 256
most_words (Atomic atomic) = 1

-- a transaction, if its words are neither too few nor too many, aligned, within a page, and at an address that there is
abbrev pub placed : Kind → ℕ → ℕ → ℕ → List ℕ → Result Txn LineFault
placed kind addr size count body = do
  done ← unless (nat_le 1 count && nat_le count (most_words kind)) faults.Length
  done ← unless (addr % 2 ^ size == 0) faults.Aligned
  done ← unless (nat_le (addr % 4096 + count * 2 ^ size) 4096) faults.Page
  done ← unless (nat_lt addr (2 ^ 56)) faults.Range
  Ok (record { kind = kind; size = size; addr = addr; count = count; body = body })

-- a transaction from the three words behind its verb, or the first fault
abbrev pub transaction_of : Kind → List ℕ → List ℕ → List ℕ → Result Txn LineFault
transaction_of kind addr size last = do
  addr ← some_or (numeral_of addr) faults.Number
  size ← some_or (numeral_of size) faults.Number
  told ← some_or (told_count kind last) faults.Number
  done ← unless (nat_le size 3) faults.Size
  body ← body_of kind last
  count ← some_or (count_of kind size told body) faults.Length
  placed kind addr size count body

-- the verbs, and what each asks for
abbrev pub verbs : List (List ℕ × Kind)
verbs =
    (codes "rd", Read) ∷ (codes "wr", Write) ∷ (codes "wp", Posted)
    ∷ (codes "add", Atomic atomics.Add) ∷ (codes "and", Atomic atomics.And) ∷ (codes "or", Atomic atomics.Or) ∷ (codes "xor", Atomic atomics.Xor)
    ∷ (codes "max", Atomic atomics.Max) ∷ (codes "min", Atomic atomics.Min) ∷ (codes "maxu", Atomic atomics.MaxU) ∷ (codes "minu", Atomic atomics.MinU)
    ∷ (codes "swap", Atomic atomics.Swap) ∷ []

-- what a verb asks for, where the word is one
abbrev pub kind_of : List ℕ → Option Kind
kind_of verb = option_map (λ row. row.1) (find (λ row. bytes_eq verb row.0) verbs)

-- there are three words behind a verb
abbrev pub arguments_of : Kind → List (List ℕ) → Result Txn LineFault
arguments_of kind (addr ∷ size ∷ last ∷ []) = transaction_of kind addr size last
arguments_of kind _ = Err faults.Number

-- A comment's first word begins with `#`.
abbrev pub is_comment : List (List ℕ) → Bool
is_comment [] = false
is_comment (first ∷ others) = bytes_eq (take 1 first) (codes "#")

-- what words say that are no comment: nothing, where there are none
abbrev pub sentence_of : List (List ℕ) → Result (Option Txn) LineFault
sentence_of [] = Ok None
sentence_of (verb ∷ arguments) = do
  kind ← some_or (kind_of verb) faults.Verb
  txn ← arguments_of kind arguments
  Ok (Some txn)

-- what words say: a comment's say nothing
abbrev pub words_say : List (List ℕ) → Result (Option Txn) LineFault
words_say words = if is_comment words then Ok None else sentence_of words

-- A line says a transaction, or nothing, or has a fault. One carriage return at its end counts for nothing.
abbrev pub line_of : List ℕ → Result (Option Txn) LineFault
line_of line = words_say (words_in_line (strip_carriage_return line))
