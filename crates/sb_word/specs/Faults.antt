-- What is wrong with a word that is no command's. After UMI, this project's profile.
use Rattle.std.specs.Prelude.{ℕ, ◌/◌, ◌%◌, ◌^◌, Bool, ◌&&◌, ◌==◌, nat_lt, List, [], ◌∷◌, Option, Some, None, if◌then◌else◌}
use Rattle.std.specs.List.{list_any}
use Rattle.std.specs.Option.{option_or}
use Rattle.sb_word.specs.declared.fault.WordFault.{WordFault}
use Rattle.sb_word.specs.declared.fault.WordFault.TheVariants.{Invalid, Opcode, Size, AtomicType}

-- the opcodes that are carried
abbrev pub carried_opcodes : List ℕ
carried_opcodes = 1 ∷ 2 ∷ 3 ∷ 4 ∷ 5 ∷ 9 ∷ []

-- an opcode that is one of them
abbrev pub is_carried_opcode : ℕ → Bool
is_carried_opcode opcode = list_any (λ n. n == opcode) carried_opcodes

-- the fault of an opcode, if it has one
abbrev pub opcode_fault : ℕ → Option WordFault
opcode_fault opcode = if opcode == 0 then Some Invalid else if is_carried_opcode opcode then None else Some (Opcode opcode)

-- the fault of a size, if it has one
abbrev pub size_fault : ℕ → Option WordFault
size_fault size = if nat_lt 3 size then Some (Size size) else None

-- the fault of an atomic's type, if the opcode is an atomic's and it has one
abbrev pub atomic_fault : ℕ → ℕ → Option WordFault
atomic_fault opcode len = if (opcode == 9) && nat_lt 8 len then Some (AtomicType len) else None

-- The first fault of a word, if it has one.
abbrev pub word_fault : ℕ → Option WordFault
word_fault word =
    option_or (opcode_fault (word % 2 ^ 5))
    (option_or (size_fault (word / 2 ^ 5 % 2 ^ 3)) (atomic_fault (word % 2 ^ 5) (word / 2 ^ 8 % 2 ^ 8)))
