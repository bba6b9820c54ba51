-- The numbers of atomics in a command word. After UMI.
use Rattle.std.specs.Prelude.{ℕ, List, [], ◌∷◌, Option, slice_get}
use Rattle.sb_word.specs.declared.atomic.AtomicOp.{AtomicOp}
use Rattle.sb_word.specs.declared.atomic.AtomicOp.TheVariants.{Add, And, Or, Xor, Max, Min, MaxU, MinU, Swap}

-- the number of an atomic
abbrev pub atomic_number : AtomicOp → ℕ
atomic_number Add = 0
atomic_number And = 1
atomic_number Or = 2
atomic_number Xor = 3
atomic_number Max = 4
atomic_number Min = 5
atomic_number MaxU = 6
atomic_number MinU = 7
atomic_number Swap = 8

-- the atomics, in the order of their numbers from 0
abbrev pub all_atomics : List AtomicOp
all_atomics = Add ∷ And ∷ Or ∷ Xor ∷ Max ∷ Min ∷ MaxU ∷ MinU ∷ Swap ∷ []

-- the atomic with a number, where there is one
abbrev pub atomic_numbered : ℕ → Option AtomicOp
atomic_numbered n = slice_get all_atomics n
