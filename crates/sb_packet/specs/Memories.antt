-- What a device's memory does at an access, and what atomics make of two words. After UMI's requests and answers.
use Rattle.std.specs.Prelude.{ℕ, zero, suc, ◌+◌, ◌*◌, ◌/◌, ◌%◌, ℤ, pos, ◌-ℤ◌, int_le, max, min, Bool, nat_lt, List, [], ◌∷◌, Option, Some, None, bit_and, bit_or, bit_xor, if◌then◌else◌, ◌-◌, ◌^◌, ◌++◌, take, drop, length, replicate, filter_map, fold}
use Rattle.sb_word.specs.declared.atomic.AtomicOp.{AtomicOp}
use Rattle.sb_word.specs.declared.command.Op.{Op}
use Rattle.sb_word.specs.declared.command.Op.TheVariants.{ReqAtomic, ReqRd, ReqWr, ReqWrPosted, RespRd, RespWr}
use Rattle.sb_packet.specs.Accesses.{Access}
use Rattle.sb_packet.specs.declared.transaction.Code.{Code}
use Rattle.sb_word.specs.declared.atomic.AtomicOp.TheVariants as atomics
use Rattle.sb_packet.specs.declared.transaction.Code.TheVariants as the_codes

-- What atomics make of two words, as whole numbers. After UMI, this project's profile.

-- bytes as one number, the lowest first
abbrev pub number_of : List ℕ → ℕ
number_of [] = 0
number_of (b ∷ bs) = b + 256 * number_of bs

-- a number as so many bytes, the lowest first
abbrev pub bytes_of_number : ℕ → ℕ → List ℕ
bytes_of_number zero n = []
bytes_of_number (suc count) n = (n % 256) ∷ bytes_of_number count (n / 256)

-- what a number below the modulus stands for in two's complement: itself in the lower half, and itself less the modulus in the upper
abbrev pub twos_complement : ℕ → ℕ → ℤ
twos_complement modulus a = if nat_lt a (modulus / 2) then pos a else pos a -ℤ pos modulus

-- a is at most b in two's complement
abbrev pub signed_le : ℕ → ℕ → ℕ → Bool
signed_le modulus a b = int_le (twos_complement modulus a) (twos_complement modulus b)

-- What an atomic makes of the old value a and the operand b, below the modulus.
abbrev pub combined : AtomicOp → ℕ → ℕ → ℕ → ℕ
combined atomics.Add modulus a b = (a + b) % modulus
combined atomics.And modulus a b = bit_and a b
combined atomics.Or modulus a b = bit_or a b
combined atomics.Xor modulus a b = bit_xor a b
-- in two's complement
combined atomics.Max modulus a b = if signed_le modulus a b then b else a
combined atomics.Min modulus a b = if signed_le modulus a b then a else b
-- without sign
combined atomics.MaxU modulus a b = max a b
combined atomics.MinU modulus a b = min a b
combined atomics.Swap modulus a b = b

-- what is left of the old value: all of it where nothing says which atomic it is
abbrev pub left_by : Option AtomicOp → ℕ → ℕ → ℕ → ℕ
left_by (Some atomic) modulus a b = combined atomic modulus a b
left_by None modulus a b = a

-- a memory: the address of its first byte, its bytes, and whether it refuses to be written
pub record MemoryState : Type 0 where
  pub base : ℕ
  pub bytes : List ℕ
  pub readonly : Bool

-- so many bytes from an address on
abbrev pub loaded : MemoryState → ℕ → ℕ → List ℕ
loaded m address count = take count (drop (address - m.base) m.bytes)

-- a list with new items in place of those from one place on
abbrev pub overwritten : List ℕ → ℕ → List ℕ → List ℕ
overwritten old place new = take place old ++ new ++ drop (place + length new) old

-- the memory with bytes put from an address on
abbrev pub stored : MemoryState → ℕ → List ℕ → MemoryState
stored m address bytes = record m { bytes = overwritten m.bytes (address - m.base) bytes }

-- the bytes that an access speaks of
abbrev pub bytes_at : MemoryState → Access → List ℕ
bytes_at m a = loaded m a.dst (2 ^ a.size)

-- the bytes that an atomic leaves
abbrev pub combined_bytes : Access → List ℕ → List ℕ
combined_bytes a old = bytes_of_number (2 ^ a.size) (left_by a.atomic (256 ^ 2 ^ a.size) (number_of old) (number_of a.bytes))

-- a memory that may be written, after a request with that opcode
abbrev pub written : Op → MemoryState → Access → MemoryState
written ReqRd m a = m
written ReqWr m a = stored m a.dst a.bytes
written ReqWrPosted m a = stored m a.dst a.bytes
written ReqAtomic m a = stored m a.dst (combined_bytes a (bytes_at m a))
written RespRd m a = m
written RespWr m a = m

-- The memory after an access.
abbrev pub access_step : MemoryState → Access → MemoryState
access_step m a = if m.readonly then m else written a.op m a

-- the number of a code in the `tail` of an answer. After UMI, in this project's profile.
abbrev pub code_number : Code → ℕ
code_number the_codes.Ok = 0
code_number the_codes.ExOk = 1
code_number the_codes.DevErr = 2
code_number the_codes.NetErr = 3

-- an answer goes back where the access came from; its tail is the number of its code
abbrev pub reply : Access → Op → Code → List ℕ → Access
reply a op code bytes = record a { op = op; atomic = None; dst = a.src; src = a.dst; tail = code_number code; bytes = bytes }

-- the code of an access that would write: the device refuses where the memory can't be written
abbrev pub write_code : MemoryState → Code
write_code m = if m.readonly then the_codes.DevErr else the_codes.Ok

-- what an atomic answers: the bytes before it, and zeros where it is refused
abbrev pub old_bytes : MemoryState → Access → List ℕ
old_bytes m a = if m.readonly then replicate (2 ^ a.size) 0 else bytes_at m a

-- the answer to a request with that opcode; nothing answers a posted write, or an answer
abbrev pub answer_by : Op → MemoryState → Access → Option Access
answer_by ReqRd m a = Some (reply a RespRd the_codes.Ok (bytes_at m a))
answer_by ReqWr m a = Some (reply a RespWr (write_code m) [])
answer_by ReqWrPosted m a = None
answer_by ReqAtomic m a = Some (reply a RespRd (write_code m) (old_bytes m a))
answer_by RespRd m a = None
answer_by RespWr m a = None

-- The answer to an access, from the memory before it.
abbrev pub access_answer : MemoryState → Access → Option Access
access_answer m a = answer_by a.op m a

-- the memory after accesses, one after another
abbrev pub memory_after : MemoryState → List Access → MemoryState
memory_after m list = fold access_step m list

-- the answers to accesses, one after another: a place for each, empty where nothing answers
abbrev pub answers_in : MemoryState → List Access → List (Option Access)
answers_in m [] = []
answers_in m (a ∷ list) = access_answer m a ∷ answers_in (access_step m a) list

-- the answers that there are to accesses, one after another
abbrev pub answers_to : MemoryState → List Access → List Access
answers_to m list = filter_map (λ answer. answer) (answers_in m list)
