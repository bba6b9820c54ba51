-- Messages that are sound and whole, and messages that are not.
use Rattle.std.proofs.Common.{◌≡◌, ◌≤◌, ◌+◌, ◌*◌, ◌^◌, ◌%◌, refl, arith, replicate, [], ℕ, false, true, Bool, Some, None}
use Rattle.sb_packet.specs.Messages.{Message}
use Rattle.sb_packet.specs.Scripts.{request_message}
use Rattle.sb_packet.specs.Cuts.{device_place, reply_place, IsSound, IsWhole, IsFine}
use Rattle.sb_packet.specs.declared.transaction.Kind.TheVariants.{Read}
use Rattle.sb_word.specs.declared.atomic.AtomicOp.TheVariants.{Swap}
use Rattle.sb_word.specs.declared.command.Op.TheVariants.{ReqWr, ReqAtomic, RespRd}

-- host 1 asks for two words of eight bytes at an address
abbrev read_at : ℕ → Bool → Message
read_at address eom = record (request_message 1 0 0 0 (record { kind = Read; size = 3; addr = address; count = 2; body = [] })) { eom = eom }

-- A request's bytes lie where it goes, and an answer's where it comes from.
pub places_of_a_request : (device_place (read_at 16 true) ≡ 16) × (reply_place (read_at 16 true) ≡ 2 ^ 40)
places_of_a_request = (refl, refl)

pub places_of_an_answer : (device_place (record (read_at 16 true) { op = RespRd }) ≡ 2 ^ 40) × (reply_place (record (read_at 16 true) { op = RespRd }) ≡ 16)
places_of_an_answer = (refl, refl)

-- A read of the last bytes of a page is sound where it ends its transaction, and it may go over a link of 16 bytes.
pub read_to_the_border : IsFine 16 (read_at 4080 true)
read_to_the_border = record {
  sound = record { page = omega arith; border = λ h. absurd (cc); low = omega arith; high = omega arith; exclusive = λ h. absurd (cc) };
  whole = record { some = omega arith; size = omega arith; carried = refl; single = λ h. absurd (cc); plain = λ h. refl };
  narrow = omega arith;
}

-- It isn't where it doesn't end it,
pub part_at_the_border : IsSound (read_at 4080 false) → ⊥
part_at_the_border sound = sound.border refl refl

-- nor is one over the border,
pub read_over_the_border : IsSound (read_at 4088 true) → ⊥
read_over_the_border sound = let page : 4088 % 4096 + 16 ≤ 4096 = sound.page in absurd (omega (arith, page))

-- one that is answered before its host's addresses or behind them,
pub reply_before_the_host : IsSound (record (read_at 16 true) { src = 0 }) → ⊥
reply_before_the_host sound = let low : 1 * 2 ^ 40 ≤ 0 = sound.low in absurd (omega (arith, low))

pub reply_behind_the_host : IsSound (record (read_at 16 true) { src = 2 * 2 ^ 40 }) → ⊥
reply_behind_the_host sound = let high : 2 * 2 ^ 40 + 16 ≤ (1 + 1) * 2 ^ 40 = sound.high in absurd (omega (arith, high))

-- or an exclusive one of two words.
pub exclusive_of_two_words : IsSound (record (read_at 16 true) { ex = true }) → ⊥
exclusive_of_two_words sound = let one : 2 ≡ 1 = sound.exclusive refl in absurd (omega (arith, one))

-- A read that brings bytes isn't whole, nor is a write that doesn't bring all of them,
pub read_with_bytes : IsWhole (record (read_at 16 true) { bytes = replicate 16 0 }) → ⊥
read_with_bytes whole = let none : 16 ≡ 0 = whole.carried in absurd (omega (arith, none))

pub write_with_too_few_bytes : IsWhole (record (read_at 16 true) { op = ReqWr; bytes = replicate 8 0 }) → ⊥
write_with_too_few_bytes whole = let all : 8 ≡ 16 = whole.carried in absurd (omega (arith, all))

-- an atomic of two words, or a read that is said to be one of the atomics.
pub atomic_of_two_words : IsWhole (record (read_at 16 true) { op = ReqAtomic; bytes = replicate 16 0 }) → ⊥
atomic_of_two_words whole = let one : 2 ≡ 1 = whole.single refl in absurd (omega (arith, one))

pub read_with_an_atomic : IsWhole (record (read_at 16 true) { atomic = Some Swap }) → ⊥
read_with_an_atomic whole = let none : Some Swap ≡ None = whole.plain refl in absurd (cc)
