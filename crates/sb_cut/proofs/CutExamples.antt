-- A transaction of 256 bytes, cut and joined, computed.
use Rattle.std.proofs.Common.{◌≡◌, ℕ, ◌+◌, ◌*◌, refl, [], ◌∷◌, false, true, Bool, Some, None, map, length}
use Rattle.std.specs.Prelude.{List, flat_map, ◌==◌}
use Rattle.std.specs.List.{range_with_len}
use Rattle.sb_packet.specs.Messages.{Message}
use Rattle.sb_packet.specs.Cuts.{cut_parts}
use Rattle.sb_word.specs.declared.command.Op.TheVariants.{ReqRd, ReqWr}
use Rattle.sb_cut.specs.Folds.{fold_all, listed}

-- a read of 32 words of 8 bytes, answered at its window's begin
abbrev long_read : Message
long_read = record { op = ReqRd; atomic = None; size = 3; host = 0; dst = 4096; src = 0; count = 32; bytes = []; eom = true; qos = 0; prot = 0; eof = false; ex = false; tail = 0 }

-- what one sees of a message: where it goes, where it is answered, how many words it speaks of, and whether it ends the transaction
record Outline : Type 0 where
  pub dst : ℕ
  pub src : ℕ
  pub count : ℕ
  pub eom : Bool

abbrev outline : Message → Outline
outline m = record { dst = m.dst; src = m.src; count = m.count; eom = m.eom }

-- so many messages of so many words, one behind the other, of which the last one of `number` ends the transaction
abbrev row_of : ℕ → ℕ → ℕ → List Outline
row_of shown number words = map (λ k. record { dst = 4096 + k * (words * 8); src = k * (words * 8); count = words; eom = k + 1 == number }) (range_with_len 0 shown)

-- Its packets are eight of 32 bytes.
its_packets : map outline (cut_parts 32 long_read) ≡ row_of 8 8 4
its_packets = refl

-- Cut to 8 bytes they are 32, and only the last one ends the transaction.
abbrev narrow_parts : List Message
narrow_parts = flat_map (cut_parts 8) (cut_parts 32 long_read)

its_parts : map outline narrow_parts ≡ row_of 32 32 1
its_parts = refl

-- A merger up to 16 bytes lets out 15 messages of 16 bytes, and holds the sixteenth, which alone ends the transaction.
lets_out : map outline (fold_all 16 None narrow_parts).out ≡ row_of 15 16 2
lets_out = refl

holds_the_last : map outline (listed (fold_all 16 None narrow_parts).held) ≡ record { dst = 4336; src = 240; count = 2; eom = true } ∷ []
holds_the_last = refl

-- a write of three words of 4 bytes, and its parts of 8 bytes
abbrev short_write : Message
short_write = record { op = ReqWr; atomic = None; size = 2; host = 1; dst = 64; src = 0; count = 3; bytes = 1 ∷ 2 ∷ 3 ∷ 4 ∷ 5 ∷ 6 ∷ 7 ∷ 8 ∷ 9 ∷ 10 ∷ 11 ∷ 12 ∷ []; eom = true; qos = 0; prot = 0; eof = false; ex = false; tail = 0 }

its_two_parts : cut_parts 8 short_write
    ≡ record short_write { count = 2; bytes = 1 ∷ 2 ∷ 3 ∷ 4 ∷ 5 ∷ 6 ∷ 7 ∷ 8 ∷ []; eom = false } ∷ record short_write { dst = 72; src = 8; count = 1; bytes = 9 ∷ 10 ∷ 11 ∷ 12 ∷ [] } ∷ []
its_two_parts = refl

-- They are joined to the write again where both fit.
joined_again : fold_all 16 None (cut_parts 8 short_write) ≡ record { out = []; held = Some short_write }
joined_again = refl

not_joined_past_the_width : length (fold_all 8 None (cut_parts 8 short_write)).out ≡ 1
not_joined_past_the_width = refl
