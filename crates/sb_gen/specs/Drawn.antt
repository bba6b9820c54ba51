-- What six draws make: a transaction. This project's own.
use Rattle.std.specs.Prelude.{ℕ, ◌+◌, ◌-◌, ◌*◌, ◌/◌, ◌%◌, ◌^◌, List, [], ◌∷◌, map, slice_index_or}
use Rattle.std.specs.List.{range_with_len}
use Rattle.sb_word.specs.declared.atomic.AtomicOp.TheVariants as atomics
use Rattle.sb_packet.specs.declared.transaction.Kind.{Kind}
use Rattle.sb_packet.specs.declared.transaction.Kind.TheVariants.{Atomic, Posted, Read, Write}
use Rattle.sb_packet.specs.declared.transaction.Txn.{Txn}
use Rattle.sb_gen.specs.Congruence.{draw}
use Rattle.sb_gen.specs.declared.draws.Draws.{Draws}

-- the draws of transaction i of a number, from 0
abbrev pub draws_of : ℕ → ℕ → Draws
draws_of number i = record {
  kind = draw number (6 * i);
  size = draw number (6 * i + 1);
  device = draw number (6 * i + 2);
  words = draw number (6 * i + 3);
  page = draw number (6 * i + 4);
  place = draw number (6 * i + 5);
}

-- one kind in five each
abbrev pub drawn_kind : Draws → Kind
drawn_kind d = slice_index_or (Read ∷ Write ∷ Posted ∷ Atomic atomics.Add ∷ []) (d.kind % 5) (Atomic atomics.Swap)

-- words of 1, 2, 4 and 8 bytes
abbrev pub drawn_size : Draws → ℕ
drawn_size d = d.size % 4

-- an atomic is one word, and all else has 1 to 16
abbrev pub words_of_kind : Kind → ℕ → ℕ
words_of_kind (Atomic atomic) words = 1
words_of_kind Read words = 1 + words % 16
words_of_kind Write words = 1 + words % 16
words_of_kind Posted words = 1 + words % 16

abbrev pub drawn_count : Draws → ℕ
drawn_count d = words_of_kind (drawn_kind d) d.words

-- how many bytes that is
abbrev pub drawn_span : Draws → ℕ
drawn_span d = drawn_count d * 2 ^ drawn_size d

-- device k begins behind k + 1 times 256 pages
abbrev pub gen_base : ℕ → ℕ
gen_base k = 1048576 * (k + 1)

-- a word of one of the 16 pages of a device, so that the last word of the transaction is in the page too
abbrev pub drawn_address : Draws → ℕ
drawn_address d =
    gen_base (d.device % 4) + 4096 * (d.page % 16) + 2 ^ drawn_size d * (d.place % (4096 / 2 ^ drawn_size d - drawn_count d + 1))

-- so many bytes, of which each is greater by one than the one before, modulo 256
abbrev pub rising_bytes : ℕ → ℕ → List ℕ
rising_bytes first span = map (λ j. (first + j) % 256) (range_with_len 0 span)

-- a read brings no bytes
abbrev pub body_of_kind : Kind → ℕ → ℕ → List ℕ
body_of_kind Read first span = []
body_of_kind Write first span = rising_bytes first span
body_of_kind Posted first span = rising_bytes first span
body_of_kind (Atomic atomic) first span = rising_bytes first span

-- The transaction that six draws make.
abbrev pub drawn_transaction : Draws → Txn
drawn_transaction d = record {
  kind = drawn_kind d;
  size = drawn_size d;
  addr = drawn_address d;
  count = drawn_count d;
  body = body_of_kind (drawn_kind d) d.kind (drawn_span d);
}
