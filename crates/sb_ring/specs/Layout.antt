-- Where the words of a ring stand in its table.
use Rattle.std.specs.Prelude.{ℕ}

-- so many words a slot has
abbrev pub slot_width : ℕ
slot_width = 8

-- the word with the count of the items published
abbrev pub tail_word : ℕ
tail_word = 0

-- the word with the count of the items received: 64 bytes away from every word that the producer stores
abbrev pub head_word : ℕ
head_word = 8

-- the first word of the first slot
abbrev pub slots_word : ℕ
slots_word = 16

-- so many items at most are published by one store of the tail
abbrev pub batch_size : ℕ
batch_size = 8
