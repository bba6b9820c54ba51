-- What each step tells the seat that makes it.
use Rattle.std.specs.Prelude.{◌≡◌, ℕ, ◌+◌, ◌≤◌, true, List, [], ◌∷◌, ◌++◌, length}
use Rattle.atomic_table.specs.Table.{Me}
use Rattle.sb_link.specs.Prefixes.{IsPrefix}
use Rattle.sb_ring.specs.Rule.{bare_view, sent_of}
use Rattle.sb_ring.specs.declared.view.View.{View}
use Rattle.sb_ring.specs.declared.view.Role.TheVariants.{ReceivedNote, SentNote, Spent}

-- a list with another number in place of its last one
abbrev pub with_last : List ℕ → ℕ → List ℕ
with_last [] word = []
with_last (x ∷ []) word = word ∷ []
with_last (x ∷ y ∷ rest) word = x ∷ with_last (y ∷ rest) word

module _ {P I : Type 0} where
  -- a seat has loaded the other end's count
  abbrev pub with_learnt : View P I → ℕ → View P I
  with_learnt v n = record v { learnt = n; loads = v.loads + 1 }

  -- a seat has these words of its next item
  abbrev pub with_part : View P I → List ℕ → View P I
  with_part v part = record v { part = part }

  -- a producer has sent one more item, and not published it
  abbrev pub with_ahead : View P I → I → View P I
  with_ahead v item = record v { ahead = v.ahead ++ item ∷ []; part = [] }

  -- a producer has published all that it sent
  abbrev pub with_published : View P I → View P I
  with_published v = record v { items = sent_of v; ahead = [] }

  -- a consumer has received one more item
  abbrev pub with_item : View P I → I → View P I
  with_item v item = record v { items = v.items ++ item ∷ []; part = [] }

  -- a producer whose consumer was made
  abbrev pub with_consumer : View P I → View P I
  with_consumer v = record v { paired = true }

  -- a seat has read a note
  abbrev pub with_told : View P I → View P I → View P I
  with_told v note = record v { told = note.items }

  -- a note of what the consumer received
  abbrev pub note_of_received : View P I → View P I
  note_of_received v = bare_view ReceivedNote v.plan v.items

  -- a note of what the producer published
  abbrev pub note_of_sent : View P I → View P I
  note_of_sent v = bare_view SentNote v.plan v.items

  -- a note that was read; `plan` is any plan
  abbrev pub read_note : P → View P I
  read_note plan = bare_view Spent plan []

module _ {S P I : Type 0} where
  -- the producer loaded the head word: it knows that so many items were taken, and that the note which it read last
  -- began what it has published and was no longer than that
  pub record IsHeadLoad (before : Me S (View P I)) (count : ℕ) (after : Me S (View P I)) : Type 0 where
    pub known_now : after ≡ (with_learnt before.0 count, before.1)
    pub risen : before.0.learnt ≤ count
    pub within : count ≤ length before.0.items
    pub note_in_order : IsPrefix before.0.told before.0.items
    pub note_within : length before.0.told ≤ count

  -- either end loaded the word that stands behind those which it has: the producer in its free slot, the consumer in the
  -- slot of its next item
  pub record IsWordLoad (before : Me S (View P I)) (word : ℕ) (after : Me S (View P I)) : Type 0 where
    pub grown : after ≡ (with_part before.0 (before.0.part ++ word ∷ []), before.1)

  -- the producer stored another word in place of the last one that it has
  pub record IsWordStore (before : Me S (View P I)) (word : ℕ) (after : Me S (View P I)) : Type 0 where
    pub replaced : after ≡ (with_part before.0 (with_last before.0.part word), before.1)

  -- the producer sent an item: the words that it has are an item's that may be sent there
  pub record IsItemEnd (spelling : I → List ℕ) (MaySend : P → List I → I → Type 0) (before after : Me S (View P I)) : Type 0 where
    pub item : I
    pub spelt : spelling item ≡ before.0.part
    pub lawful : MaySend before.0.plan (sent_of before.0) item
    pub sent : after ≡ (with_ahead before.0 item, before.1)

  -- the producer stored the tail word: all that it sent is published
  pub record IsTailStore (before after : Me S (View P I)) : Type 0 where
    pub published : after ≡ (with_published before.0, before.1)

  -- the consumer loaded the tail word: it knows that so many items were published, and that the note which it read last
  -- was no longer than that
  pub record IsTailLoad (before : Me S (View P I)) (count : ℕ) (after : Me S (View P I)) : Type 0 where
    pub known_now : after ≡ (with_learnt before.0 count, before.1)
    pub risen : before.0.learnt ≤ count
    pub within : length before.0.items ≤ count
    pub note_within : length before.0.told ≤ count

  -- the consumer stored the head word: the words that it has are an item that might be sent there, and it is received
  pub record IsHeadStore (spelling : I → List ℕ) (MaySend : P → List I → I → Type 0) (before after : Me S (View P I)) : Type 0 where
    pub item : I
    pub spelt : spelling item ≡ before.0.part
    pub lawful : MaySend before.0.plan before.0.items item
    pub received : after ≡ (with_item before.0 item, before.1)
