-- The rule of a ring: what holds between any two steps of any seats. It speaks of any items that are spelt by a fixed
-- number of words each, so that wider slots change a number alone.
-- The tail word has the count of the items that are published, and the head word that of the items received. Item k stands
-- in a slot of its own, in turn with those before it.
use Rattle.std.specs.Prelude.{◌≡◌, ℕ, ◌+◌, ◌*◌, ◌%◌, ◌<◌, ◌≤◌, true, false, List, [], ◌∷◌, ◌++◌, length, slice_index}
use mathlib.Core.Option.{some}
use lib.ListN.{get_elem?}
use Rattle.atomic_table.specs.Table.{State}
use Rattle.sb_link.specs.Prefixes.{IsPrefix}
use Rattle.sb_ring.specs.Layout.{head_word, slots_word, tail_word}
use Rattle.sb_ring.specs.declared.view.View.{View}
use Rattle.sb_ring.specs.declared.view.Role.{Role}
use Rattle.sb_ring.specs.declared.view.Role.TheVariants.{Producer, Consumer, ReceivedNote, SentNote}

-- where the slot of item k begins, in a ring of so many places
abbrev pub slot_place : ℕ → ℕ → ℕ → ℕ
slot_place width capacity k = slots_word + k % capacity * width

-- the numbers stand among the words, one after another, from a place on
abbrev pub StandAt : List ℕ → ℕ → List ℕ → Type 0
StandAt words place numbers = (j : ℕ) → j < length numbers → slice_index words (place + j) ≡ slice_index numbers j

module _ {P I : Type 0} where
  -- the items that a producer sent: those that it published, and behind them those that stand ahead of the tail
  abbrev pub sent_of : View P I → List I
  sent_of v = v.items ++ v.ahead

  -- a view that has a plan and items, and nothing else
  abbrev pub bare_view : Role → P → List I → View P I
  bare_view role plan items =
      record { role = role; paired = false; plan = plan; items = items; ahead = []; learnt = 0; loads = 0; part = []; told = [] }

  -- a producer that has sent nothing and has no consumer yet
  abbrev pub new_producer : P → View P I
  new_producer plan = bare_view Producer plan []

  -- a consumer that has received nothing
  abbrev pub new_consumer : P → View P I
  new_consumer plan = bare_view Consumer plan []

-- The words and what the two ends know fit together: `spelling` gives the words of an item, so many as `width` says, and
-- `MaySend` says which item may be sent after which. Before the producer has a consumer, a new one stands in its place.
pub record IsRing {P I : Type 0} (width : ℕ) (spelling : I → List ℕ) (MaySend : P → List I → I → Type 0) (capacity : ℕ) (words : List ℕ) (producer consumer : View P I) : Type 0 where
  -- there are the two counts, and a slot for each place
  pub size : length words ≡ slots_word + capacity * width
  -- the tail word counts the items published, and the head word those received
  pub tail : slice_index words tail_word ≡ length producer.items
  pub head : slice_index words head_word ≡ length consumer.items
  -- what was received begins what was published; what a note told either end begins what the other end has
  pub in_order : IsPrefix consumer.items producer.items
  pub told_producer : IsPrefix producer.told consumer.items
  pub told_consumer : IsPrefix consumer.told producer.items
  -- neither end knows of more than the other one did, and the producer never fills more places than it knows to be free
  pub taken : producer.learnt ≤ length consumer.items
  pub known : consumer.learnt ≤ length producer.items
  pub room : length (sent_of producer) ≤ producer.learnt + capacity
  -- each item that was sent and not yet received stands in its slot, word for word, whether it is published or not
  pub stored : (k : ℕ) (item : I) → length consumer.items ≤ k → get_elem? (sent_of producer) k ≡ some item → StandAt words (slot_place width capacity k) (spelling item)
  -- while the producer stores the words of its next item, it knows of a free place, and the words stored so far stand there
  pub free : 0 < length producer.part → length (sent_of producer) < producer.learnt + capacity
  pub narrow : length producer.part ≤ width
  pub written : StandAt words (slot_place width capacity (length (sent_of producer))) producer.part
  -- while the consumer loads the words of its next item, it knows of one that waits, and the words loaded so far begin that item's
  pub waits : 0 < length consumer.part → length consumer.items < consumer.learnt
  pub loaded : (item : I) → get_elem? producer.items (length consumer.items) ≡ some item → IsPrefix consumer.part (spelling item)
  -- each item that was sent might be sent after those before it
  pub lawful : (before after : List I) (item : I) → sent_of producer ≡ before ++ item ∷ after → MaySend producer.plan before item
  -- both ends have one plan, and as long as the producer has no consumer, nothing happened at the other end
  pub one_plan : consumer.plan ≡ producer.plan
  pub unpaired : producer.paired ≡ false → consumer ≡ new_consumer producer.plan

-- What the view of seat number j has to be, where the producer sits on one seat and the consumer on another: there is no
-- second producer and no second consumer, and what a note says begins what its writer has. A note that was read is free.
pub record IsSeat {P I : Type 0} (producer_seat consumer_seat : ℕ) (producer consumer : View P I) (j : ℕ) (view : View P I) : Type 0 where
  pub one_producer : view.role ≡ Producer → (j ≡ producer_seat) × (view ≡ producer)
  pub one_consumer : view.role ≡ Consumer → (j ≡ consumer_seat) × (view ≡ consumer) × (producer.paired ≡ true)
  pub received_note : view.role ≡ ReceivedNote → IsPrefix view.items consumer.items
  pub sent_note : view.role ≡ SentNote → IsPrefix view.items producer.items

-- The rule: one seat is the producer, one is the consumer once it was made, each other one is a note, and the words fit
-- what these two know.
pub record IsRuled {S P I : Type 0} (width : ℕ) (spelling : I → List ℕ) (MaySend : P → List I → I → Type 0) (capacity : ℕ) (table : State S (View P I)) : Type 0 where
  pub producer_seat : ℕ
  pub consumer_seat : ℕ
  pub producer : View P I
  pub consumer : View P I
  pub producer_role : producer.role ≡ Producer
  pub consumer_role : consumer.role ≡ Consumer
  pub producer_sits : get_elem? table.views producer_seat ≡ some producer
  pub consumer_sits : producer.paired ≡ true → get_elem? table.views consumer_seat ≡ some consumer
  pub seats : (j : ℕ) (view : View P I) → get_elem? table.views j ≡ some view → IsSeat producer_seat consumer_seat producer consumer j view
  pub ring : IsRing width spelling MaySend capacity table.words producer consumer
