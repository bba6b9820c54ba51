-- What the ends of a ring say of their calls.
use Rattle.std.specs.Prelude.{◌≡◌, ◌≢◌, ℕ, ◌+◌, ◌<◌, ◌≤◌, List, [], ◌∷◌, ◌++◌, length, Option, All}
use Rattle.atomic_table.specs.Seated.{TableId}
use Rattle.sb_link.specs.Prefixes.{IsPrefix}
use Rattle.sb_link.specs.RingPlans.{RingPlan}
use Rattle.sb_link.specs.Traffic.{MayFollow}
use Rattle.sb_packet.specs.declared.item.Item.{Item}
use Rattle.sb_link.specs.declared.answers.Push.{Push}
use Rattle.sb_link.specs.declared.answers.Push.TheVariants as pushes
use Rattle.sb_link.specs.declared.answers.Pop.{Pop}
use Rattle.sb_link.specs.declared.answers.Pop.TheVariants as pops

-- Which ring an end is of: two ends are of one ring where their marks are equal.
pub record Mark : Type 0 where
  pub plan : RingPlan
  -- the table that both ends step on, where there is one
  pub table : Option TableId
  -- where an end keeps items back: those that were handed over so far, and the count of taken ones that was told last
  pub handed : List Item
  pub told : ℕ

-- an item was sent: there was room by the count of taken items that the call knew
pub record IsSent (capacity : ℕ) (before : List Item) (item : Item) (after : List Item) (taken : ℕ) : Type 0 where
  pub room : length before < taken + capacity
  pub sent : after ≡ before ++ item ∷ []

-- a push answered that the ring is full, with two counts: it is full by them, and nothing was sent
pub record IsFullBy (capacity : ℕ) (before after : List Item) (knew : ℕ) (told_sent told_taken : ℕ) : Type 0 where
  pub sent : told_sent ≡ length before
  pub taken : told_taken ≡ knew
  pub full : told_sent ≡ told_taken + capacity
  pub same : after ≡ before

-- What a push answers, from the items that were sent before it to those after it, and by the count of taken items that it knew.
abbrev pub Pushed : ℕ → List Item → Item → List Item → ℕ → Push → Type 0
Pushed capacity before item after taken pushes.Done = IsSent capacity before item after taken
Pushed capacity before item after taken (pushes.Full told_sent told_taken) = IsFullBy capacity before after taken told_sent told_taken

-- an item was received: by the count of sent items that the call knew one was there, and it may follow those before it
pub record IsReceived (plan : RingPlan) (before : List Item) (item : Item) (after : List Item) (known : ℕ) : Type 0 where
  pub waited : length before < known
  pub lawful : MayFollow plan before item
  pub received : after ≡ before ++ item ∷ []

-- a pop answered that the ring is empty, with two counts: it is empty by them, and nothing was received
pub record IsEmptyBy (before after : List Item) (knew : ℕ) (told_received told_sent : ℕ) : Type 0 where
  pub received : told_received ≡ length before
  pub known : told_sent ≡ knew
  pub empty : told_received ≡ told_sent
  pub same : after ≡ before

-- What a pop answers, from the items that were received before it to those after it, and by the count of sent items that it knew.
abbrev pub Popped : RingPlan → List Item → List Item → ℕ → Pop → Type 0
Popped plan before after known (pops.Item item) = IsReceived plan before item after known
Popped plan before after known (pops.Empty told_received told_sent) = IsEmptyBy before after known told_received told_sent

-- Both ends know at least what the other one did, and what was received begins what was sent.
pub record HaveMet (sent : List Item) (taken : ℕ) (received : List Item) (known : ℕ) : Type 0 where
  pub in_order : IsPrefix received sent
  pub told_producer : length received ≤ taken
  pub told_consumer : length sent ≤ known

-- no plan of the list is of that ring
abbrev pub IsNewRing : ℕ → List RingPlan → Type 0
IsNewRing ring made = All (λ plan. plan.ring ≢ ring) made
