-- What may be sent over a ring of this crate, and the rule of its table.
use Rattle.std.specs.Prelude.{ℕ, List, Option, Some, None}
use Rattle.atomic_table.specs.Table.{State}
use Rattle.sb_slot.specs.Slots.{IsSlotOf, slot_of}
use Rattle.sb_link.specs.Traffic.{MayFollow}
use Rattle.sb_packet.specs.declared.item.Item.{Item}
use Rattle.sb_link.specs.PlanOf.{plan_of}
use Rattle.sb_link.specs.declared.plan.LinkPlan.{LinkPlan}
use Rattle.sb_ring.specs.Layout.{slot_width}
use Rattle.sb_ring.specs.Rule.{IsRuled}
use Rattle.sb_ring.specs.declared.view.View.{View}

-- an item may be sent after others: the plan lets it follow them, and its slot reads back as this item
pub record MaySendBy (plan : LinkPlan) (before : List Item) (item : Item) : Type 0 where
  pub may_follow : MayFollow (plan_of plan) before item
  pub reads_back : IsSlotOf (slot_of item) item

-- The same by the plan of a view. A note that was read has none, and by it nothing may be sent.
abbrev pub MaySend : Option LinkPlan → List Item → Item → Type 0
MaySend None before item = ⊥
MaySend (Some plan) before item = MaySendBy plan before item

-- the rule of a ring's table
abbrev pub IsRingTable : LinkPlan → State ℕ (View (Option LinkPlan) Item) → Type 0
IsRingTable plan table = IsRuled slot_width slot_of MaySend plan.capacity table
