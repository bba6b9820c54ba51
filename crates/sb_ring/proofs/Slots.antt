-- What the slots of items have in common.
use Rattle.std.proofs.Common.{◌≡◌, ℕ, List, length, refl, subst, sym, ◌∙◌}
use Rattle.std.specs.Prelude.{Option, Some, None, Result, Ok}
use Rattle.sb_slot.proofs.SlotLaws.{one_item}
use Rattle.sb_slot.specs.Slots.{IsSlotOf, slot_of}
use Rattle.sb_link.specs.declared.plan.LinkPlan.{LinkPlan}
use Rattle.sb_ring.specs.Sending.{MaySend}
use Rattle.sb_packet.specs.declared.item.Item.{Item}
use Rattle.sb_packet.specs.declared.item.Item.TheVariants as items
use Rattle.sb_ring.specs.Layout.{slot_width}

-- every slot has its width
pub slot_length : (item : Item) → length (slot_of item) ≡ slot_width
slot_length (items.Packet p) = refl
slot_length items.Close = refl

-- the slot of an item that may be sent reads back as it
pub reads_back : (plan : Option LinkPlan) (before : List Item) (item : Item) → MaySend plan before item → IsSlotOf (slot_of item) item
reads_back None before item h = absurd h
reads_back (Some plan) before item h = h.reads_back

-- two items that may be sent and have one slot are one item
pub one_sendable : (plan : Option LinkPlan) (before : List Item) (x y : Item) → MaySend plan before x → MaySend plan before y → slot_of x ≡ slot_of y → x ≡ y
one_sendable plan before x y first second same =
    one_item (slot_of y) x y (subst (λ slot. IsSlotOf slot x) same (reads_back plan before x first)) (reads_back plan before y second)

-- words that are the slot of an item that may be sent are read as that item
pub read_as : (plan : Option LinkPlan) (before : List Item) (item : Item) (words part : List ℕ) → MaySend plan before item → slot_of item ≡ part → words ≡ part → IsSlotOf words item
read_as plan before item words part may spelt same = subst (λ slot. IsSlotOf slot item) (spelt ∙ sym same) (reads_back plan before item may)

-- two items that one call answered are one
pub one_ok : {E : Type 0} (x y : Item) → ◌≡◌ {A = Result Item E} (Ok x) (Ok y) → x ≡ y
one_ok x y same = cc
