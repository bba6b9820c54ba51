-- What an end knows after an item was sent, published or received.
use Rattle.std.proofs.Common.{◌≡◌, ℕ, ◌+◌, List, [], ◌∷◌, ◌++◌, length, length-append, append_assoc, ap, subst, sym, ◌∙◌}
use Rattle.std.proofs.lemmas.List.{append-nil}
use Rattle.std.specs.Prelude.{Option, Some}
use Rattle.atomic_table.specs.Table.{Me}
use Rattle.sb_link.specs.Prefixes.{IsPrefix}
use Rattle.sb_link.specs.Traffic.{MayFollow}
use Rattle.sb_packet.specs.declared.item.Item.{Item}
use Rattle.sb_link.specs.PlanOf.{plan_of}
use Rattle.sb_link.specs.declared.plan.LinkPlan.{LinkPlan}
use Rattle.sb_ring.specs.Plays.{with_ahead, with_item, with_part, with_published}
use Rattle.sb_ring.specs.Rule.{sent_of}
use Rattle.sb_ring.specs.Sending.{MaySendBy, MaySend}
use Rattle.sb_ring.specs.declared.view.View.{View}

-- what a seat of a ring's table knows
abbrev pub RingMe : Type 0
RingMe = Me ℕ (View (Option LinkPlan) Item)

-- a producer sent one more item
pub sent_more : (me after : RingMe) (item : Item) → after ≡ (with_ahead me.0 item, me.1) → sent_of after.0 ≡ sent_of me.0 ++ item ∷ []
sent_more me after item more = ap (λ (z : RingMe). sent_of z.0) more ∙ sym (append_assoc me.0.items me.0.ahead (item ∷ []))

-- and published it
pub sent_same : (me after : RingMe) → after ≡ (with_published me.0, me.1) → sent_of after.0 ≡ sent_of me.0
sent_same me after published = ap (λ (z : RingMe). sent_of z.0) published ∙ append-nil (sent_of me.0)

-- where nothing stands ahead, all that was sent is published
pub all_published : (me : RingMe) → me.0.ahead ≡ [] → me.0.items ≡ sent_of me.0
all_published me none = sym (ap (λ (ahead : List Item). me.0.items ++ ahead) none ∙ append-nil me.0.items)

-- and what was published before begins it
pub published_more : (me after : RingMe) → after.0.ahead ≡ [] → sent_of after.0 ≡ sent_of me.0 → IsPrefix me.0.items after.0.items
published_more me after none same = record { rest = me.0.ahead; joined = sym (all_published after none ∙ same) }

-- a consumer loaded a slot, and received its item
pub seat_after : (me loaded after : RingMe) (slot : List ℕ) (item : Item) → loaded ≡ (with_part me.0 slot, me.1) → after ≡ (with_item loaded.0 item, loaded.1) → after ≡ (with_item me.0 item, me.1)
seat_after me loaded after slot item part more = more ∙ ap (λ (z : RingMe). (with_item z.0 item, z.1)) part

-- a list with one more item is longer by one
pub one_more : (list : List Item) (item : Item) → length (list ++ item ∷ []) ≡ length list + 1
one_more list item = length-append list (item ∷ [])

-- what may be sent by a known plan may follow by it
pub may_follow : (some : Option LinkPlan) (plan : LinkPlan) (before : List Item) (item : Item) → some ≡ Some plan → MaySend some before item → MayFollow (plan_of plan) before item
may_follow some plan before item is may = let sendable : MaySendBy plan before item = subst (λ (p : Option LinkPlan). MaySend p before item) is may in sendable.may_follow
