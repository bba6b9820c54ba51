-- The rule of a queue that is a ring: what holds between any two pushes and pops of any passes.
use Rattle.std.specs.Prelude.{◌≡◌, ℕ, Bool, true, List, [], ◌++◌, Option, Some, None}
use mathlib.Core.Option.{some}
use lib.ListN.{get_elem?}
use Rattle.sb_link.specs.Traffic.{AreInTurn, MayFollow}
use Rattle.sb_packet.specs.declared.item.Item.{Item}
use Rattle.sb_link.specs.PlanOf.{plan_of}
use Rattle.sb_link.specs.declared.plan.LinkPlan.{LinkPlan}
use Rattle.sb_queue.specs.declared.log.Log.{Log}

-- what a pass may do and has done
abbrev pub log_of : Bool → Bool → Option LinkPlan → List Item → List Item → Log
log_of pushes pops plan sent received = record { pushes = pushes; pops = pops; plan = plan; sent = sent; received = received }

-- An item may follow others by the plan of a pass. As long as that isn't known, none may.
abbrev pub FollowsBy : Option LinkPlan → List Item → Item → Type 0
FollowsBy None before item = ⊥
FollowsBy (Some plan) before item = MayFollow (plan_of plan) before item

-- Items are in turn by the plan of a pass. As long as that isn't known, there are none.
abbrev pub InTurnBy : Option LinkPlan → List Item → Type 0
InTurnBy None list = list ≡ []
InTurnBy (Some plan) list = AreInTurn (plan_of plan) list

-- What the log of pass number `port` has to be: only one pass may push, and it has what was sent; only one may pop, and it
-- has what was received.
pub record IsPass (writer reader : ℕ) (ring_plan : Option LinkPlan) (all_sent all_received : List Item) (port : ℕ) (log : Log) : Type 0 where
  pub one_writer : log.pushes ≡ true → (port ≡ writer) × (log.sent ≡ all_sent) × (log.plan ≡ ring_plan)
  pub one_reader : log.pops ≡ true → (port ≡ reader) × (log.received ≡ all_received) × (log.plan ≡ ring_plan)

-- The rule: what was received and then what the queue holds is what was sent, and that is in turn.
pub record IsRelayed (items : List Item) (logs : List Log) : Type 0 where
  pub writer : ℕ
  pub reader : ℕ
  pub plan : Option LinkPlan
  pub sent : List Item
  pub received : List Item
  pub in_order : sent ≡ received ++ items
  pub in_turn : InTurnBy plan sent
  pub ports : (port : ℕ) (log : Log) → get_elem? logs port ≡ some log → IsPass writer reader plan sent received port log
