-- Which queue an end is of.
use Rattle.std.specs.Prelude.{[], Some}
use Rattle.atomic_table.specs.Seated.{TableId}
use Rattle.sb_link.specs.Ends.{Mark}
use Rattle.sb_link.specs.PlanOf.{plan_of}
use Rattle.sb_link.specs.declared.plan.LinkPlan.{LinkPlan}

-- the ring's plan and its queue's table
abbrev pub queue_mark : LinkPlan → TableId → Mark
queue_mark plan id = record { plan = plan_of plan; table = Some id; handed = []; told = 0 }
