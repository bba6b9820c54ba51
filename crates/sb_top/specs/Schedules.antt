-- In what order the nodes of a network take their turns.
use Rattle.std.specs.Prelude.{ℕ, ◌≤◌, ◌==◌, if◌then◌else◌}
use Rattle.sb_top.specs.declared.schedule.Schedule.{Schedule}
use Rattle.sb_top.specs.declared.schedule.Schedule.TheVariants.{InTurn, SideBySide}

-- how many groups the nodes are dealt to
abbrev pub groups_by : Schedule → ℕ
groups_by (InTurn order) = 1
groups_by (SideBySide workers) = if workers == 1 then 1 else 16

-- how many threads take part
abbrev pub workers_by : Schedule → ℕ
workers_by (InTurn order) = 1
workers_by (SideBySide workers) = workers

-- there is a worker
abbrev pub HasWorkers : Schedule → Type 0
HasWorkers schedule = 1 ≤ workers_by schedule
