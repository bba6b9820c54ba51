-- Outcomes that are collected one after another, and where their bodies stand among the bytes that were answered.
use Rattle.std.specs.Prelude.{ℕ, List, ◌≤◌, ◌-◌, take, drop}
use Rattle.sb_packet.specs.Answers.{Outcome}
use Rattle.sb_solo.specs.declared.outcomes.Row.{Row}

-- Outcomes that are collected one after another.

-- the outcomes so far, the bytes that were answered to the next transaction, and the room for more of both
pub record Collected : Type 0 where
  pub outcomes : List Outcome
  pub next : List ℕ
  pub spare_rows : ℕ
  pub spare_bytes : ℕ

-- the outcome of a row
abbrev pub outcome_in : List ℕ → Row → Outcome
outcome_in bytes row = record { state = row.state; body = take (row.end - row.start) (drop row.start bytes) }

-- a row's body ends at that place or before it
pub record EndsBy (place : ℕ) (row : Row) : Type 0 where
  pub starts : row.start ≤ row.end
  pub ends : row.end ≤ place
