-- What a node found in its turn, and its answer.
use Rattle.std.specs.Prelude.{◌≡◌, Bool, true, false, [], ◌∷◌, Option, None, Some}
use Rattle.sb_link.specs.declared.answers.Turn.{Turn}
use Rattle.sb_link.specs.declared.answers.Turn.TheVariants.{Moved, Idle, Done}
use Rattle.sb_link.specs.declared.answers.Cause.{Cause}
use Rattle.sb_node.specs.Turns.{first_cause}
use Rattle.sb_node.specs.declared.findings.Findings.{Findings}

-- the cause that was found before, or else this one
abbrev pub or_else : Option Cause → Cause → Option Cause
or_else None cause = Some cause
or_else (Some first) cause = Some first

-- a turn's answer by what was found: moved, or else done, or else the first cause
abbrev pub IsTurnOf : Findings → Bool → Turn → Type 0
IsTurnOf found done Moved = found.moved ≡ true
IsTurnOf found done Done = (found.moved ≡ false) × (done ≡ true)
IsTurnOf found done (Idle cause) = (found.moved ≡ false) × (done ≡ false) × (first_cause (found.full ∷ found.waits ∷ found.empty ∷ []) ≡ Some cause)
