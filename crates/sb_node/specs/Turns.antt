-- What a node answers to its turn, and the causes for which it did nothing, in their order.
use Rattle.std.specs.Prelude.{◌≡◌, ℕ, ◌<◌, Bool, true, false, List, [], ◌∷◌, ◌++◌, length, map, Option, None, Some, if◌then◌else◌}
use Rattle.sb_link.specs.declared.answers.Turn.{Turn}
use Rattle.sb_link.specs.declared.answers.Turn.TheVariants.{Moved, Idle, Done}
use Rattle.sb_link.specs.declared.answers.Cause.{Cause}
use Rattle.sb_link.specs.declared.answers.Cause.TheVariants as causes
use Rattle.sb_port.specs.Ports.{PortSide}
use Rattle.sb_node.specs.Sides.{RingSide, has_rest, has_ended}

-- the first cause of a list that has some empty places
abbrev pub first_cause : List (Option Cause) → Option Cause
first_cause [] = None
first_cause (None ∷ rest) = first_cause rest
first_cause (Some cause ∷ rest) = Some cause

-- a port that has something left to send answered that its ring is full
abbrev pub full_cause : PortSide → Option Cause
full_cause port = if has_rest port then Some (causes.Full port.plan.ring (length port.state.sent) port.taken) else None

-- a ring that hasn't given Close was empty
abbrev pub empty_cause : RingSide → Option Cause
empty_cause ring = if has_ended ring then None else Some (causes.Empty ring.plan.ring (length ring.received) ring.known)

-- The causes for which a node did nothing, the first of which it answers: its ports in their order, what it waits for itself, and its rings in their order.
abbrev pub idle_causes : List PortSide → List (Option Cause) → List RingSide → List (Option Cause)
idle_causes ports own rings = map full_cause ports ++ own ++ map empty_cause rings

-- What the answer to a turn says: by how much went through the node before it and after it, whether the node is done then, and the causes that hold then.
abbrev pub IsAnswered : ℕ → ℕ → Bool → List (Option Cause) → Turn → Type 0
IsAnswered before after done list Moved = before < after
IsAnswered before after done list Done = (after ≡ before) × (done ≡ true)
IsAnswered before after done list (Idle cause) = (after ≡ before) × (done ≡ false) × (first_cause list ≡ Some cause)
