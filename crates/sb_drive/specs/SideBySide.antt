-- What a long round does to groups of nodes, which turn side by side.
use Rattle.std.specs.Prelude.{ℕ, ◌<◌, Bool, List, length, slice_index_or, All}
use Rattle.std.specs.List.{list_any}
use Rattle.sb_link.specs.declared.answers.Turn.{Turn}
use Rattle.sb_drive.specs.Rounds.{IsRound, SomeMoved, EachEndsWith}
use Rattle.sb_drive.specs.declared.group.Group.{Group}

-- all nodes of a group are whole
abbrev pub IsWholeGroup : {N : Type 0} → (N → Type 0) → Group N → Type 0
IsWholeGroup whole group = All whole group.nodes.items

-- a node of some group moved in its last round
abbrev pub any_moved : {N : Type 0} → List (Group N) → Bool
any_moved groups = list_any (λ group. group.moved) groups

module _ {N : Type 0} (reaches : ℕ → N → N → Type 0) (rests : N → N → Type 0) (turns : N → ℕ → Turn → N → Type 0) (number : ℕ) where
  -- a round was made with the nodes of a group
  abbrev pub IsGroupRound : Group N → Group N → Type 0
  IsGroupRound before after = IsRound reaches rests turns number before.nodes.items after.nodes.items after.last.items after.moved

  -- whatever round led to the earlier group, one with the same beginning led to the later one
  abbrev pub GoesOn : Group N → Group N → Type 0
  GoesOn before after = (start : Group N) → IsGroupRound start before → IsGroupRound start after

  -- a round was made with the nodes of each group
  abbrev pub EachGroupRound : List (Group N) → List (Group N) → Type 0
  EachGroupRound before after = (g : ℕ) (none : Group N) → g < length before → IsGroupRound (slice_index_or before g none) (slice_index_or after g none)

  -- the same of each group
  abbrev pub EachGoesOn : List (Group N) → List (Group N) → Type 0
  EachGoesOn before after = (g : ℕ) (none : Group N) → g < length before → GoesOn (slice_index_or before g none) (slice_index_or after g none)

  -- the group at a place is whole, and goes on with the round of the earlier one there
  pub record GoesOnAt (whole : N → Type 0) (before : List (Group N)) (place : ℕ) (group : Group N) : Type 0 where
    pub whole_nodes : IsWholeGroup whole group
    pub goes_on : (none : Group N) → place < length before → GoesOn (slice_index_or before place none) group

module _ {N : Type 0} (reaches : ℕ → N → N → Type 0) (turns : N → ℕ → Turn → N → Type 0) (number : ℕ) where
  -- a node of a group moved
  abbrev pub SomeGroupMoved : List (Group N) → List (Group N) → Type 0
  SomeGroupMoved before after = (g : ℕ) × (g < length before)
      × ((none : Group N) → SomeMoved reaches turns number (slice_index_or before g none).nodes.items (slice_index_or after g none).nodes.items)

module _ {N : Type 0} (rests : N → N → Type 0) (turns : N → ℕ → Turn → N → Type 0) (number : ℕ) where
  -- nothing moved in any group before each node's last turn, nor in it
  abbrev pub EachGroupRested : List (Group N) → List (Group N) → Type 0
  EachGroupRested before after = (g : ℕ) (none : Group N) → g < length before
      → EachEndsWith turns number rests (slice_index_or before g none).nodes.items (slice_index_or after g none).last.items (slice_index_or after g none).nodes.items
