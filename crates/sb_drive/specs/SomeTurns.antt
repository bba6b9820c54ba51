-- What some turns of a round do to nodes: any number of turns of each node, or none.
use Rattle.std.specs.Prelude.{◌≡◌, ℕ, List, length, Bool, true, false}
use Rattle.sb_link.specs.declared.answers.Turn.{Turn}
use Rattle.sb_drive.specs.Rounds.{EachReaches, EachRests, HasMoved, SomeMoved}

-- What some turns of one node promise, or none; `moved` tells whether one of them moved.
pub record HasTakenTurns {N : Type 0} (reaches : ℕ → N → N → Type 0) (rests : N → N → Type 0) (turns : N → ℕ → Turn → N → Type 0) (number : ℕ)
    (before after : N) (moved : Bool) : Type 0 where
  pub reached : reaches number before after
  pub some_moved : moved ≡ true → HasMoved reaches turns number before after
  pub rested : moved ≡ false → rests before after

-- What some turns of nodes promise, one after another; `moved` tells whether one of them moved.
pub record HaveTakenTurns {N : Type 0} (reaches : ℕ → N → N → Type 0) (rests : N → N → Type 0) (turns : N → ℕ → Turn → N → Type 0) (number : ℕ)
    (before after : List N) (moved : Bool) : Type 0 where
  pub same : length after ≡ length before
  pub reached : EachReaches reaches turns number before after
  pub some_moved : moved ≡ true → SomeMoved reaches turns number before after
  pub rested : moved ≡ false → EachRests rests before after
