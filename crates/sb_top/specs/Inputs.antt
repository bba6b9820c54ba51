-- What was read of a source.
use Rattle.std.specs.Prelude.{ℕ, ◌≡◌, ◌≤◌, ◌^◌, Bool, true, false, List, [], length, Option, IfSome}
use Rattle.sb_words.specs.declared.command.Command.{Command}
use Rattle.sb_words.specs.declared.command.Command.TheVariants as commands

-- The bytes are all that the source had, and it has none left, where it tells.
pub record IsWholeInput (before after : Option (List ℕ)) (bytes : List ℕ) : Type 0 where
  pub all : IfSome before (λ left. left ≡ bytes)
  pub none_left : IfSome after (λ left. left ≡ [])

-- a command that reads its input
abbrev pub reads_input : Command → Bool
reads_input commands.Solo = true
reads_input (commands.Replay order history) = true
reads_input (commands.Run workers history) = true
reads_input commands.Check = true
reads_input (commands.Gen number) = false

-- the bytes are the whole input, of 2^26 bytes at most
pub record IsShortInput (before after : Option (List ℕ)) (bytes : List ℕ) : Type 0 where
  pub whole : IsWholeInput before after bytes
  pub short : length bytes ≤ 2 ^ 26

-- nothing was read, and there are no bytes
pub record IsUnread (before after : Option (List ℕ)) (bytes : List ℕ) : Type 0 where
  pub unread : after ≡ before
  pub none : bytes ≡ []

-- What a command reads is its whole input, or nothing.
abbrev pub HasRead : Command → Option (List ℕ) → Option (List ℕ) → List ℕ → Type 0
HasRead commands.Solo before after bytes = IsShortInput before after bytes
HasRead (commands.Replay order history) before after bytes = IsShortInput before after bytes
HasRead (commands.Run workers history) before after bytes = IsShortInput before after bytes
HasRead commands.Check before after bytes = IsShortInput before after bytes
HasRead (commands.Gen number) before after bytes = IsUnread before after bytes
