-- What commands read: a whole short input, or nothing.
use Rattle.std.proofs.Common.{◌≡◌, ℕ, List, sym, true, false, true≢false}
use Rattle.std.specs.Prelude.{Option}
use Rattle.sb_words.specs.declared.command.Command.{Command}
use Rattle.sb_words.specs.declared.command.Command.TheVariants as commands
use Rattle.sb_top.specs.Inputs.{HasRead, IsShortInput, IsUnread, reads_input}

-- a command that reads has read a whole short input
pub read_whole : (command : Command) {before after : Option (List ℕ)} {bytes : List ℕ} → reads_input command ≡ true → IsShortInput before after bytes → HasRead command before after bytes
read_whole commands.Solo reads input = input
read_whole (commands.Replay order history) reads input = input
read_whole (commands.Run workers history) reads input = input
read_whole commands.Check reads input = input
read_whole (commands.Gen number) reads input = absurd (true≢false (sym reads))

-- a command that doesn't read has read nothing
pub read_nothing : (command : Command) {before after : Option (List ℕ)} {bytes : List ℕ} → reads_input command ≡ false → IsUnread before after bytes → HasRead command before after bytes
read_nothing commands.Solo reads nothing = absurd (true≢false reads)
read_nothing (commands.Replay order history) reads nothing = absurd (true≢false reads)
read_nothing (commands.Run workers history) reads nothing = absurd (true≢false reads)
read_nothing commands.Check reads nothing = absurd (true≢false reads)
read_nothing (commands.Gen number) reads nothing = nothing
