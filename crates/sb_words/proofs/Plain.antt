-- Plain commands of clap, which have no global arguments.
use Rattle.std.proofs.Common.{◌≡◌, ◌∙◌, ap, ap₂, sym, refl, true, false, true≢false, Bool, not, ◌&&◌}
use Rattle.clap.specs.Words.{AddsSubcommand, App, app_of, with_subcommand}
use Rattle.clap.specs.declared.builder.command.Command.{Command}

-- the third of the tests that all hold of a plain command
third : (a b c d : Bool) → (a && (not b && (not c && d))) ≡ true → c ≡ false
third true false false d all = refl
third true false true d all = absurd (true≢false (sym all))
third true true c d all = absurd (true≢false (sym all))
third false b c d all = absurd (true≢false (sym all))

-- A plain command is added to others as it was told.
pub added : (others command all : Command) (a b : App) → AddsSubcommand others command all → app_of others ≡ a → app_of command ≡ b → b.top.is_plain ≡ true → app_of all ≡ with_subcommand a b.top
added others command all a b adds others_are command_is plain =
    adds.shape (third _ _ _ _ (ap (λ (app : App). app.top.is_plain) command_is ∙ plain)) ∙ ap₂ with_subcommand others_are (ap (λ (app : App). app.top) command_is)
