-- What the words of the command line ask for. They don't hold the program's name. This project's own.
use Rattle.std.specs.Prelude.{ℕ, ◌≤◌, ◌==◌, Bool, true, List, [], ◌∷◌, fold, find, length, codes, bytes_eq, Option, Some, None, option_map, option_and_then, if◌then◌else◌}
use Rattle.clap.specs.Words.{App, Row, Rule, fault_of, new_app, subcommand_of, with_rule, with_subcommand}
use Rattle.sb_words.specs.Arguments.{flag_rule, is_history_given, option_rule, order_given, seed_given, word_rule, workers_given}
use Rattle.sb_words.specs.declared.command.Command.{Command}
use Rattle.sb_words.specs.declared.command.Command.TheVariants.{Check, Gen, Replay, Run, Solo}

-- A command: its name, the arguments that may stand behind it, and what it asks for by their matches; None where a number
-- isn't in its range.
pub record CommandForm : Type 0 where
  pub name : List ℕ
  pub rules : List Rule
  pub command : List Row → Option Command

-- `solo`
abbrev pub solo_form : CommandForm
solo_form = record { name = codes "solo"; rules = []; command = λ rows. Some Solo }

-- `replay [--order N] [--history]`
abbrev pub replay_form : CommandForm
replay_form = record {
  name = codes "replay";
  rules = option_rule (codes "order") ∷ flag_rule (codes "history") ∷ [];
  command = λ rows. option_map (λ order. Replay order (is_history_given rows)) (order_given rows);
}

-- `run [--workers N] [--history]`
abbrev pub run_form : CommandForm
run_form = record {
  name = codes "run";
  rules = option_rule (codes "workers") ∷ flag_rule (codes "history") ∷ [];
  command = λ rows. option_map (λ workers. Run workers (is_history_given rows)) (workers_given rows);
}

-- `check`
abbrev pub check_form : CommandForm
check_form = record { name = codes "check"; rules = []; command = λ rows. Some Check }

-- `gen N`
abbrev pub gen_form : CommandForm
gen_form = record { name = codes "gen"; rules = word_rule (codes "number") ∷ []; command = λ rows. option_map Gen (seed_given rows) }

-- all commands
abbrev pub command_forms : List CommandForm
command_forms = solo_form ∷ replay_form ∷ run_form ∷ check_form ∷ gen_form ∷ []

-- a command, as clap is told of it
abbrev pub form_app : CommandForm → App
form_app form = fold with_rule (new_app form.name) form.rules

-- The words are the arguments alone, one has to name a command, and there is no help and no version.
abbrev pub words_alone : App → App
words_alone app = record app {
  top = record app.top {
    no_binary_name = true;
    disable_help_flag = true;
    disable_help_subcommand = true;
    disable_version_flag = true;
    subcommand_required = true;
  };
}

-- the program with all its commands, as clap is told of it
abbrev pub program_app : App
program_app = fold (λ app form. with_subcommand app (form_app form).top) (words_alone (new_app (codes "sb"))) command_forms

-- clap takes the words: there is no kind of fault that it could answer
abbrev pub clap_takes : List (List ℕ) → Bool
clap_takes words = length (fault_of program_app words) == 0

-- the command of that name
abbrev pub form_named : List ℕ → Option CommandForm
form_named name = find (λ form. bytes_eq name form.name) command_forms

-- what is asked for by the name and the matches that clap found
abbrev pub named_command : Option (List ℕ × List Row) → Option Command
named_command found = option_and_then (λ entered. option_and_then (λ form. form.command entered.1) (form_named entered.0)) found

-- What the words ask for; None where clap refuses them, or a number isn't in its range.
abbrev pub command_in : List (List ℕ) → Option Command
command_in words = if clap_takes words then named_command (subcommand_of program_app words) else None

-- The numbers of a command are in their ranges.
abbrev pub IsCommandInRange : Command → Type 0
IsCommandInRange Solo = Unit {0}
IsCommandInRange (Replay order history) = Unit {0}
IsCommandInRange (Run workers history) = (1 ≤ workers) × (workers ≤ 16)
IsCommandInRange Check = Unit {0}
IsCommandInRange (Gen number) = Unit {0}
