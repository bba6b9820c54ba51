-- The arguments that may stand behind a command: what clap is told of them, and what its matches say. This project's own.
use Rattle.std.specs.Prelude.{ℕ, ◌&&◌, nat_le, Bool, true, false, List, codes, bytes_eq, Option, Some, None, option_and_then, if◌then◌else◌}
use Rattle.std.specs.Option.{option_map_or}
use Rattle.clap.specs.Words.{Row, Rule, first_of, new_rule}
use Rattle.clap.specs.declared.builder.action.ArgAction.TheVariants.{SetTrue}
use Rattle.sb_text.specs.Numerals.{digits_number}

-- An option may stand there once, as `--NAME VALUE` or `--NAME=VALUE`.
abbrev pub option_rule : List ℕ → Rule
option_rule name = record (new_rule name) { long = Some name }

-- A flag may stand there once, as `--NAME`, without a value.
abbrev pub flag_rule : List ℕ → Rule
flag_rule name = record (new_rule name) { long = Some name; action = Some SetTrue }

-- A word has to stand there, behind the command.
abbrev pub word_rule : List ℕ → Rule
word_rule name = record (new_rule name) { required = true }

-- What a flag is matched with is `true` where it is given, and else `false`.
abbrev pub is_flag_given : List ℕ → List Row → Bool
is_flag_given name rows = option_map_or (λ value. bytes_eq value (codes "true")) (first_of name rows) false

-- A number of a range is written in one to ten decimal digits, zeros in front of it included.
abbrev pub number_between : ℕ → ℕ → List ℕ → Option ℕ
number_between least most word =
    option_and_then (λ n. if nat_le least n && nat_le n most then Some n else None) (digits_number 10 10 word)

-- The number of an option, or what counts where the option isn't given; None where its value is no number of the range.
abbrev pub number_given : List ℕ → ℕ → ℕ → ℕ → List Row → Option ℕ
number_given name least most default rows = option_map_or (number_between least most) (first_of name rows) (Some default)

-- `[--order N]`: 0 to 4,294,967,295, and 0 where it isn't given
abbrev pub order_given : List Row → Option ℕ
order_given rows = number_given (codes "order") 0 4294967295 0 rows

-- `[--workers N]`: 1 to 16, and 4 where it isn't given
abbrev pub workers_given : List Row → Option ℕ
workers_given rows = number_given (codes "workers") 1 16 4 rows

-- `N`: 0 to 4,294,967,295
abbrev pub seed_given : List Row → Option ℕ
seed_given rows = option_and_then (number_between 0 4294967295) (first_of (codes "number") rows)

-- `[--history]`
abbrev pub is_history_given : List Row → Bool
is_history_given rows = is_flag_given (codes "history") rows
