-- What some words ask for, computed.
use Rattle.std.proofs.Common.{◌≡◌, refl, codes, Some, None, true, false, [], ◌∷◌}
use Rattle.clap.proofs.OnLiterals.{clap_on_literals}
use Rattle.sb_words.specs.declared.command.Command.TheVariants.{Check, Gen, Replay, Run, Solo}
use Rattle.sb_words.specs.Commands.{command_in}

-- ---- what is taken

solo : command_in (codes "solo" ∷ []) ≡ Some Solo
unfolding clap_on_literals
solo = refl

solo_before_dashes : command_in (codes "solo" ∷ codes "--" ∷ []) ≡ Some Solo
unfolding clap_on_literals
solo_before_dashes = refl

replay : command_in (codes "replay" ∷ []) ≡ Some (Replay 0 false)
unfolding clap_on_literals
replay = refl

dashes_behind : command_in (codes "replay" ∷ codes "--" ∷ []) ≡ Some (Replay 0 false)
unfolding clap_on_literals
dashes_behind = refl

order_apart : command_in (codes "replay" ∷ codes "--order" ∷ codes "0042" ∷ []) ≡ Some (Replay 42 false)
unfolding clap_on_literals
order_apart = refl

order_joined : command_in (codes "replay" ∷ codes "--order=4294967295" ∷ []) ≡ Some (Replay 4294967295 false)
unfolding clap_on_literals
order_joined = refl

ten_digits : command_in (codes "replay" ∷ codes "--order" ∷ codes "0000000007" ∷ []) ≡ Some (Replay 7 false)
unfolding clap_on_literals
ten_digits = refl

history : command_in (codes "replay" ∷ codes "--history" ∷ []) ≡ Some (Replay 0 true)
unfolding clap_on_literals
history = refl

history_first : command_in (codes "replay" ∷ codes "--history" ∷ codes "--order" ∷ codes "5" ∷ []) ≡ Some (Replay 5 true)
unfolding clap_on_literals
history_first = refl

order_first : command_in (codes "replay" ∷ codes "--order" ∷ codes "5" ∷ codes "--history" ∷ []) ≡ Some (Replay 5 true)
unfolding clap_on_literals
order_first = refl

dashes_last : command_in (codes "replay" ∷ codes "--order=5" ∷ codes "--" ∷ []) ≡ Some (Replay 5 false)
unfolding clap_on_literals
dashes_last = refl

-- ---- words that are no number of the range

too_great : command_in (codes "replay" ∷ codes "--order" ∷ codes "4294967296" ∷ []) ≡ None
unfolding clap_on_literals
too_great = refl

greatest_of_ten_digits : command_in (codes "replay" ∷ codes "--order" ∷ codes "9999999999" ∷ []) ≡ None
unfolding clap_on_literals
greatest_of_ten_digits = refl

eleven_digits : command_in (codes "replay" ∷ codes "--order" ∷ codes "00000000007" ∷ []) ≡ None
unfolding clap_on_literals
eleven_digits = refl

empty_value : command_in (codes "replay" ∷ codes "--order" ∷ [] ∷ []) ≡ None
unfolding clap_on_literals
empty_value = refl

empty_joined_value : command_in (codes "replay" ∷ codes "--order=" ∷ []) ≡ None
unfolding clap_on_literals
empty_joined_value = refl

negative : command_in (codes "replay" ∷ codes "--order" ∷ codes "-5" ∷ []) ≡ None
unfolding clap_on_literals
negative = refl

negative_joined : command_in (codes "replay" ∷ codes "--order=-5" ∷ []) ≡ None
unfolding clap_on_literals
negative_joined = refl

signed : command_in (codes "replay" ∷ codes "--order" ∷ codes "+5" ∷ []) ≡ None
unfolding clap_on_literals
signed = refl

hexadecimal : command_in (codes "replay" ∷ codes "--order" ∷ codes "0x5" ∷ []) ≡ None
unfolding clap_on_literals
hexadecimal = refl

blank : command_in (codes "replay" ∷ codes "--order" ∷ codes " 5" ∷ []) ≡ None
unfolding clap_on_literals
blank = refl

run_with_four : command_in (codes "run" ∷ []) ≡ Some (Run 4 false)
unfolding clap_on_literals
run_with_four = refl

run_with_sixteen : command_in (codes "run" ∷ codes "--history" ∷ codes "--workers" ∷ codes "16" ∷ []) ≡ Some (Run 16 true)
unfolding clap_on_literals
run_with_sixteen = refl

run_with_seventeen : command_in (codes "run" ∷ codes "--workers" ∷ codes "17" ∷ []) ≡ None
unfolding clap_on_literals
run_with_seventeen = refl

run_with_none : command_in (codes "run" ∷ codes "--workers=0" ∷ []) ≡ None
unfolding clap_on_literals
run_with_none = refl

check : command_in (codes "check" ∷ []) ≡ Some Check
unfolding clap_on_literals
check = refl

check_before_dashes : command_in (codes "check" ∷ codes "--" ∷ []) ≡ Some Check
unfolding clap_on_literals
check_before_dashes = refl

gen_with_zeros : command_in (codes "gen" ∷ codes "0000000007" ∷ []) ≡ Some (Gen 7)
unfolding clap_on_literals
gen_with_zeros = refl

gen_of_the_greatest : command_in (codes "gen" ∷ codes "4294967295" ∷ []) ≡ Some (Gen 4294967295)
unfolding clap_on_literals
gen_of_the_greatest = refl

gen_of_more : command_in (codes "gen" ∷ codes "4294967296" ∷ []) ≡ None
unfolding clap_on_literals
gen_of_more = refl

gen_alone : command_in (codes "gen" ∷ []) ≡ None
unfolding clap_on_literals
gen_alone = refl

gen_of_two : command_in (codes "gen" ∷ codes "5" ∷ codes "6" ∷ []) ≡ None
unfolding clap_on_literals
gen_of_two = refl

gen_of_no_number : command_in (codes "gen" ∷ codes "-5" ∷ []) ≡ None
unfolding clap_on_literals
gen_of_no_number = refl

dashes_before_gen : command_in (codes "--" ∷ codes "gen" ∷ codes "5" ∷ []) ≡ None
unfolding clap_on_literals
dashes_before_gen = refl

-- ---- words that clap refuses

no_words : command_in [] ≡ None
unfolding clap_on_literals
no_words = refl

empty_word : command_in ([] ∷ []) ≡ None
unfolding clap_on_literals
empty_word = refl

another_command : command_in (codes "walk" ∷ []) ≡ None
unfolding clap_on_literals
another_command = refl

run_in_order : command_in (codes "run" ∷ codes "--order" ∷ codes "1" ∷ []) ≡ None
unfolding clap_on_literals
run_in_order = refl

part_of_a_name : command_in (codes "rep" ∷ []) ≡ None
unfolding clap_on_literals
part_of_a_name = refl

upper_case : command_in (codes "SOLO" ∷ []) ≡ None
unfolding clap_on_literals
upper_case = refl

help : command_in (codes "help" ∷ []) ≡ None
unfolding clap_on_literals
help = refl

help_flag : command_in (codes "--help" ∷ []) ≡ None
unfolding clap_on_literals
help_flag = refl

short_help_flag : command_in (codes "-h" ∷ []) ≡ None
unfolding clap_on_literals
short_help_flag = refl

help_behind : command_in (codes "replay" ∷ codes "--help" ∷ []) ≡ None
unfolding clap_on_literals
help_behind = refl

version_flag : command_in (codes "--version" ∷ []) ≡ None
unfolding clap_on_literals
version_flag = refl

dashes_before : command_in (codes "--" ∷ codes "solo" ∷ []) ≡ None
unfolding clap_on_literals
dashes_before = refl

dashes_alone : command_in (codes "--" ∷ []) ≡ None
unfolding clap_on_literals
dashes_alone = refl

argument_before : command_in (codes "--history" ∷ codes "replay" ∷ []) ≡ None
unfolding clap_on_literals
argument_before = refl

another_option : command_in (codes "replay" ∷ codes "--workers" ∷ codes "2" ∷ []) ≡ None
unfolding clap_on_literals
another_option = refl

part_of_an_option : command_in (codes "replay" ∷ codes "--ord" ∷ codes "5" ∷ []) ≡ None
unfolding clap_on_literals
part_of_an_option = refl

no_value : command_in (codes "replay" ∷ codes "--order" ∷ []) ≡ None
unfolding clap_on_literals
no_value = refl

order_twice : command_in (codes "replay" ∷ codes "--order" ∷ codes "5" ∷ codes "--order" ∷ codes "5" ∷ []) ≡ None
unfolding clap_on_literals
order_twice = refl

history_twice : command_in (codes "replay" ∷ codes "--history" ∷ codes "--history" ∷ []) ≡ None
unfolding clap_on_literals
history_twice = refl

history_with_a_value : command_in (codes "replay" ∷ codes "--history=true" ∷ []) ≡ None
unfolding clap_on_literals
history_with_a_value = refl

history_of_solo : command_in (codes "solo" ∷ codes "--history" ∷ []) ≡ None
unfolding clap_on_literals
history_of_solo = refl

history_of_check : command_in (codes "check" ∷ codes "--history" ∷ []) ≡ None
unfolding clap_on_literals
history_of_check = refl

word_behind_check : command_in (codes "check" ∷ codes "report.txt" ∷ []) ≡ None
unfolding clap_on_literals
word_behind_check = refl

word_behind : command_in (codes "replay" ∷ codes "5" ∷ []) ≡ None
unfolding clap_on_literals
word_behind = refl

word_behind_dashes : command_in (codes "replay" ∷ codes "--" ∷ codes "--history" ∷ []) ≡ None
unfolding clap_on_literals
word_behind_dashes = refl

two_commands : command_in (codes "solo" ∷ codes "replay" ∷ []) ≡ None
unfolding clap_on_literals
two_commands = refl
