-- Inputs of `check`, parted.
use Rattle.std.proofs.Common.{◌≡◌, refl, codes, Some, None, [], ◌∷◌, ◌++◌}
use Rattle.sb_top.specs.Judgements.{report_split}

bundle_and_report : report_split (codes "{}\n%report\nsb 1\nend\n") ≡ Some (codes "{}\n", codes "sb 1\nend\n")
bundle_and_report = refl

last_without_line_feed : report_split (codes "{}\n%report\nsb 1\nend") ≡ Some (codes "{}\n", codes "sb 1\nend")
last_without_line_feed = refl

empty_report : report_split (codes "{}\n%report\n") ≡ Some (codes "{}\n", [])
empty_report = refl

divider_at_the_end : report_split (codes "{}\n%report") ≡ Some (codes "{}\n", [])
divider_at_the_end = refl

first_of_two : report_split (codes "%report\nsb 1\n%report\n") ≡ Some ([], codes "sb 1\n%report\n")
first_of_two = refl

carriage_return : report_split (codes "{}\n%report" ++ 13 ∷ codes "\nsb 1\n") ≡ None
carriage_return = refl

blank_before : report_split (codes "{}\n %report\nsb 1\n") ≡ None
blank_before = refl

within_a_line : report_split (codes "{} %report\nsb 1\n") ≡ None
within_a_line = refl

no_line : report_split [] ≡ None
no_line = refl
