-- The bytes so far are digits, and the value is theirs.
use Rattle.std.proofs.Common.{◌≡◌, ◌<◌, ◌^◌, true, take}
use Rattle.std.specs.List.{list_all}
use Rattle.sb_text.specs.Numerals.{is_digit_of, digits_value}
use Rattle.sb_text.proofs.numerals.value.Given as goal

abbrev pub invariant-loop-byte : goal.invariant-loop-byte
invariant-loop-byte l = record {
  digits : list_all (is_digit_of l.base) (take l.byte-index l.digits) ≡ true;
  value : l.value ≡ digits_value l.base (take l.byte-index l.digits);
  fits : l.value < 2 ^ 64;
}
