-- The widths that links may have are small numbers.
use Rattle.std.proofs.Common.{◌≡◌, ◌<◌, ◌||◌, ℕ, Bool, true, false, refl, ◌∙◌, arith}
use Rattle.std.specs.Prelude.{◌==◌}
use Rattle.std.proofs.lemmas.Bool.{eqb-true}
use Rattle.sb_flow.specs.Ends.{is_link_width}

pub widths_are_small : (width : ℕ) → is_link_width width ≡ true → width < 256
widths_are_small width h = by (width == 8) (width == 16) (width == 32) refl refl refl h
  where
    by : (eight sixteen thirty_two : Bool) → (width == 8) ≡ eight → (width == 16) ≡ sixteen → (width == 32) ≡ thirty_two → (eight || sixteen || thirty_two) ≡ true → width < 256
    by true b c e f g h = omega (arith, eqb-true width 8 e)
    by false true c e f g h = omega (arith, eqb-true width 16 f)
    by false false c e f g h = omega (arith, eqb-true width 32 (g ∙ h))
