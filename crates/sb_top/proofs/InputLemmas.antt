-- What is left of a source from which bytes were taken.
use Rattle.std.proofs.Common.{◌≡◌, ℕ, List, ◌++◌, ap, sym, ◌∙◌, drop, length, Some, None}
use Rattle.std.specs.Prelude.{Option, option_map}
use Rattle.std.proofs.Math.Seq.{drop-append_seam}

-- behind so many bytes that were taken stands what is left
pub left_behind : (bytes : List ℕ) (n : ℕ) (after before : Option (List ℕ)) → length bytes ≡ n → option_map (λ (rest : List ℕ). bytes ++ rest) after ≡ before → after ≡ option_map (drop n) before
left_behind bytes n None before long e = ap (option_map (drop n)) e
left_behind bytes n (Some rest) before long e =
    ap (λ (r : List ℕ). Some r) (sym (drop-append_seam bytes rest) ∙ ap (λ (k : ℕ). drop k (bytes ++ rest)) long) ∙ ap (option_map (drop n)) e
