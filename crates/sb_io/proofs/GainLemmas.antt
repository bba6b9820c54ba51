-- Parts of a text, one after another.
use Rattle.std.proofs.Common.{◌≡◌, List, ℕ, ◌++◌, ap, sym, ◌∙◌, refl, append_assoc, Some, None, [], ◌≤◌, ◌+◌, arith, length, take, subst, min}
use Rattle.std.specs.Prelude.{Option, option_map}
use Rattle.std.proofs.lemmas.List.{append-nil, take-append-le, take_min}
use Rattle.std.proofs.Math.Seq.{take-append-add}
use Rattle.sb_io.specs.Written.{Gains, GainsPart}

-- nothing came to what was held
pub gains_nothing : (a : Option (List ℕ)) → Gains a a []
gains_nothing None = refl
gains_nothing (Some held) = ap (λ (x : List ℕ). Some x) (sym (append-nil held))

-- what came first and what came then
pub gains_more : (a b c : Option (List ℕ)) (xs ys : List ℕ) → Gains a b xs → Gains b c ys → Gains a c (xs ++ ys)
gains_more None b c xs ys p q = q ∙ ap (option_map (λ (held : List ℕ). held ++ ys)) p
gains_more (Some held) b c xs ys p q = q ∙ ap (option_map (λ (h : List ℕ). h ++ ys)) p ∙ ap (λ (x : List ℕ). Some x) (append_assoc held xs ys)

-- a part of what comes first is a part of both
pub part_first : (a b : Option (List ℕ)) (xs ys : List ℕ) → GainsPart a b xs → GainsPart a b (xs ++ ys)
part_first a b xs ys h =
    let P : List ℕ → Type 0 = λ t. Gains a b t in
    let k = min h.kept (length xs) in
    let short : k ≤ length xs = omega arith in
    let same : take h.kept xs ≡ take k (xs ++ ys) = sym (rw take-append-le (take_min h.kept xs)) in
    record { kept = k; gained = subst P same h.gained }

-- what came first, and a part of what comes then
pub part_then : (a b c : Option (List ℕ)) (xs ys : List ℕ) → Gains a b xs → GainsPart b c ys → GainsPart a c (xs ++ ys)
part_then a b c xs ys g h =
    let P : List ℕ → Type 0 = λ t. Gains a c t in
    record { kept = length xs + h.kept; gained = subst P (sym (take-append-add xs ys h.kept)) (gains_more a b c xs (take h.kept ys) g h.gained) }
