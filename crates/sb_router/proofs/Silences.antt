-- All rings are silent where each one is found so.
use Rattle.std.proofs.Common.{◌≡◌, Bool, true, false, ◌&&◌, is_none, List, [], ◌∷◌, All, Option, Some, None, refl}
use Rattle.std.specs.List.{AllByRecursion, list_all}
use Rattle.std.proofs.lemmas.List.Elements.{All-from_recursion, recursion_from_All}
use Rattle.std.proofs.lemmas.Bool.{and_parts}
use Rattle.sb_router.specs.Lanes.{InletState}
use Rattle.sb_router.specs.Steps.{IsSilent}

abbrev pub is_silent : InletState → Bool
is_silent x = x.ended && is_none x.held

silent_parts : (x : InletState) (ended free : Bool) → x.ended ≡ ended → is_none x.held ≡ free → (ended && free) ≡ true → IsSilent x
silent_parts x true true p q e = record { ended = p; free = none_held x.held q }
  where
    none_held : {A : Type 0} (held : Option A) → is_none held ≡ true → held ≡ None
    none_held None e = refl
    none_held (Some p) e = let no_way : ⊥ = cc in absurd no_way
silent_parts x true false p q e = let no_way : ⊥ = cc in absurd no_way
silent_parts x false free p q e = let no_way : ⊥ = cc in absurd no_way

silent_recursion : (xs : List InletState) → list_all is_silent xs ≡ true → AllByRecursion IsSilent xs
silent_recursion [] e = tt
silent_recursion (x ∷ xs) e = let two = and_parts (is_silent x) (list_all is_silent xs) e in (silent_parts x x.ended (is_none x.held) refl refl two.0, silent_recursion xs two.1)

pub found_silent : (xs : List InletState) → list_all is_silent xs ≡ true → All IsSilent xs
found_silent xs e = All-from_recursion IsSilent xs (silent_recursion xs e)

recursion_silent : (xs : List InletState) → AllByRecursion IsSilent xs → list_all is_silent xs ≡ true
recursion_silent [] h = refl
recursion_silent (x ∷ xs) h = let at = h.0 in let rest = recursion_silent xs h.1 in let ended = at.ended in let free = at.free in rw (ended, free, rest) refl

pub silent_found : (xs : List InletState) → All IsSilent xs → list_all is_silent xs ≡ true
silent_found xs all = recursion_silent xs (recursion_from_All IsSilent xs all)
