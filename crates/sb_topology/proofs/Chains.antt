-- Steps of a chain that found no fault.
use Rattle.std.proofs.Common.{◌≡◌, ℕ, ◌+◌, Bool, true, false, List, [], ◌∷◌, refl, Option, Some, None, Result, Ok, Err}
use Rattle.std.specs.List.{list_all}
use Rattle.sb_text.specs.Sentences.{◌>>=◌, some_or, unless}
use Rattle.sb_fields.specs.Counts.{each_item, in_range}
use Rattle.sb_fields.specs.Paths.{item_of}
use Rattle.sb_fields.specs.declared.fault.LoadFault.{LoadFault}
use Rattle.sb_flow.specs.Accepted.{is_from_to}
use Rattle.sb_topology.specs.Tests.{unless_found}

-- both steps went well
pub bind_ok : {A B Fault : Type 0} (r : Result A Fault) (next : A → Result B Fault) (y : B) → (r >>= next) ≡ Ok y → (x : A) × (r ≡ Ok x) × (next x ≡ Ok y)
bind_ok (Ok x) next y e = (x, refl, e)
bind_ok (Err f) next y e = let no_way : ⊥ = cc in absurd no_way

-- a test passed
pub unless_true : {Fault : Type 0} (test : Bool) (fault : Fault) (u : Unit {0}) → unless test fault ≡ Ok u → test ≡ true
unless_true true fault u e = refl
unless_true false fault u e = let no_way : ⊥ = cc in absurd no_way

-- there was a value
pub some_or_Some : {A Fault : Type 0} (o : Option A) (fault : Fault) (x : A) → some_or o fault ≡ Ok x → o ≡ Some x
some_or_Some (Some y) fault x e = cc
some_or_Some None fault x e = let no_way : ⊥ = cc in absurd no_way

-- a test found nothing
pub unless_found_None : {A : Type 0} (fault : A → LoadFault) (o : Option A) (u : Unit {0}) → unless_found fault o ≡ Ok u → o ≡ None
unfolding unless_found
unless_found_None fault None u e = refl
unless_found_None fault (Some x) u e = let no_way : ⊥ = cc in absurd no_way

-- a number is in its range
pub in_range_true : (least most n : ℕ) (at name : List ℕ) (u : Unit {0}) → in_range least most n at name ≡ Ok u → is_from_to least most n ≡ true
unfolding in_range
in_range_true least most n at name u e = unless_true (is_from_to least most n) _ u e

-- each item passes
pub each_item_all : {A : Type 0} (test : List ℕ → A → Result (Unit {0}) LoadFault) (good : A → Bool) (at : List ℕ) (i : ℕ) (xs : List A) (u : Unit {0})
    → ((at : List ℕ) (x : A) (v : Unit {0}) → test at x ≡ Ok v → good x ≡ true) → each_item test at i xs ≡ Ok u → list_all good xs ≡ true
each_item_all test good at i [] u each e = refl
each_item_all test good at i (x ∷ xs) u each e =
    let parts = bind_ok (test (item_of at i) x) (λ done. each_item test at (i + 1) xs) u e in
    rw (each (item_of at i) x parts.0 parts.1, each_item_all test good at (i + 1) xs u each parts.2) refl
