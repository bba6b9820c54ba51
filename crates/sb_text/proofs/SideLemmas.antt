-- The sides of hosts and devices, found among the rows of a bundle.
use Rattle.std.proofs.Common.{◌≡◌, ℕ, Bool, true, false, cond, List, [], ◌∷◌, ap, sym, ◌∙◌, refl, map}
use Rattle.std.specs.Prelude.{Option, Some, None}
use Rattle.std.specs.List.{find}
use Rattle.std.specs.Option.{option_map, option_map_or}

-- the first item that passes, of items that were made from others
find-map : {A B : Type 0} (f : A → B) (p : B → Bool) (xs : List A) → find p (map f xs) ≡ option_map f (find (λ x. p (f x)) xs)
find-map f p [] = refl
find-map f p (x ∷ xs) = by (p (f x)) (find-map f p xs)
  where
    by : (b : Bool) → find p (map f xs) ≡ option_map f (find (λ y. p (f y)) xs) → cond b (Some (f x)) (find p (map f xs)) ≡ option_map f (cond b (Some x) (find (λ y. p (f y)) xs))
    by true h = refl
    by false h = h

-- what is said of an item that was made from another
mapped : {A B : Type 0} (f : A → B) (g : B → ℕ) (o : Option A) → option_map_or g (option_map f o) 0 ≡ option_map_or (λ x. g (f x)) o 0
mapped f g None = refl
mapped f g (Some x) = refl

-- what is said of it, by the item that it was made from
pub found_by : {A B : Type 0} (f : A → B) (p : B → Bool) (g : B → ℕ) (xs : List A) (o : Option A) → o ≡ find (λ x. p (f x)) xs → option_map_or (λ x. g (f x)) o 0 ≡ option_map_or g (find p (map f xs)) 0
found_by {A = A} {B = B} f p g xs o is = ap (λ (q : Option A). option_map_or (λ x. g (f x)) q 0) is ∙ sym (mapped f g (find (λ x. p (f x)) xs)) ∙ ap (λ (q : Option B). option_map_or g q 0) (sym (find-map f p xs))
