-- The elements of two lists, each mapped, by their places in both together.
use Rattle.std.proofs.Common.{◌≡◌, ℕ, ◌+◌, ◌<◌, List, ◌++◌, length, map, sym, ap, ◌∙◌, arith}
use Rattle.std.specs.Prelude.{slice_index_or}
use Rattle.std.proofs.lemmas.List.{get_or-append-add, get_or-map, length-map}
use Rattle.std.proofs.Math.ListN.{get_or-append}

module _ {A B : Type 0} (f g : A → B) (xs ys : List A) (i : ℕ) (d : A) (e : B) where
  pub in_first : i < length xs → slice_index_or (map f xs ++ map g ys) i e ≡ f (slice_index_or xs i d)
  in_first lt = get_or-append (map f xs) (map g ys) e i (omega (arith, lt, length-map xs f)) ∙ get_or-map f xs i d e lt

  pub in_second : i < length ys → slice_index_or (map f xs ++ map g ys) (length xs + i) e ≡ g (slice_index_or ys i d)
  in_second lt = ap (λ n. slice_index_or (map f xs ++ map g ys) (n + i) e) (sym (length-map xs f)) ∙ get_or-append-add (map f xs) (map g ys) i e ∙ get_or-map g ys i d e lt
