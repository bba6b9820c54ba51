-- What it means that a list begins another one, or that a list is another one with some items left out.
use Rattle.std.specs.Prelude.{◌≡◌, List, [], ◌∷◌, ◌++◌}
use Rattle.std.proofs.Common.{sym, ap, ◌∙◌, append_assoc, append-nil}

-- the first list begins the second
pub record IsPrefix {A : Type 0} (xs ys : List A) : Type 0 where
  pub rest : List A
  pub joined : xs ++ rest ≡ ys

-- the first list is the second with some items left out
pub data IsSubsequence {A : Type 0} : List A → List A → Type 0 where
  none : {ys : List A} → IsSubsequence [] ys
  kept : {x : A} {xs ys : List A} → IsSubsequence xs ys → IsSubsequence (x ∷ xs) (x ∷ ys)
  left_out : {y : A} {xs ys : List A} → IsSubsequence xs ys → IsSubsequence xs (y ∷ ys)

-- That lists begin one another goes on from list to list.

-- a list begins itself
pub begins_itself : {A : Type 0} (xs : List A) → IsPrefix xs xs
begins_itself xs = record { rest = []; joined = append-nil xs }

-- what begins a beginning of a list begins the list
pub begins_further : {A : Type 0} {xs ys zs : List A} → IsPrefix xs ys → IsPrefix ys zs → IsPrefix xs zs
begins_further {A} {xs} {ys} {zs} p q = record {
  rest = p.rest ++ q.rest;
  joined = sym (append_assoc xs p.rest q.rest) ∙ ap (λ list. list ++ q.rest) p.joined ∙ q.joined;
}
