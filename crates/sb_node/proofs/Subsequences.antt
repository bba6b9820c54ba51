-- Lists that are others with some items left out, as these grow.
use Rattle.std.proofs.Common.{List, [], ◌∷◌, ◌++◌}
use Rattle.sb_link.specs.Prefixes.{IsSubsequence, none, kept, left_out}

pub same_subsequence : {A : Type 0} (xs : List A) → IsSubsequence xs xs
same_subsequence [] = none
same_subsequence (x ∷ xs) = kept (same_subsequence xs)

-- all that comes in front is left out
pub front_left_out : {A : Type 0} {xs zs : List A} (ys : List A) → IsSubsequence xs zs → IsSubsequence xs (ys ++ zs)
front_left_out [] s = s
front_left_out (y ∷ ys) s = left_out (front_left_out ys s)

-- more comes behind, and is left out
pub more_left_out : {A : Type 0} {xs ys : List A} (zs : List A) → IsSubsequence xs ys → IsSubsequence xs (ys ++ zs)
more_left_out zs none = none
more_left_out zs (kept s) = kept (more_left_out zs s)
more_left_out zs (left_out s) = left_out (more_left_out zs s)

-- the same comes behind both
pub more_kept : {A : Type 0} {xs ys : List A} (zs : List A) → IsSubsequence xs ys → IsSubsequence (xs ++ zs) (ys ++ zs)
more_kept zs (none {ys}) = front_left_out ys (same_subsequence zs)
more_kept zs (kept s) = kept (more_kept zs s)
more_kept zs (left_out s) = left_out (more_kept zs s)

-- the front of a list is the list without its end
pub front_of : {A : Type 0} (xs zs : List A) → IsSubsequence xs (xs ++ zs)
front_of xs zs = more_left_out zs (same_subsequence xs)

pub subsequence_then : {A : Type 0} {xs ys zs : List A} → IsSubsequence xs ys → IsSubsequence ys zs → IsSubsequence xs zs
subsequence_then p (left_out q) = left_out (subsequence_then p q)
subsequence_then none q = none
subsequence_then (kept p) (kept q) = kept (subsequence_then p q)
subsequence_then (left_out p) (kept q) = left_out (subsequence_then p q)
