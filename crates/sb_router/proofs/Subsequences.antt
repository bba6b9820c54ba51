-- Lists that are others with some items left out, as these grow.
use Rattle.std.proofs.Common.{◌≡◌, List, [], ◌++◌, sym, ap, ◌∙◌, subst}
use Rattle.std.proofs.lemmas.List.{append-nil}
use Rattle.sb_link.specs.Prefixes.{IsSubsequence}
use Rattle.sb_node.proofs.Subsequences.{front_of, more_kept, subsequence_then}

-- the end may be left out
pub without_end : {A : Type 0} (xs zs : List A) {ys : List A} → IsSubsequence (xs ++ zs) ys → IsSubsequence xs ys
without_end xs zs p = subsequence_then (front_of xs zs) p

-- what is held was offered, or more came and is held
pub more_came : {A : Type 0} (offered held came : List A) (more : List A) {held_then came_then : List A} → held ≡ [] → held_then ≡ more → came_then ≡ came ++ more
    → IsSubsequence (offered ++ held) came → IsSubsequence (offered ++ held_then) came_then
more_came {A} offered held came more {held_then} {came_then} free holds comes p =
    let old : IsSubsequence offered came = subst (λ (l : List A). IsSubsequence l came) (ap (λ (l : List A). offered ++ l) free ∙ append-nil offered) p in
    let new : IsSubsequence (offered ++ more) (came ++ more) = more_kept more old in
    subst (λ (l : List A). IsSubsequence (offered ++ l) came_then) (sym holds) (subst (λ (l : List A). IsSubsequence (offered ++ more) l) (sym comes) new)

-- the same where nothing is lost
pub all_came : {A : Type 0} (offered held came : List A) (more : List A) {held_then came_then : List A} → held ≡ [] → held_then ≡ more → came_then ≡ came ++ more
    → came ≡ offered ++ held → came_then ≡ offered ++ held_then
all_came {A} offered held came more free holds comes p =
    let old : came ≡ offered = p ∙ ap (λ (l : List A). offered ++ l) free ∙ append-nil offered in
    comes ∙ ap (λ (l : List A). l ++ more) old ∙ ap (λ (l : List A). offered ++ l) (sym holds)
