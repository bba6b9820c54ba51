-- Lists that begin others, and lists that have some of others.
use Rattle.std.proofs.Common.{◌≡◌, ◌≤◌, Bool, List, [], ◌∷◌, ◌++◌, length, refl, sym, ap, ◌∙◌, arith, length-append}
use Rattle.std.specs.Prelude.{filter, All, AllPairs}
use Rattle.std.proofs.lemmas.List.{append-nil, get_or_append_left}
use Rattle.std.proofs.lemmas.List.Elements.{filter-append}
use Rattle.sb_packet.proofs.Lists.{All-left}
use Rattle.sb_link.specs.Prefixes.{IsPrefix, IsSubsequence, none, kept, left_out}
use Rattle.sb_node.proofs.Subsequences.{front_of}

pub same_prefix : {A : Type 0} {xs ys : List A} → xs ≡ ys → IsPrefix xs ys
same_prefix {A} {xs} {ys} e = record { rest = []; joined = append-nil xs ∙ e }

pub front_prefix : {A : Type 0} {xs ys : List A} (rest : List A) → ys ≡ xs ++ rest → IsPrefix xs ys
front_prefix rest e = record { rest = rest; joined = sym e }

pub IsPrefix-filter : {A : Type 0} (test : A → Bool) {xs ys : List A} → IsPrefix xs ys → IsPrefix (filter test xs) (filter test ys)
IsPrefix-filter {A} test {xs} {ys} p = record {
  rest = filter test p.rest;
  joined = sym (filter-append test xs p.rest) ∙ ap (λ (l : List A). filter test l) p.joined;
}

pub All-prefix : {A : Type 0} (P : A → Type 0) {xs ys : List A} → IsPrefix xs ys → All P ys → All P xs
All-prefix {A} P {xs} {ys} p h = All-left P xs p.rest (rw p.joined h)

AllPairs-front : {A : Type 0} (R : A → A → Type 0) (xs rest : List A) → AllPairs R (xs ++ rest) → AllPairs R xs
AllPairs-front R xs rest h i j d below inside =
    let earlier = get_or_append_left xs rest d i (omega arith) in
    let later = get_or_append_left xs rest d j inside in
    rw (← earlier, ← later) (h i j d below (omega (arith, length-append xs rest)))

pub AllPairs-prefix : {A : Type 0} (R : A → A → Type 0) {xs ys : List A} → IsPrefix xs ys → AllPairs R ys → AllPairs R xs
AllPairs-prefix {A} R {xs} {ys} p h = AllPairs-front R xs p.rest (rw p.joined h)

-- a list that begins another and is as long is the other
nothing : {A : Type 0} (xs : List A) → length xs ≤ 0 → xs ≡ []
nothing [] h = refl
nothing (x ∷ xs) h = absurd (omega arith)

pub whole_prefix : {A : Type 0} {xs ys : List A} → IsPrefix xs ys → length ys ≤ length xs → xs ≡ ys
whole_prefix {A} {xs} {ys} p h =
    let none : p.rest ≡ [] = nothing p.rest (omega (arith, length-append xs p.rest, ap length p.joined)) in
    sym (append-nil xs) ∙ ap (λ (l : List A). xs ++ l) (sym none) ∙ p.joined

pub length-subsequence : {A : Type 0} {xs ys : List A} → IsSubsequence xs ys → length xs ≤ length ys
length-subsequence none = omega arith
length-subsequence (kept p) = let h = length-subsequence p in omega arith
length-subsequence (left_out p) = let h = length-subsequence p in omega arith

pub prefix_subsequence : {A : Type 0} {xs ys : List A} → IsPrefix xs ys → IsSubsequence xs ys
prefix_subsequence {A} {xs} {ys} p = rw (← p.joined) (front_of xs p.rest)
