-- Of the causes of a list and one more, the one at the lowest ring.
use Rattle.std.proofs.Common.{◌≡◌, ◌<◌, ◌+◌, ◌||◌, ℕ, Bool, true, false, cond, nat_le, length, map, set, take, List, [], ◌∷◌, ◌++◌, Option, Some, None, refl, sym, ap, ◌∙◌, arith}
use Rattle.std.proofs.lemmas.Bool.Decides.{nat_tests}
use Rattle.std.proofs.lemmas.Grind.{take-set_at}
use Rattle.std.proofs.lemmas.List.{map_push}
use Rattle.sb_link.specs.declared.answers.Cause.{Cause}
use Rattle.sb_node.specs.declared.findings.Findings.{Findings}
use Rattle.sb_router.specs.Popping.{found_in_both, lower, lowest, nothing_found, ring_of_cause}

-- no cause is lower than one
pub lower_none : (a : Option Cause) → lower a None ≡ a
lower_none None = refl
lower_none (Some a) = refl

-- of three causes
lower_three : (a b c : Cause) (x y z : Bool) → nat_le (ring_of_cause a) (ring_of_cause b) ≡ x → nat_le (ring_of_cause b) (ring_of_cause c) ≡ y → nat_le (ring_of_cause a) (ring_of_cause c) ≡ z
    → lower (cond x (Some a) (Some b)) (Some c) ≡ lower (Some a) (cond y (Some b) (Some c))
lower_three a b c true true true p q r = ap (λ (t : Bool). cond t (Some a) (Some c)) r ∙ sym (ap (λ (t : Bool). cond t (Some a) (Some b)) p)
lower_three a b c true true false p q r = let no_way : ⊥ = grind (arith, nat_tests) in absurd no_way
lower_three a b c true false z p q r = refl
lower_three a b c false true z p q r = ap (λ (t : Bool). cond t (Some b) (Some c)) q ∙ sym (ap (λ (t : Bool). cond t (Some a) (Some b)) p)
lower_three a b c false false true p q r = let no_way : ⊥ = grind (arith, nat_tests) in absurd no_way
lower_three a b c false false false p q r = ap (λ (t : Bool). cond t (Some b) (Some c)) q ∙ sym (ap (λ (t : Bool). cond t (Some a) (Some c)) r)

pub lower_then : (a b c : Option Cause) → lower (lower a b) c ≡ lower a (lower b c)
lower_then None b c = refl
lower_then (Some a) None c = refl
lower_then (Some a) (Some b) None = lower_none (lower (Some a) (Some b))
lower_then (Some a) (Some b) (Some c) = lower_three a b c (nat_le (ring_of_cause a) (ring_of_cause b)) (nat_le (ring_of_cause b) (ring_of_cause c)) (nat_le (ring_of_cause a) (ring_of_cause c)) refl refl refl

-- one more cause behind a list
pub lowest_more : (list : List (Option Cause)) (cause : Option Cause) → lowest (list ++ cause ∷ []) ≡ lower (lowest list) cause
lowest_more [] cause = lower_none cause
lowest_more (first ∷ rest) cause = ap (lower first) (lowest_more rest cause) ∙ sym (lower_then first (lowest rest) cause)

-- no cause in a list of nothing
pub lowest_append : (xs ys : List (Option Cause)) → lowest (xs ++ ys) ≡ lower (lowest xs) (lowest ys)
lowest_append [] ys = refl
lowest_append (first ∷ rest) ys = ap (lower first) (lowest_append rest ys) ∙ sym (lower_then first (lowest rest) (lowest ys))

-- the lowest cause of a list in which one more place was set
pub lowest_next : {X : Type 0} (cause : X → Option Cause) (xs : List X) (i : ℕ) (y : X) (found one : Option Cause) → i < length xs → found ≡ lowest (map cause (take i xs)) → one ≡ cause y
    → lower found one ≡ lowest (map cause (take (i + 1) (set xs i y)))
lowest_next {X} cause xs i y found one lt before here =
    ap (λ c. lower c one) before ∙ ap (lower (lowest (map cause (take i xs)))) here
    ∙ sym (ap (λ (l : List X). lowest (map cause l)) (take-set_at xs i (i + 1) y refl lt) ∙ ap lowest (map_push cause (take i xs) y) ∙ lowest_more (map cause (take i xs)) (cause y))

-- neither of two turns found a cause of a kind
pub neither_found : {a b : Option Cause} → a ≡ None → b ≡ None → lower a b ≡ None
neither_found {a} {b} p q = ap (λ (x : Option Cause). lower x b) p ∙ q

-- what was found in one turn after another
or_then : (a b c : Bool) → ((a || b) || c) ≡ (a || (b || c))
or_then true b c = refl
or_then false b c = refl

or_nothing : (a : Bool) → (a || false) ≡ a
or_nothing true = refl
or_nothing false = refl

pub same_found : {m n : Bool} {a b c x y z : Option Cause} → m ≡ n → a ≡ x → b ≡ y → c ≡ z → (let f : Findings = record { moved = m; full = a; waits = b; empty = c } in f) ≡ record { moved = n; full = x; waits = y; empty = z }
same_found p q r s = cc

pub found_nothing_more : (found : Findings) → found_in_both found nothing_found ≡ found
found_nothing_more found = same_found (or_nothing found.moved) (lower_none found.full) (lower_none found.waits) (lower_none found.empty)

pub found_then_more : (a b c : Findings) → found_in_both (found_in_both a b) c ≡ found_in_both a (found_in_both b c)
found_then_more a b c = same_found (or_then a.moved b.moved c.moved) (lower_then a.full b.full c.full) (lower_then a.waits b.waits c.waits) (lower_then a.empty b.empty c.empty)
