-- Tables over the numbers from one on, and the marks of a way's links.
use Rattle.std.proofs.Common.{◌≡◌, ◌≢◌, ◌≤◌, ◌<◌, ℕ, zero, suc, ◌+◌, Bool, true, false, ◌||◌, List, [], ◌∷◌, ◌++◌, length, take, get_or, set, replicate, refl, sym, ◌∙◌, arith, eq-eqb, ne_eqb}
use Rattle.std.specs.Prelude.{map, ◌==◌}
use Rattle.std.specs.List.{list_any, range_with_len}
use Rattle.std.proofs.lemmas.List.{take_all, take_more}
use Rattle.std.proofs.lemmas.List.Folds.{list_any-append}
use Rattle.sb_packet.specs.Networks.{Network}
use Rattle.sb_flow.specs.Tables.{leg_of, marks_of}
use Rattle.sb_flow.specs.declared.leg.Leg.{Leg}

-- two tables agree where their functions do
pub map_range_agree : {A : Type 0} (f g : ℕ → A) (a n : ℕ) → ((k : ℕ) → a ≤ k → k < a + n → f k ≡ g k) → map f (range_with_len a n) ≡ map g (range_with_len a n)
map_range_agree f g a zero same = refl
map_range_agree f g a (suc n) same =
    rw (same a (omega arith) (omega arith), map_range_agree f g (a + 1) n (λ k low high. same k (omega arith) (omega arith))) refl

-- a table with another value at one place is that of a function with another value there
pub map_range-set : {A : Type 0} (f g : ℕ → A) (a n j : ℕ) (v : A) → ((k : ℕ) → k ≢ a + j → f k ≡ g k) → g (a + j) ≡ v → set (map f (range_with_len a n)) j v ≡ map g (range_with_len a n)
map_range-set f g a zero j v others here = refl
map_range-set f g a (suc n) zero v others here =
    let at : g a ≡ v = rw (let e : a + 0 ≡ a = omega arith in e) at here in
    rw (at, map_range_agree f g (a + 1) n (λ k low high. others k (omega arith))) refl
map_range-set f g a (suc n) (suc j) v others here =
    let e : a + 1 + j ≡ a + suc j = omega arith in
    rw (others a (omega arith), map_range-set f g (a + 1) n j v (λ k ne. others k (omega arith)) (rw e here)) refl

-- one value at all places
pub map_range-constant : {A : Type 0} (v : A) (a n : ℕ) → map (λ k. v) (range_with_len a n) ≡ replicate n v
map_range-constant v a zero = refl
map_range-constant v a (suc n) = rw (map_range-constant v (a + 1) n) refl

-- for each of n links, whether it is among those of some legs
abbrev pub marks_in : ℕ → List Leg → List Bool
marks_in n legs = map (λ k. list_any (λ leg. leg.link == k) legs) (range_with_len 0 n)

-- no leg marks nothing
pub marks_in-nil : (n : ℕ) → marks_in n [] ≡ replicate n false
marks_in-nil n = map_range-constant false 0 n

-- one leg more marks its link
pub marks_in-push : (n : ℕ) (legs : List Leg) (leg : Leg) → set (marks_in n legs) leg.link true ≡ marks_in n (legs ++ leg ∷ [])
marks_in-push n legs leg = map_range-set (λ k. list_any (λ leg. leg.link == k) legs) (λ k. list_any (λ leg. leg.link == k) (legs ++ leg ∷ [])) 0 n leg.link true
    (λ k ne. let other : (leg.link == k) ≡ false = ne_eqb leg.link k (λ e. ne (omega arith)) in sym (list_any-append (λ (l : Leg). l.link == k) legs (leg ∷ []) ∙ (rw other (or-false (list_any (λ leg. leg.link == k) legs)))))
    (let e : 0 + leg.link ≡ leg.link = omega arith in rw e (list_any-append (λ (l : Leg). l.link == leg.link) legs (leg ∷ []) ∙ (rw (eq-eqb leg.link leg.link refl) (or-true (list_any (λ l. l.link == leg.link) legs)))))
  where
    or-false : (b : Bool) → (b || (false || false)) ≡ b
    or-false true = refl
    or-false false = refl

    or-true : (b : Bool) → (b || (true || false)) ≡ true
    or-true true = refl
    or-true false = refl

-- the marks of the legs up to one place, and those with the next leg
pub marks_in-more : (n i place : ℕ) (legs : List Leg) (d : Leg) (on more : List Bool) → i < length legs → place ≡ (get_or legs i d).link → on ≡ marks_in n (take i legs) → more ≡ set on place true → more ≡ marks_in n (take (i + 1) legs)
marks_in-more n i place legs d on more h at so_far marked =
    rw (marked, so_far, at, take_more legs i d h) (marks_in-push n (take i legs) (get_or legs i d))

-- at the end they are those of all legs
pub marks_in-all : (n i : ℕ) (legs : List Leg) (on : List Bool) → length legs ≤ i → on ≡ marks_in n (take i legs) → on ≡ marks_in n legs
marks_in-all n i legs on h so_far = rw (take_all i legs h) at so_far

-- a search over what is mapped
pub list_any-map : {A B : Type 0} (p : B → Bool) (f : A → B) (xs : List A) → list_any p (map f xs) ≡ list_any (λ x. p (f x)) xs
list_any-map p f [] = refl
list_any-map p f (x ∷ xs) = rw (list_any-map p f xs) refl

-- the marks of the legs of links are those of the links
pub marks_in-legs : (network : Network) (links : List ℕ) → marks_in (length network.links) (map (leg_of network) links) ≡ marks_of network links
marks_in-legs network links = map_range_agree (λ k. list_any (λ (leg : Leg). leg.link == k) (map (leg_of network) links)) (λ k. list_any (λ j. j == k) links) 0 (length network.links) (λ k low high. list_any-map (λ (leg : Leg). leg.link == k) (leg_of network) links)
