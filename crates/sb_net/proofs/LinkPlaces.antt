-- The links of a node among the first ones, and the place of each there.
use Rattle.std.proofs.Common.{◌≡◌, ℕ, zero, suc, ◌+◌, ◌-◌, ◌<◌, ◌==◌, Bool, true, false, cond, List, [], ◌∷◌, ◌++◌, length, refl, sym, ap, ◌∙◌, arith, subst}
use Rattle.std.specs.Prelude.{filter, get_or}
use Rattle.std.specs.List.{range_with_len}
use Rattle.std.proofs.Math.ListN.{get_or-append}
use Rattle.std.proofs.lemmas.Bool.{eq-eqb, eqb-true}
use Rattle.std.proofs.lemmas.List.{append-nil, get_or-append_right, length-append}
use Rattle.std.proofs.lemmas.List.Elements.{filter-append}
use Rattle.sb_net.specs.Legs.{links_at, place_at_node}
use Rattle.sb_net.proofs.LegsMade.{below_or_last}

pub range_more : (a n : ℕ) → range_with_len a (suc n) ≡ range_with_len a n ++ (a + n) ∷ []
range_more a zero = let e : a ≡ a + 0 = omega arith in ap (λ k. k ∷ []) e
range_more a (suc n) = let e : a + 1 + n ≡ a + suc n = omega arith in ap (λ rest. a ∷ rest) (range_more (a + 1) n ∙ ap (λ k. range_with_len (a + 1) n ++ k ∷ []) e)

pub range_next : (n : ℕ) → range_with_len 0 (suc n) ≡ range_with_len 0 n ++ n ∷ []
range_next n = let e : 0 + n ≡ n = omega arith in range_more 0 n ∙ ap (λ k. range_with_len 0 n ++ k ∷ []) e

-- the last element of a list
none_left : (n k : ℕ) → n ≡ k → n - k ≡ 0
none_left n k e = omega (arith, e)

pub last_of_list : {A : Type 0} (xs : List A) (y d : A) (n : ℕ) → length xs ≡ n → get_or (xs ++ y ∷ []) n d ≡ y
last_of_list xs y d n is = get_or-append_right xs (y ∷ []) n n d is (omega arith) ∙ ap (λ k. get_or (y ∷ []) k d) (none_left n n refl)

-- a test is true, or false
pub by_value : {P : Type 0} (b : Bool) → (b ≡ true → P) → (b ≡ false → P) → P
by_value true f g = f refl
by_value false f g = g refl

module _ (node : ℕ → ℕ) where
  pub links_more : (n m : ℕ) → links_at node (suc n) m ≡ links_at node n m ++ cond (node n == m) (n ∷ []) []
  links_more n m = ap (filter (λ k. node k == m)) (range_next n) ∙ filter-append (λ k. node k == m) (range_with_len 0 n) (n ∷ [])

  -- one link more is its node's last one
  pub links_with : (n m : ℕ) → node n ≡ m → links_at node (suc n) m ≡ links_at node n m ++ n ∷ []
  links_with n m e = links_more n m ∙ ap (λ (b : Bool). links_at node n m ++ cond b (n ∷ []) []) (eq-eqb (node n) m e)

  pub links_without : (n m : ℕ) → (node n == m) ≡ false → links_at node (suc n) m ≡ links_at node n m
  links_without n m e = links_more n m ∙ ap (λ (b : Bool). links_at node n m ++ cond b (n ∷ []) []) e ∙ append-nil (links_at node n m)

  -- each link of a node has its place among them
  pub record HasPlace (n m k : ℕ) : Type 0 where
    pub below : place_at_node node k < length (links_at node n m)
    pub there : (d : ℕ) → get_or (links_at node n m) (place_at_node node k) d ≡ k

  pub placed : (n m k : ℕ) → k < n → node k ≡ m → HasPlace n m k
  placed zero m k lt e = absurd (omega (arith, lt))
  placed (suc n) m k lt e = below_or_last k n (omega (arith, lt))
      (λ less. let before = placed n m k less e in by_value (node n == m)
      (λ here. let longer = links_with n m (eqb-true (node n) m here) in
      let bound : place_at_node node k < length (links_at node (suc n) m) = let old = before.below in omega (arith, old, ap (λ (xs : List ℕ). length xs) longer, length-append (links_at node n m) (n ∷ [])) in
      record { below = bound; there = λ d. ap (λ xs. get_or xs (place_at_node node k) d) longer ∙ get_or-append (links_at node n m) (n ∷ []) d (place_at_node node k) before.below ∙ before.there d })
      (λ other. let same = links_without n m other in
      record { below = subst (λ xs. place_at_node node k < length xs) (sym same) before.below; there = λ d. ap (λ xs. get_or xs (place_at_node node k) d) same ∙ before.there d }))
      (λ last. let here : node n ≡ m = sym (ap node last) ∙ e in
      let longer = links_with n m here in
      let at : place_at_node node k ≡ length (links_at node n m) = ap (place_at_node node) last ∙ ap (λ i. length (links_at node n i)) here in
      record {
        below = omega (arith, at, ap (λ (xs : List ℕ). length xs) longer, length-append (links_at node n m) (n ∷ []));
        there = λ d. ap (λ xs. get_or xs (place_at_node node k) d) longer ∙ last_of_list (links_at node n m) n d (place_at_node node k) (sym at) ∙ sym last;
      })

  -- what stands at a place among them is a link of the node with that place
  pub record IsAtPlace (n m o k : ℕ) : Type 0 where
    pub below : k < n
    pub at : node k ≡ m
    pub place : place_at_node node k ≡ o

  pub at_place : (n m o d : ℕ) → o < length (links_at node n m) → IsAtPlace n m o (get_or (links_at node n m) o d)
  at_place zero m o d lt = absurd (omega (arith, lt))
  at_place (suc n) m o d lt = by_value (node n == m)
      (λ here. let longer = links_with n m (eqb-true (node n) m here) in
      let low : o < length (links_at node n m) + 1 = omega (arith, lt, ap (λ (xs : List ℕ). length xs) longer, length-append (links_at node n m) (n ∷ [])) in
      subst (λ xs. IsAtPlace (suc n) m o (get_or xs o d)) (sym longer) (below_or_last o (length (links_at node n m)) low
      (λ less. subst (IsAtPlace (suc n) m o) (sym (get_or-append (links_at node n m) (n ∷ []) d o less)) (more (at_place n m o d less)))
      (λ last. subst (IsAtPlace (suc n) m o) (sym (last_of_list (links_at node n m) n d o (sym last)))
      (record { below = omega arith; at = eqb-true (node n) m here; place = ap (λ i. length (links_at node n i)) (eqb-true (node n) m here) ∙ sym last }))))
      (λ other. let same = links_without n m other in
      subst (λ xs. IsAtPlace (suc n) m o (get_or xs o d)) (sym same) (more (at_place n m o d (subst (λ xs. o < length xs) same lt))))
    where
      more : {k : ℕ} → IsAtPlace n m o k → IsAtPlace (suc n) m o k
      more p = let old = p.below in record { below = omega (arith, old); at = p.at; place = p.place }
