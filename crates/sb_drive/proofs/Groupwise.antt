-- What is done with one group after another, from the first place on.
use Rattle.std.proofs.Common.{◌≡◌, ⊎_elim, ℕ, ◌+◌, ◌<◌, ◌≤◌, List, length, get_or, set, sym, refl, ◌∙◌, subst, All, arith}
use Rattle.std.proofs.lemmas.List.{get_or-set_other, get_or-set_same, length-set, get_or_default}
use Rattle.std.proofs.lemmas.List.Elements.{All-set}
use Rattle.std.proofs.lemmas.Bool.{cases_lt}

module _ {A : Type 0} (whole : A → Type 0) (leads : A → A → Type 0) where
  -- the elements at the first k places have come to what they are, and the others are as they were
  pub record HaveCome (k : ℕ) (xs ys : List A) : Type 0 where
    pub same : length ys ≡ length xs
    pub intact : All whole ys
    pub come : (j : ℕ) (d : A) → j < k → leads (get_or xs j d) (get_or ys j d)
    pub still : (j : ℕ) (d : A) → k ≤ j → get_or ys j d ≡ get_or xs j d

  -- at first none has
  pub none_come : (xs : List A) → All whole xs → HaveCome 0 xs xs
  none_come xs w = record { same = refl; intact = w; come = λ j d lt. absurd (omega arith); still = λ j d le. refl }

  -- then the next one comes to y
  pub one_more : (k : ℕ) (xs ys : List A) (x y : A) → HaveCome k xs ys → k < length xs → whole y → leads (get_or ys k x) y → HaveCome (k + 1) xs (set ys k y)
  one_more k xs ys x y r lt w l =
      let ly : k < length ys = let s = r.same in omega arith in
      let was : (d : A) → get_or ys k x ≡ get_or xs k d = (λ d. sym (get_or_default ys k d x ly) ∙ r.still k d (omega arith)) in
      let new : (d : A) → y ≡ get_or (set ys k y) k d = (λ d. sym (get_or-set_same ys k y d ly)) in record {
        same = length-set ys k y ∙ r.same;
        intact = All-set whole ys k y w r.intact;
        come = λ j d below. ⊎_elim
            (λ (b : j < k). subst (λ z. leads (get_or xs j d) z) (sym (get_or-set_other ys k j y d (λ e. omega arith))) (r.come j d b))
            (λ (from : k ≤ j). let e : k ≡ j = omega arith in
            subst (λ i. leads (get_or xs i d) (get_or (set ys k y) i d)) e
            (subst (λ z. leads (get_or xs k d) z) (new d) (subst (λ z. leads z y) (was d) l)))
            (cases_lt j k);
        still = λ j d le. get_or-set_other ys k j y d (λ e. omega arith) ∙ r.still j d (omega arith);
      }

  -- at last all have
  pub all_come : (k : ℕ) (xs ys : List A) → length xs ≤ k → HaveCome k xs ys → (j : ℕ) (d : A) → j < length xs → leads (get_or xs j d) (get_or ys j d)
  all_come k xs ys over r j d lt = r.come j d (omega arith)
