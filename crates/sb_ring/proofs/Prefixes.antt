-- Lists that begin another, and what stands in a row of words.
use Rattle.std.proofs.Common.{◌≡◌, ◌≢◌, ℕ, zero, suc, ◌+◌, ◌<◌, ◌≤◌, ◌⊎◌, inl, inr, ⊎_elim, List, [], ◌∷◌, ◌++◌, length, get_or, set, sym, refl, ap, ◌∙◌, subst, append_assoc, length-append, arith}
use Rattle.std.proofs.lemmas.List.{append-nil, get_or-set_other, get_or-set_same, get_or_append_left, nil_from_length}
use Rattle.std.proofs.Math.Seq.{get_or-append_seam}
use Rattle.std.proofs.lemmas.Bool.{cases_lt}
use mathlib.Core.Option.{some, some-injective, some-ne-none}
use lib.ListN.{get_elem?}
use Rattle.sb_link.specs.Prefixes.{IsPrefix}
use Rattle.sb_ring.specs.Plays.{with_last}
use Rattle.sb_ring.specs.Rule.{StandAt}

module _ {A : Type 0} where
  pub prefix_refl : (xs : List A) → IsPrefix xs xs
  prefix_refl xs = record { rest = []; joined = append-nil xs }

  -- nothing begins every list
  pub prefix_nil : (xs : List A) → IsPrefix [] xs
  prefix_nil xs = record { rest = xs; joined = refl }

  -- a list begins itself with more behind it
  pub prefix_more : (xs ys : List A) → IsPrefix xs (xs ++ ys)
  prefix_more xs ys = record { rest = ys; joined = refl }

  pub prefix_snoc : (xs ys : List A) (x : A) → IsPrefix xs ys → IsPrefix xs (ys ++ x ∷ [])
  prefix_snoc xs ys x b = record { rest = b.rest ++ x ∷ []; joined = sym (append_assoc xs b.rest (x ∷ [])) ∙ ap (λ (l : List A). l ++ x ∷ []) b.joined }

  pub prefix_length : (xs ys : List A) → IsPrefix xs ys → length xs ≤ length ys
  prefix_length xs ys b = omega (arith, ap length b.joined, length-append xs b.rest)

  pub prefix_trans : (xs ys zs : List A) → IsPrefix xs ys → IsPrefix ys zs → IsPrefix xs zs
  prefix_trans xs ys zs b d = record { rest = b.rest ++ d.rest; joined = sym (append_assoc xs b.rest d.rest) ∙ ap (λ (l : List A). l ++ d.rest) b.joined ∙ d.joined }

  pub at_seam : (xs : List A) (x : A) (rest : List A) → get_elem? (xs ++ x ∷ rest) (length xs) ≡ some x
  at_seam [] x rest = refl
  at_seam (y ∷ xs) x rest = at_seam xs x rest

  next_from : (xs ys rest : List A) → ys ≡ xs ++ rest → length xs < length ys → (x : A) × (more : List A) × (ys ≡ xs ++ x ∷ more)
  next_from xs ys [] e h = let p : ⊥ = omega (arith, ap length e, length-append {A = A} xs []) in absurd p
  next_from xs ys (x ∷ more) e h = (x, more, e)

  -- the longer list has an item right behind the shorter one
  pub next_of : (xs ys : List A) → IsPrefix xs ys → length xs < length ys → (x : A) × (more : List A) × (ys ≡ xs ++ x ∷ more) × (get_elem? ys (length xs) ≡ some x)
  next_of xs ys b h = let n = next_from xs ys b.rest (sym b.joined) h in (n.0, n.1, n.2, ap (λ l. get_elem? l (length xs)) n.2 ∙ at_seam xs n.0 n.1)

  pub below : (l : List A) (i : ℕ) (a : A) → get_elem? l i ≡ some a → i < length l
  below [] i a e = absurd (some-ne-none a (sym e))
  below (x ∷ l) zero a e = omega arith
  below (x ∷ l) (suc i) a e = omega (arith, below l i a e)

  pub snoc_at : (l : List A) (a b : A) (j : ℕ) → get_elem? (l ++ a ∷ []) j ≡ some b → (get_elem? l j ≡ some b) ⊎ ((j ≡ length l) × (a ≡ b))
  snoc_at [] a b zero e = inr (refl, some-injective a b e)
  snoc_at [] a b (suc j) e = absurd (some-ne-none b (sym e))
  snoc_at (x ∷ l) a b zero e = inl e
  snoc_at (x ∷ l) a b (suc j) e = ⊎_elim (λ t. inl t) (λ t. inr (ap suc t.0, t.1)) (snoc_at l a b j e)

  -- a list that ends in x, cut at y, is cut at x or before it
  cut_snoc : (xs ys zs : List A) (x y : A) (P : List A → A → Type 0) → xs ++ x ∷ [] ≡ ys ++ y ∷ zs
      → P xs x → ((us vs : List A) (z : A) → xs ≡ us ++ z ∷ vs → P us z) → P ys y
  cut_snoc [] [] zs x y P e here before = let h : x ≡ y = cc in subst (λ z. P [] z) h here
  cut_snoc [] (b ∷ []) zs x y P e here before = let h : ⊥ = cc in absurd h
  cut_snoc [] (b ∷ c ∷ ys) zs x y P e here before = let h : ⊥ = cc in absurd h
  cut_snoc (a ∷ xs) [] zs x y P e here before = let h : a ≡ y = cc in before [] xs y (ap (λ z. z ∷ xs) h)
  cut_snoc (a ∷ xs) (b ∷ ys) zs x y P e here before = let h : a ≡ b = cc in let t : xs ++ x ∷ [] ≡ ys ++ y ∷ zs = cc in
      subst (λ c. P (c ∷ ys) y) h (cut_snoc xs ys zs x y (λ us z. P (a ∷ us) z) t here (λ us vs z q. before (a ∷ us) vs z (ap (λ l. a ∷ l) q)))

  pub follows_snoc : (follows : List A → A → Type 0) (xs : List A) (x : A) → ((ys zs : List A) (y : A) → xs ≡ ys ++ y ∷ zs → follows ys y) → follows xs x
      → (ys zs : List A) (y : A) → xs ++ x ∷ [] ≡ ys ++ y ∷ zs → follows ys y
  follows_snoc follows xs x before here ys zs y e = cut_snoc xs ys zs x y follows e here before

  grown : (part words more : List A) (v d : A) → words ≡ part ++ more → length part < length words → v ≡ get_or words (length part) d → IsPrefix (part ++ v ∷ []) words
  grown part words [] v d e h is = let p : ⊥ = omega (arith, ap length e, length-append {A = A} part []) in absurd p
  grown part words (m ∷ more) v d e h is =
      let s : v ≡ m = is ∙ ap (λ l. get_or l (length part) d) e ∙ get_or-append_seam part m more d in
      record { rest = more; joined = append_assoc part (v ∷ []) more ∙ ap (λ z. part ++ z ∷ more) s ∙ sym e }

  -- a front grows by the word that stands next
  pub front_grows : (part words : List A) (v d : A) → IsPrefix part words → length part < length words → v ≡ get_or words (length part) d → IsPrefix (part ++ v ∷ []) words
  front_grows part words v d b h is = grown part words b.rest v d (sym b.joined) h is

  -- a front of full length is the whole
  pub front_full : (part words : List A) → IsPrefix part words → length part ≡ length words → words ≡ part
  front_full part words b h = let n : length b.rest ≡ 0 = omega (arith, ap length b.joined, length-append part b.rest) in
      sym b.joined ∙ ap (λ l. part ++ l) (nil_from_length b.rest n) ∙ append-nil part

pub stands_else : (ws : List ℕ) (base i v : ℕ) (xs : List ℕ) → ((j : ℕ) → j < length xs → base + j ≢ i) → StandAt ws base xs → StandAt (set ws i v) base xs
stands_else ws base i v xs apart h j lt = get_or-set_other ws i (base + j) v 0 (apart j lt) ∙ h j lt

pub stands_snoc : (ws : List ℕ) (base v : ℕ) (xs : List ℕ) → base + length xs < length ws → StandAt ws base xs → StandAt (set ws (base + length xs) v) base (xs ++ v ∷ [])
stands_snoc ws base v xs room h j lt = ⊎_elim
    (λ (l : j < length xs). let ne : base + j ≢ base + length xs = omega arith in get_or-set_other ws (base + length xs) (base + j) v 0 ne ∙ h j l ∙ sym (get_or_append_left xs (v ∷ []) 0 j l))
    (λ (l : length xs ≤ j). let e : j ≡ length xs = omega (arith, length-append xs (v ∷ [])) in
    subst (λ k. get_or (set ws (base + length xs) v) (base + k) 0 ≡ get_or (xs ++ v ∷ []) k 0) (sym e)
    (get_or-set_same ws (base + length xs) v 0 room ∙ sym (get_or-append_seam xs v [] 0)))
    (cases_lt j (length xs))

-- what stands one after another does so without its last number
pub stands_front : (ws : List ℕ) (base y : ℕ) (xs : List ℕ) → StandAt ws base (xs ++ y ∷ []) → StandAt ws base xs
stands_front ws base y xs h j lt = let further : j < length (xs ++ y ∷ []) = omega (arith, length-append xs (y ∷ [])) in h j further ∙ get_or_append_left xs (y ∷ []) 0 j lt

-- and with the number that stands behind it
pub stands_found : (ws : List ℕ) (base v : ℕ) (xs : List ℕ) → v ≡ get_or ws (base + length xs) 0 → StandAt ws base xs → StandAt ws base (xs ++ v ∷ [])
stands_found ws base v xs is h j lt = ⊎_elim
    (λ (l : j < length xs). h j l ∙ sym (get_or_append_left xs (v ∷ []) 0 j l))
    (λ (l : length xs ≤ j). let e : j ≡ length xs = omega (arith, length-append xs (v ∷ [])) in
    subst (λ k. get_or ws (base + k) 0 ≡ get_or (xs ++ v ∷ []) k 0) (sym e)
    (sym is ∙ sym (get_or-append_seam xs v [] 0)))
    (cases_lt j (length xs))

-- a list that isn't empty ends in a number
pub last_of : (xs : List ℕ) → 0 < length xs → (front : List ℕ) × (y : ℕ) × (xs ≡ front ++ y ∷ [])
last_of [] more = absurd (omega arith)
last_of (x ∷ []) more = ([], x, refl)
last_of (x ∷ y ∷ xs) more = let rest = last_of (y ∷ xs) (omega arith) in (x ∷ rest.0, rest.1, ap (λ l. x ∷ l) rest.2)

-- with another last number
pub with_last-snoc : (front : List ℕ) (y v : ℕ) → with_last (front ++ y ∷ []) v ≡ front ++ v ∷ []
with_last-snoc [] y v = refl
with_last-snoc (x ∷ []) y v = refl
with_last-snoc (x ∷ z ∷ front) y v = ap (λ l. x ∷ l) (with_last-snoc (z ∷ front) y v)
