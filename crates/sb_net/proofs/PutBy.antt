-- Things that are put at the places that are their numbers, from the last one on.
use Rattle.std.proofs.Common.{◌≡◌, ◌≢◌, ℕ, zero, suc, ◌+◌, ◌<◌, List, [], ◌∷◌, ◌++◌, length, map, set, refl, sym, ap, ◌∙◌, subst, arith}
use Rattle.std.specs.Prelude.{All, Option, Some, None, slice_index_or}
use Rattle.std.proofs.lemmas.List.{get_or-set_other, get_or-set_same, length-append, length-set}
use Rattle.std.proofs.Math.Seq.{get_or-append_seam}
use Rattle.sb_packet.proofs.Lists.{All-left}
use Rattle.sb_member.proofs.RingsJoined.{same_or_not}
use Rattle.sb_net.specs.Apart.{put_by}

module _ {A : Type 0} (number : A → ℕ) where
  pub put_append : (xs ys : List A) (places : List (Option A)) → put_by number (xs ++ ys) places ≡ put_by number xs (put_by number ys places)
  put_append [] ys places = refl
  put_append (x ∷ xs) ys places = ap (λ list. set list (number x) (Some x)) (put_append xs ys places)

  pub put_length : (xs : List A) (places : List (Option A)) → length (put_by number xs places) ≡ length places
  put_length [] places = refl
  put_length (x ∷ xs) places = length-set (put_by number xs places) (number x) (Some x) ∙ put_length xs places

  -- Of the things of a list some are left to be put: putting them comes to putting all.
  pub record IsPutSoFar (all : List A) (before : List (Option A)) (left : List A) (places : List (Option A)) : Type 0 where
    pub same : put_by number left places ≡ put_by number all before
    pub within : All (λ x. number x < length places) left

  first_of : (want : ℕ → A) (x : A) (xs : List A) → All (λ y. y ≡ want (number y)) (x ∷ xs) → x ≡ want (number x)
  first_of want x xs all = all 0 x (omega arith)

  rest_of : (want : ℕ → A) (x : A) (xs : List A) → All (λ y. y ≡ want (number y)) (x ∷ xs) → All (λ y. y ≡ want (number y)) xs
  rest_of want x xs all = λ k d lt. all (suc k) d (omega (arith, lt))

  -- the last of the things that are left is put
  pub put_next : (all : List A) (before : List (Option A)) (left new : List A) (x : A) (places after : List (Option A)) → IsPutSoFar all before left places → left ≡ new ++ x ∷ []
      → after ≡ set places (number x) (Some x) → IsPutSoFar all before new after
  put_next all before left new x places after so_far is put =
      let within : All (λ y. number y < length places) (new ++ x ∷ []) = subst (λ list. All (λ y. number y < length places) list) is so_far.within in
      record {
        same = ap (λ list. put_by number new list) put ∙ sym (put_append new (x ∷ []) places) ∙ ap (λ list. put_by number list places) (sym is) ∙ so_far.same;
        within = λ k d lt. subst (λ n. number (slice_index_or new k d) < n) (sym (ap (λ list. length list) put ∙ length-set places (number x) (Some x)))
            (All-left (λ y. number y < length places) new (x ∷ []) within k d lt);
      }

  -- the thing that is put next has a place
  pub next_within : (all : List A) (before : List (Option A)) (left new : List A) (x : A) (places : List (Option A)) → IsPutSoFar all before left places → left ≡ new ++ x ∷ []
      → number x < length places
  next_within all before left new x places so_far is =
      let within : All (λ y. number y < length places) (new ++ x ∷ []) = subst (λ list. All (λ y. number y < length places) list) is so_far.within in
      subst (λ y. number y < length places) (get_or-append_seam new x [] x) (within (length new) x (omega (arith, length-append new (x ∷ []))))

  -- what a place gets is the thing of its number, however many things are put
  pub put_keeps : (want : ℕ → A) (xs : List A) (places : List (Option A)) (r : ℕ) → All (λ x. x ≡ want (number x)) xs → slice_index_or places r None ≡ Some (want r)
      → r < length places → slice_index_or (put_by number xs places) r None ≡ Some (want r)
  put_keeps want [] places r all there lt = there
  put_keeps want (x ∷ xs) places r all there lt =
      let long : r < length (put_by number xs places) = subst (λ n. r < n) (sym (put_length xs places)) lt in
      same_or_not r (number x)
      (λ e. ap (λ n. slice_index_or (set (put_by number xs places) n (Some x)) r None) (sym e) ∙ get_or-set_same (put_by number xs places) r (Some x) None long
      ∙ ap (λ y. Some y) (first_of want x xs all ∙ ap want (sym e)))
      (λ differs. get_or-set_other (put_by number xs places) (number x) r (Some x) None differs ∙ put_keeps want xs places r (rest_of want x xs all) there lt)

  -- and it gets it where a thing of that number is among them
  pub put_there : (want : ℕ → A) (xs : List A) (places : List (Option A)) (r k : ℕ) (d : A) → All (λ x. x ≡ want (number x)) xs → k < length xs → number (slice_index_or xs k d) ≡ r
      → r < length places → slice_index_or (put_by number xs places) r None ≡ Some (want r)
  put_there want [] places r k d all below is lt = absurd (omega (arith, below))
  put_there want (x ∷ xs) places r zero d all below is lt =
      let long : r < length (put_by number xs places) = subst (λ n. r < n) (sym (put_length xs places)) lt in
      ap (λ n. slice_index_or (set (put_by number xs places) n (Some x)) r None) is ∙ get_or-set_same (put_by number xs places) r (Some x) None long ∙ ap (λ y. Some y) (first_of want x xs all ∙ ap want is)
  put_there want (x ∷ xs) places r (suc k) d all below is lt =
      let long : r < length (put_by number xs places) = subst (λ n. r < n) (sym (put_length xs places)) lt in
      same_or_not r (number x)
      (λ e. ap (λ n. slice_index_or (set (put_by number xs places) n (Some x)) r None) (sym e) ∙ get_or-set_same (put_by number xs places) r (Some x) None long
      ∙ ap (λ y. Some y) (first_of want x xs all ∙ ap want (sym e)))
      (λ differs. get_or-set_other (put_by number xs places) (number x) r (Some x) None differs ∙ put_there want xs places r k d (rest_of want x xs all) (omega (arith, below)) is lt)
