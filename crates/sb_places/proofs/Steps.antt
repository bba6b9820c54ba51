-- Each step keeps the rule.
use Rattle.std.proofs.Common.{◌≡◌, ◌≢◌, ℕ, zero, suc, ◌+◌, ◌-◌, ◌<◌, ◌≤◌, ⊎_elim, eqb, true, false, true≢false, List, [], ◌∷◌, ◌++◌, map, length, get_or, set, sym, refl, ap, ◌∙◌, subst, arith}
use Rattle.std.proofs.lemmas.List.{length-set, length-map, get_or-set_other, set-get_or}
use Rattle.std.proofs.lemmas.Grind.{get_or-set_at}
use mathlib.Core.Option.{Option, none, some, some-injective, some-ne-none}
use mathlib.Core.Logic.{dite}
use native.Mathlib.Decide.{ℕ_discrete}
use prog.Atomic.{either}
use lib.ListN.{get_elem?}
use Rattle.std.proofs.Common.{replicate}
use Rattle.std.proofs.lemmas.List.{length-replicate, get_or-replicate, get_or_past}
use Rattle.std.proofs.lemmas.Bool.{cases_lt}
use Rattle.sb_places.proofs.Taking.{read}
use Rattle.atomic_table.specs.Table.{Final, Seen, State, Me, Act, keeps as keeps_all, takes, gives, rest, Valid, stepped, carried_after, Allows, Splits, Joins, opening}
use Rattle.atomic_table.proofs.Lists.{at_set, at_snoc, at_longer, set_here, set_else, set_again, some_there, exchanged}
use Rattle.sb_places.specs.declared.hand.Hand.{Hand}
use Rattle.std.specs.Prelude.{Some}
use Rattle.std.proofs.lemmas.Option.{same_Some}
use Rattle.sb_places.specs.Hands.{all_parts, total, hand, with_parts, first_hand, spent_hand}
use Rattle.sb_places.specs.Rule.{AreKept, IsOut, IsHome, IsPlaces, IsTried, IsGivenBack}

module _ {V : Type 0} where
  -- the parts after a change of one view
  pub total_set : (views : List (Hand V)) (j : ℕ) (v w : Hand V) → get_elem? views j ≡ some v → total (set views j w) + v.parts ≡ total views + w.parts
  total_set [] j v w e = absurd (some-ne-none v (sym e))
  total_set (x ∷ xs) zero v w e = let h : x.parts ≡ v.parts = ap (λ (y : Hand V). y.parts) (some-injective x v e) in let t : ℕ = total xs in
      let a : ℕ = x.parts in let b : ℕ = w.parts in let c : ℕ = v.parts in omega arith
  total_set (x ∷ xs) (suc j) v w e = let h = total_set xs j v w e in let t : ℕ = total xs in let u : ℕ = total (set xs j w) in omega arith

  pub total_snoc : (views : List (Hand V)) (w : Hand V) → total (views ++ w ∷ []) ≡ total views + w.parts
  total_snoc [] w = let b : ℕ = w.parts in omega arith
  total_snoc (x ∷ xs) w = let h = total_snoc xs w in omega arith

  -- two seats have no more parts than all
  pub part_of : (views : List (Hand V)) (j : ℕ) (v : Hand V) → get_elem? views j ≡ some v → v.parts ≤ total views
  part_of [] j v e = absurd (some-ne-none v (sym e))
  part_of (x ∷ xs) zero v e = let h : x.parts ≡ v.parts = ap (λ (y : Hand V). y.parts) (some-injective x v e) in omega arith
  part_of (x ∷ xs) (suc j) v e = let h = part_of xs j v e in omega arith

  pub two_parts : (views : List (Hand V)) (i j : ℕ) (v w : Hand V) → i ≢ j → get_elem? views i ≡ some v → get_elem? views j ≡ some w → v.parts + w.parts ≤ total views
  two_parts [] i j v w ne e f = absurd (some-ne-none v (sym e))
  two_parts (x ∷ xs) zero zero v w ne e f = absurd (ne refl)
  two_parts (x ∷ xs) zero (suc j) v w ne e f = let h : x.parts ≡ v.parts = ap (λ (y : Hand V). y.parts) (some-injective x v e) in let p = part_of xs j w f in omega arith
  two_parts (x ∷ xs) (suc i) zero v w ne e f = let h : x.parts ≡ w.parts = ap (λ (y : Hand V). y.parts) (some-injective x w f) in let p = part_of xs i v e in omega arith
  two_parts (x ∷ xs) (suc i) (suc j) v w ne e f = let h = two_parts xs i j v w (λ h. ne (ap suc h)) e f in omega arith

  -- what holds of every view holds after one of them was changed, if it holds of the changed one
  pub all_set : (F : Hand V → Type 0) (views : List (Hand V)) (id : ℕ) (w : Hand V) → F w → ((j : ℕ) (u : Hand V) → get_elem? views j ≡ some u → F u)
      → (j : ℕ) (u : Hand V) → get_elem? (set views id w) j ≡ some u → F u
  all_set F views id w mine others j u e = ⊎_elim (λ (x : (j ≡ id) × (w ≡ u)). subst F x.1 mine)
      (λ (x : (j ≢ id) × (get_elem? views j ≡ some u)). others j u x.1) (at_set views id j w u e)

  -- and after one more came
  pub all_snoc : (F : Hand V → Type 0) (views : List (Hand V)) (w : Hand V) → F w → ((j : ℕ) (u : Hand V) → get_elem? views j ≡ some u → F u)
      → (j : ℕ) (u : Hand V) → get_elem? (views ++ w ∷ []) j ≡ some u → F u
  all_snoc F views w mine others j u e = ⊎_elim (λ x. others j u x) (λ (x : w ≡ u). subst F x mine) (at_snoc views w u j e)

  pub sits_below : (views : List (Hand V)) (j : ℕ) (v : Hand V) → get_elem? views j ≡ some v → j < length views
  sits_below [] j v e = absurd (some-ne-none v (sym e))
  sits_below (x ∷ xs) zero v e = omega arith
  sits_below (x ∷ xs) (suc j) v e = let h = sits_below xs j v e in omega arith

  -- a seat that has nothing isn't the one that has a value
  pub other_seat : (views : List (Hand V)) (id g : ℕ) (v : Hand V) → get_elem? views id ≡ some v → (v.holds ≡ true → v.place ≢ g) → (o : IsOut views g) → o.seat ≢ id
  other_seat views id g v at idle o e =
      let same : v ≡ o.view = some-injective v o.view (sym at ∙ sym (ap (λ j. get_elem? views j) e) ∙ o.sits) in
      let h : v.holds ≡ true = ap (λ (z : Hand V). z.holds) same ∙ o.holds in
      let p : v.place ≡ g = ap (λ (z : Hand V). z.place) same ∙ o.there in idle h p

  -- a value that another seat has stays out
  pub still_out : (views : List (Hand V)) (id g : ℕ) (v w : Hand V) → get_elem? views id ≡ some v → (v.holds ≡ true → v.place ≢ g) → IsOut views g → IsOut (set views id w) g
  still_out views id g v w at idle o = record {
    seat = o.seat;
    view = o.view;
    sits = set_else views id o.seat w (other_seat views id g v at idle o) ∙ o.sits;
    holds = o.holds;
    there = o.there;
    part = o.part;
  }

module _ {S V : Type 0} (keeps : V → ℕ → S → Type 0) (visitor : V) where
  -- a value at home stays there while another place changes
  still_home : (homes : List (Option S)) (g h : ℕ) (x : Option S) → h ≢ g → IsHome keeps visitor homes h → IsHome keeps visitor (set homes g x) h
  still_home homes g h x ne k = record { value = k.value; stands = set_else homes g h x ne ∙ k.stands; kept = k.kept }

  -- a seat that has nothing takes a value that is at home
  taken : (s : State S (Hand V)) (id g : ℕ) (v : Hand V) → IsPlaces keeps visitor s → get_elem? s.views id ≡ some v → g < length s.homes → v.holds ≡ false → 0 < v.parts
      → IsPlaces keeps visitor record { words = set s.words g 1; homes = set s.homes g none; views = set s.views id (hand v.visitor v.parts true g) }
  taken s id g v k at lt idle some_part = let w : Hand V = hand v.visitor v.parts true g in
      let size = k.size in let lw = length-set s.words g 1 in let lh = length-set s.homes g none in
      let nothing : (h : ℕ) → v.holds ≡ true → v.place ≢ h = (λ h e. absurd (true≢false (sym e ∙ idle))) in record {
        size = omega arith;
        parts = let t = total_set s.views id v w at in let p = k.parts in omega arith;
        one_visitor = all_set (λ u. 0 < u.parts → u.visitor ≡ Some visitor) s.views id w (k.one_visitor id v at) k.one_visitor;
        home = λ h below zero_there. dite (ℕ_discrete h g)
            (λ (e : h ≡ g). let one : get_or (set s.words g 1) h 0 ≡ 1 = get_or-set_at s.words g h 1 0 e (omega arith) in absurd (omega arith))
            (λ (ne : h ≢ g). let same = get_or-set_other s.words g h 1 0 ne in still_home s.homes g h none ne (k.home h (omega arith) (sym same ∙ zero_there)));
        out = λ h below some_there. dite (ℕ_discrete h g)
            (λ (e : h ≡ g). record { seat = id; view = w; sits = set_here s.views id w (sits_below s.views id v at); holds = refl; there = sym e; part = some_part })
            (λ (ne : h ≢ g). let same = get_or-set_other s.words g h 1 0 ne in still_out s.views id h v w at (nothing h) (k.out h (omega arith) (λ e. some_there (same ∙ e))));
      }

  -- a seat that has a value gives it back, which keeps the fact
  gave : (s : State S (Hand V)) (id g : ℕ) (v : Hand V) (x : S) → IsPlaces keeps visitor s → get_elem? s.views id ≡ some v → g < length s.homes → v.holds ≡ true → v.place ≡ g
      → keeps visitor g x → IsPlaces keeps visitor record { words = set s.words g 0; homes = set s.homes g (some x); views = set s.views id (with_parts v v.parts) }
  gave s id g v x k at lt has there kept = let w : Hand V = with_parts v v.parts in
      let size = k.size in let lw = length-set s.words g 0 in let lh = length-set s.homes g (some x) in record {
        size = omega arith;
        parts = let t = total_set s.views id v w at in let p = k.parts in omega arith;
        one_visitor = all_set (λ u. 0 < u.parts → u.visitor ≡ Some visitor) s.views id w (k.one_visitor id v at) k.one_visitor;
        home = λ h below zero_there. dite (ℕ_discrete h g)
            (λ (e : h ≡ g). record { value = x; stands = ap (λ j. get_elem? (set s.homes g (some x)) j) e ∙ set_here s.homes g (some x) lt; kept = subst (λ j. keeps visitor j x) (sym e) kept })
            (λ (ne : h ≢ g). let same = get_or-set_other s.words g h 0 0 ne in still_home s.homes g h (some x) ne (k.home h (omega arith) (sym same ∙ zero_there)));
        out = λ h below some_there. dite (ℕ_discrete h g)
            (λ (e : h ≡ g). absurd (some_there (get_or-set_at s.words g h 0 0 e (omega arith))))
            (λ (ne : h ≢ g). let same = get_or-set_other s.words g h 0 0 ne in still_out s.views id h v w at (λ _ e. ne (sym e ∙ there)) (k.out h (omega arith) (λ e. some_there (same ∙ e))));
      }

  pub try_allowed : (slots id : ℕ) (me : Me S (Hand V)) (g : ℕ) → g < slots → me.0.holds ≡ false → me.1 ≡ [] → 0 < me.0.parts
      → Allows (IsPlaces keeps visitor) slots id me g (λ n. either (eqb n 0) 1 n) (IsTried keeps g me)
  try_allowed slots id me g lt idle empty some_part s k len at small = let n : ℕ = get_or s.words g 0 in
      let Goal : ℕ → Type 0 = λ m. (w : Hand V) × (a : Act S) × Valid s.homes me.1 a × IsPlaces keeps visitor (stepped s g m id me.1 w a) × IsTried keeps g me n (w, carried_after me.1 a) in
      exchanged n 0 1 Goal
      (λ (e : n ≡ 0). let h = k.home g (omega arith) e in (
        hand me.0.visitor me.0.parts true g,
        takes g h.value,
        h.stands,
        taken s id g me.0 k at (omega arith) idle some_part,
        record { taken = λ _. (h.value, (λ other told. subst (λ z. keeps z g h.value) (same_Some visitor other (sym (k.one_visitor id me.0 at some_part) ∙ told)) h.kept), refl); missed = λ ne. absurd (ne e) },
      ))
      (λ (ne : n ≢ 0). (
        me.0,
        keeps_all,
        tt,
        subst (λ vs. IsPlaces keeps visitor record { words = set s.words g n; homes = s.homes; views = vs }) (sym (set_again s.views id me.0 at))
            (subst (λ ws. IsPlaces keeps visitor record { words = ws; homes = s.homes; views = s.views }) (sym (set-get_or s.words g 0)) k),
        record { taken = λ e. absurd (ne e); missed = λ _. refl },
      ))

  pub give_allowed : (slots id : ℕ) (me : Me S (Hand V)) (g : ℕ) (x : S) → g < slots → me.0.holds ≡ true → me.0.place ≡ g → me.1 ≡ (g, x) ∷ [] → keeps visitor g x
      → Allows (IsPlaces keeps visitor) slots id me g (λ _. 0) (λ _. IsGivenBack me)
  give_allowed slots id me g x lt has there mine kept s k len at small =
      let w : Hand V = with_parts me.0 me.0.parts in (
        w,
        gives,
        tt,
        subst (λ c. IsPlaces keeps visitor (stepped s g 0 id c w gives)) (sym mine) (gave s id g me.0 x k at (omega arith) has there kept),
        record { given = subst (λ c. ◌≡◌ {A = Me S (Hand V)} (w, rest c) (w, [])) (sym mine) refl },
      )

  one_alone : (j : ℕ) (v : Hand V) → get_elem? (first_hand visitor ∷ []) j ≡ some v → 0 < v.parts → v.visitor ≡ Some visitor
  one_alone zero v e some_part = ap (λ (z : Hand V). z.visitor) (sym (some-injective (first_hand visitor) v e))
  one_alone (suc j) v e some_part = absurd (some-ne-none v (sym e))

  -- at the start all are at home
  pub opens : (words : List ℕ) (values : List S) → length words ≡ length values → ((g : ℕ) → get_or words g 0 ≡ 0) → ((g : ℕ) (x : S) → get_elem? (map some values) g ≡ some (some x) → keeps visitor g x)
      → IsPlaces keeps visitor (opening words values (first_hand visitor))
  opens words values long zeros kept = record {
    size = long ∙ sym (length-map values (λ (y : S). some y));
    parts = refl;
    one_visitor = one_alone;
    home = λ g lt e. let l = length-map values (λ (y : S). some y) in let h = some_there values g (omega arith) in record { value = h.0; stands = h.1; kept = kept g h.0 h.1 };
    out = λ g lt ne. absurd (ne (zeros g));
  }

  -- a seat that has all parts and no value knows that all values are at home
  pub all_home : (s : State S (Hand V)) (id : ℕ) (v : Hand V) → IsPlaces keeps visitor s → get_elem? s.views id ≡ some v → v.holds ≡ false → v.parts ≡ all_parts
      → (g : ℕ) → g < length s.homes → IsHome keeps visitor s.homes g
  all_home s id v k at idle all g lt = dite (ℕ_discrete (get_or s.words g 0) 0) (k.home g lt)
      (λ ne. let o = k.out g lt ne in let apart = other_seat s.views id g v at (λ e. absurd (true≢false (sym e ∙ idle))) o in
      let h = two_parts s.views o.seat id o.view v apart o.sits at in let p = o.part in let t = k.parts in absurd (omega arith))

  -- a seat with parts to spare, which has no value, is cut in two
  pub splits : (id : ℕ) (v : Hand V) → v.holds ≡ false → 1 < v.parts → Splits (IsPlaces keeps visitor) id v (with_parts v (v.parts - 1)) (with_parts v 1)
  splits id v idle more s k at = let l : Hand V = with_parts v (v.parts - 1) in let r : Hand V = with_parts v 1 in let vs : List (Hand V) = set s.views id l in record {
    size = k.size;
    parts = let t = total_set s.views id v l at in let u = total_snoc vs r in let p = k.parts in omega arith;
    one_visitor = all_snoc (λ u. 0 < u.parts → u.visitor ≡ Some visitor) vs r (λ _. k.one_visitor id v at (omega arith)) (all_set (λ u. 0 < u.parts → u.visitor ≡ Some visitor) s.views id l (λ _. k.one_visitor id v at (omega arith)) k.one_visitor);
    home = k.home;
    out = λ g lt ne. let o = still_out s.views id g v l at (λ e. absurd (true≢false (sym e ∙ idle))) (k.out g lt ne) in record {
      seat = o.seat;
      view = o.view;
      sits = at_longer vs (r ∷ []) o.seat o.view o.sits;
      holds = o.holds;
      there = o.there;
      part = o.part;
    };
  }

  -- and two that have no value are put together
  pub joins : (id : ℕ) (v : Hand V) (other : ℕ) (u : Hand V) → v.holds ≡ false → u.holds ≡ false → 0 < v.parts
      → Joins (IsPlaces keeps visitor) id v other u (with_parts v (v.parts + u.parts)) spent_hand
  joins id v other u idle too some_part s k at ne there = let b : Hand V = with_parts v (v.parts + u.parts) in let n : Hand V = spent_hand in let vs : List (Hand V) = set s.views id b in record {
    size = k.size;
    parts = let t = total_set s.views id v b at in let q = total_set vs other u n there in let p = k.parts in omega arith;
    one_visitor = all_set (λ u. 0 < u.parts → u.visitor ≡ Some visitor) vs other n (λ none. absurd (omega arith)) (all_set (λ u. 0 < u.parts → u.visitor ≡ Some visitor) s.views id b (λ _. k.one_visitor id v at some_part) k.one_visitor);
    home = k.home;
    out = λ g lt nz. still_out vs other g u n there (λ e. absurd (true≢false (sym e ∙ too))) (still_out s.views id g v b at (λ e. absurd (true≢false (sym e ∙ idle))) (k.out g lt nz));
  }

  -- a value behind a lock is the value at its place
  inner : (xs : List S) (g : ℕ) (x : S) → get_elem? (map some xs) g ≡ some (some x) → (g < length xs) × (get_or xs g x ≡ x)
  inner [] g x e = absurd (some-ne-none (some x) (sym e))
  inner (y ∷ ys) zero x e = (omega arith, some-injective y x (some-injective (some y) (some x) e))
  inner (y ∷ ys) (suc g) x e = let h = inner ys g x e in (omega (arith, h.0), h.1)

  abbrev zeros_of : ℕ → List ℕ
  zeros_of n = replicate n 0

  no_word : (n g : ℕ) → get_or (zeros_of n) g 0 ≡ 0
  no_word n g = ⊎_elim (λ (below : g < n). get_or-replicate n g 0 0 below)
      (λ (past : n ≤ g). let l : length (zeros_of n) ≡ n = length-replicate n 0 in get_or_past (zeros_of n) g 0 (omega arith)) (cases_lt g n)

  -- at the start the rule holds
  pub opens_kept : (zeros : List ℕ) (values : List S) → zeros ≡ replicate (length values) 0 → AreKept keeps visitor values → IsPlaces keeps visitor (opening zeros values (first_hand visitor))
  opens_kept zeros values e kept = opens zeros values (ap length e ∙ length-replicate (length values) 0) (λ g. ap (λ ws. get_or ws g 0) e ∙ no_word (length values) g)
      (λ g x at. let h = inner values g x at in subst (λ z. keeps visitor g z) h.1 (kept g x h.0))

  -- at the end each value keeps its fact, where a seat has all parts
  pub closed_kept : (words : List ℕ) (values : List S) (id : ℕ) (v : Hand V) → Final (Seen (IsPlaces keeps visitor) id v) words values → v.holds ≡ false → v.parts ≡ all_parts → AreKept keeps visitor values
  closed_kept words values id v f idle all g d lt = let long = f.3 in let h = all_home f.0 id v f.1.0 f.1.1 idle all g (omega arith) in
      subst (λ z. keeps visitor g z) (sym (read values g h.value d (f.4 g h.value h.stands))) h.kept
