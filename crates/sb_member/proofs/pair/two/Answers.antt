-- The two halves of the list are put together again.
use Rattle.std.proofs.Common.{◌≡◌, ℕ, ◌<◌, ◌-◌, List, ◌++◌, length, set, refl, sym, ap, ◌∙◌, arith}
use Rattle.std.specs.Prelude.{slice_index_or}
use Rattle.std.proofs.lemmas.List.{set-append_left, set-append_right, length-set, get_or-append_right}
use Rattle.std.proofs.Math.ListN.{get_or-append}
use Rattle.sb_member.proofs.pair.two.Goals as goal

both_set : {A : Type 0} (list front back : List A) (low high : ℕ) (x y : A) → front ++ back ≡ list → length front ≡ high → low < high → set front low x ++ set back 0 y ≡ set (set list low x) high y
both_set list front back low high x y is len lt =
    let n : high - high ≡ 0 = omega arith in
    sym (ap (λ xs. set (set xs low x) high y) (sym is)
    ∙ ap (λ xs. set xs high y) (set-append_left front back low x (omega (arith, lt, len)))
    ∙ set-append_right (set front low x) back high high y (length-set front low x ∙ len) (omega arith)
    ∙ ap (λ k. set front low x ++ set back k y) n)

pub returns : goal.returns
returns g c =
    let s = c.split_at_mut-front in
    let list = c.args.list.now in
    let front = s.result.0.now in
    let back = s.result.1.now in
    let low = c.args.low in
    let high = c.args.high in
    let a = c.index-front-low.result in
    let b = c.index-back-0.result in
    let len : length front ≡ high = s.ensures.front_len in
    let order = c.requires.order in (
      ((refl, refl), λ x y. both_set list front back low high x y (sym s.ensures.value) len order),
      record {
        first = c.index-front-low.is ∙ sym (get_or-append front back a low (omega (arith, order, len))) ∙ ap (λ xs. slice_index_or xs low a) (sym s.ensures.value);
        second = c.index-back-0.is ∙ ap (λ k. slice_index_or back k b) (zero_is high) ∙ sym (get_or-append_right front back high high b len (omega arith)) ∙ ap (λ xs. slice_index_or xs high b) (sym s.ensures.value);
        writes_back = tt;
      },
    )
  where
    zero_is : (n : ℕ) → 0 ≡ n - n
    zero_is n = omega arith
