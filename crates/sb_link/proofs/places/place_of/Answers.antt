-- place_of: the first row of the ring is found.
use Rattle.std.proofs.Common.{◌≡◌, ℕ, ◌+◌, ◌<◌, ◌≤◌, ap, ◌∙◌, sym, arith, ⊎_elim, subst}
use Rattle.std.specs.Prelude.{Some, slice_get}
use Rattle.std.proofs.lemmas.Bool.{cases_lt}
use Rattle.sb_link.specs.declared.registered_ring.RegisteredRing.{RegisteredRing}
use Rattle.sb_link.proofs.Rows.{get_below, get_same}
use Rattle.sb_link.proofs.places.place_of.Goals as goal

pub loop-at-preserved : goal.loop-at-preserved
loop-at-preserved g c = let rows = c.args.rows.now in let at : ℕ = c.loop-at.at in let made = c.requires.made in
    let miss : (j : ℕ) (r : RegisteredRing g.row.E.Denot) → j < at + 1 → slice_get rows j ≡ Some r → r.plan.ring ≡ c.args.ring → ⊥ = (λ j r lt e same.
    ⊎_elim (λ (l : j < at). c.loop-at.invariant.1 j r l e same)
    (λ (ge : at ≤ j). let is : j ≡ at = omega arith in
    c.loop-at-test.true (ap (λ (x : RegisteredRing g.row.E.Denot). x.plan.ring) (sym (get_same rows at r c.index-rows-at.result (subst (λ k. slice_get rows k ≡ Some r) is e))) ∙ same))
    (cases_lt j at)) in
    let k = made.0 in let b = get_below rows k made.1 made.2 in
    let far : at + 1 ≤ k = ⊎_elim (λ (l : k < at + 1). absurd (miss k made.1 l made.2 made.3)) (λ z. z) (cases_lt k (at + 1)) in
    (omega arith, miss)

pub returns-clause-place : goal.returns-clause-place
returns-clause-place g c = let rows = c.args.rows.now in record {
  here = λ r e. ap (λ (x : RegisteredRing g.row.E.Denot). x.plan.ring) (get_same rows c.loop-at.at r c.index-rows-at.result e) ∙ c.loop-at-test.false;
  first = c.loop-at.invariant.1;
}
