-- Each place is taken once.
use Rattle.std.proofs.Common.{◌≡◌, ◌<◌, ◌∙◌, length, refl, sym, ap, arith, subst, set, false, ◌∷◌, [], ◌+◌, vec_capacity, length-append}
use Rattle.std.proofs.lemmas.List.{length-set}
use Rattle.std.specs.Slots.{slots_counts, slots_filled}
use mathlib.Core.Option.{some}
use lib.ListN.{get_elem?}
use Rattle.sb_places.specs.Taken.{place_count, values_of}
use Rattle.sb_places.proofs.Taking.{IsTaking, take_next}
use Rattle.sb_places.proofs.gather.take_all.Goals as goal

pub loop-place-init : goal.loop-place-init
loop-place-init g c = (
  record {
    within = omega arith;
    long = sym (slots_counts c.args.closed.slots).1;
    taken = ap length c.requires.room.0;
    same = λ k d lt. absurd (omega arith);
    there = c.requires.full;
    gone = λ k lt. absurd (omega arith);
  },
  refl,
  refl,
  refl,
)

pub take-requires : goal.take-requires
take-requires g c = let i = c.loop-place.invariant in let lt : c.loop-place.place < place_count c.args.closed = omega (arith, c.loop-place-test.true, c.slot_count-count.ensures) in
    let e = i.2 in (omega (arith, e, lt), i.0.there c.loop-place.place (omega arith) lt)

pub loop-place-preserved : goal.loop-place-preserved
loop-place-preserved g c = let i = c.loop-place.invariant in let o = c.take.ensures.others in let p = c.push_reserved.ensures in
    let lt : c.loop-place.place < place_count c.args.closed = omega (arith, c.loop-place-test.true, c.slot_count-count.ensures) in
    let xs = values_of c.args.closed in let fs = slots_filled c.loop-place.closed.slots in let ys = c.loop-place.back.items in let n = place_count c.args.closed in let cap = vec_capacity c.args.back in
    let at : get_elem? xs c.loop-place.place ≡ some c.take.result = subst (λ zs. get_elem? zs c.loop-place.place ≡ some c.take.result) i.1 c.take.ensures.value in
    let t = take_next n cap c.loop-place.place xs fs ys c.take.result i.0 lt at (length-set fs c.loop-place.place false ∙ i.0.long) (let l = i.0.taken in omega (arith, length-append ys (c.take.result ∷ []), l)) in (
      subst (λ gs. IsTaking n cap (c.loop-place.place + 1) xs gs c.push_reserved.new.self.items) (sym o.1)
          (subst (λ zs. IsTaking n cap (c.loop-place.place + 1) xs (set fs c.loop-place.place false) zs) (sym p.items) t),
      o.0 ∙ i.1,
      o.2 ∙ i.2,
      p.capacity ∙ i.3,
    )
