-- The value that was taken keeps what it is to keep.
use Rattle.std.proofs.Common.{◌≡◌, refl, sym, ap, ◌∙◌, subst}
use Rattle.sb_places.proofs.Taking.{first_is}
use Rattle.sb_places.proofs.place.visit.Goals as goal

pub visit-visited-requires : goal.visit-visited-requires
visit-visited-requires g c = let h = (c.if-not-try_take.ensures.taken refl).taken refl in
    let same : h.0 ≡ c.slot_mut.result.now = first_is (sym (ap (λ m. m.1) h.2) ∙ c.slot_mut.ensures.value) in
    let place = c.args.place in let work = c.args.work.now in
    record {
      kept = subst (λ v. g.V.Visitor.keeps v place c.slot_mut.result.now) (sym work.own)
          (subst (λ x. g.V.Visitor.keeps work.places.now.key place x) same (h.1 work.places.now.key (c.requires.idle.0.same_visitor)));
    }
