-- keep: the end comes into the row of its ring, and all else stays.
use Rattle.std.proofs.Common.{ap, ◌∙◌, List}
use Rattle.std.specs.Prelude.{Some, slice_get}
use Rattle.sb_link.specs.RingPlans.{RingPlan}
use Rattle.sb_link.specs.declared.registered_ring.RegisteredRing.{RegisteredRing}
use Rattle.sb_link.proofs.Rows.{get_plan, kept_made, kept_end, kept_others}
use Rattle.sb_link.proofs.ring_registry.RingRegistry.keep.Goals as goal

pub place_of-at-requires : goal.place_of-at-requires
place_of-at-requires g c = let rows = c.args.self.now.rows.items in let made = c.requires.made in let f = get_plan rows made.0 made.1 made.2 in
    record { made = (made.0, f.0, ap (λ (l : List (RegisteredRing g.row.E.Denot)). slice_get l made.0) c.as_slice.ensures.value ∙ f.1, ap (λ (p : RingPlan). p.ring) f.2 ∙ made.3) }

pub returns-clause-made : goal.returns-clause-made
returns-clause-made g c = kept_made c.args.self.now.rows.items c.as_slice.result.now c.place_of-at.result c.args.ring c.index_mut-row.result.now (Some c.args.end) c.as_slice.ensures.value c.place_of-at.ensures.within c.place_of-at.ensures.place c.index_mut-row.ensures.value

pub returns-clause-kept : goal.returns-clause-kept
returns-clause-kept g c = kept_end c.args.self.now.rows.items c.as_slice.result.now c.place_of-at.result c.args.ring c.index_mut-row.result.now (Some c.args.end) c.as_slice.ensures.value c.place_of-at.ensures.within c.place_of-at.ensures.place c.index_mut-row.ensures.value

pub returns-clause-others : goal.returns-clause-others
returns-clause-others g c = kept_others c.args.self.now.rows.items c.as_slice.result.now c.place_of-at.result c.args.ring c.index_mut-row.result.now (Some c.args.end) c.as_slice.ensures.value c.place_of-at.ensures.within c.place_of-at.ensures.place c.index_mut-row.ensures.value
