-- The end of one ring more was put.
use Rattle.std.proofs.Common.{◌≡◌, ◌<◌, ◌++◌, ◌∷◌, [], Some, length, map, set, refl, sym, ap, subst, ◌∙◌}
use Rattle.std.specs.Prelude.{All}
use Rattle.std.specs.Option.{option_map}
use Rattle.std.proofs.lemmas.List.{length-map, map-append, map-set}
use Rattle.std.proofs.lemmas.List.Elements.{All-map}
use Rattle.sb_node.specs.Sides.{ring_side}
use Rattle.sb_net.specs.Apart.{end_places, ring_behind}
use Rattle.sb_net.proofs.PutBy.{next_within, put_next}
use Rattle.sb_net.proofs.settling.apart.put_inlets.Goals as goal

pub loop-inlet-init : goal.loop-inlet-init
loop-inlet-init g c = record {
  same = refl;
  within = subst (λ n. All (λ ring. ring_behind ring < n) (map (λ inlet. inlet.ring) c.args.more.items)) (sym (length-map c.args.ends.now.items (option_map (ring_side g.U.RxEnd))))
      (All-map (λ ring. ring_behind ring < length c.args.ends.now.items) (λ inlet. inlet.ring) c.args.more.items c.requires.within);
}

pub put_end-requires : goal.put_end-requires
put_end-requires g c =
    let is = ap (λ list. map (λ inlet. inlet.ring) list) c.in-Some.ensures.items ∙ map-append (λ inlet. inlet.ring) c.pop.new.self.items (c.in-Some.inlet ∷ []) in
    let lt = next_within ring_behind (map (λ inlet. inlet.ring) c.args.more.items) (end_places g.U.RxEnd c.args.ends.now.items) (map (λ inlet. inlet.ring) c.loop-inlet.more.items)
    (map (λ inlet. inlet.ring) c.pop.new.self.items) c.in-Some.inlet.ring (end_places g.U.RxEnd c.loop-inlet.ends.items) c.loop-inlet.invariant is in
    record {
      within = subst (λ ring. ring.plan.ring < length c.loop-inlet.ends.items) (sym c.into_end.ensures.ring)
          (subst (λ n. c.in-Some.inlet.ring.plan.ring < n) (length-map c.loop-inlet.ends.items (option_map (ring_side g.U.RxEnd))) lt);
    }

pub loop-inlet-preserved : goal.loop-inlet-preserved
loop-inlet-preserved g c =
    let rx = g.U.RxEnd in
    let end = c.into_end.result in
    let is = ap (λ list. map (λ inlet. inlet.ring) list) c.in-Some.ensures.items ∙ map-append (λ inlet. inlet.ring) c.pop.new.self.items (c.in-Some.inlet ∷ []) in
    let put = ap (end_places rx) c.put_end.ensures.put ∙ map-set (option_map (ring_side rx)) c.loop-inlet.ends.items (rx.planned end).ring (Some end)
    ∙ ap (λ ring. set (end_places rx c.loop-inlet.ends.items) (ring_behind ring) (Some ring)) c.into_end.ensures.ring in
    put_next ring_behind (map (λ inlet. inlet.ring) c.args.more.items) (end_places rx c.args.ends.now.items) (map (λ inlet. inlet.ring) c.loop-inlet.more.items)
    (map (λ inlet. inlet.ring) c.pop.new.self.items) c.in-Some.inlet.ring (end_places rx c.loop-inlet.ends.items) (end_places rx c.put_end.new.ends.items) c.loop-inlet.invariant is put
