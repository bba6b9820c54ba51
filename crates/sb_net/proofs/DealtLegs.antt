-- The legs in a node's piles are those of its links.
use Rattle.std.proofs.Common.{◌≡◌, ℕ, zero, suc, ◌<◌, List, [], ◌∷◌, length, refl, sym, ap, ◌∙◌, subst, arith}
use Rattle.std.specs.Prelude.{get_or}
use Rattle.std.proofs.lemmas.List.{length-map}
use Rattle.sb_link.specs.declared.ends.RxEnd as rx
use Rattle.sb_link.specs.declared.ends.TxEnd as tx
use Rattle.sb_packet.specs.Networks.{Network}
use Rattle.sb_flow.specs.Rings.{ring_plan}
use Rattle.sb_port.specs.declared.leg.InLeg.{InLeg}
use Rattle.sb_port.specs.declared.leg.OutLeg.{OutLeg}
use Rattle.sb_laws.specs.NetworkLayouts.{answer_ring, request_ring}
use Rattle.sb_net.specs.Legs.{AreDealt, AreLegsAt, AreLegsOf, IsInLeg, IsOutLeg, links_at, node_after, node_before, pile_at, place_at_node}
use Rattle.sb_net.specs.Standing.{node_count}
use Rattle.sb_net.proofs.Dealing.{AreEndsNodes, leg_below}
use Rattle.sb_net.proofs.LinkPlaces.{at_place}

-- the thing at a place of a list
item_at : {A : Type 0} (xs : List A) (o : ℕ) → o < length xs → A
item_at [] o lt = absurd (omega (arith, lt))
item_at (x ∷ xs) zero lt = x
item_at (x ∷ xs) (suc o) lt = item_at xs o (omega (arith, lt))

module _ {F T U : Type 0} (tx : tx.Ghosts T) (rx : rx.Ghosts U) (network : Network) (ends : AreEndsNodes network) (outs : List (List (OutLeg F T U))) (ins : List (List (InLeg F T U))) (dealt : AreDealt tx rx network (length network.links) outs ins) where
  -- a link's legs stand in the piles of its nodes
  pub out_below : (k : ℕ) → k < length network.links → place_at_node (node_before network) k < length (pile_at outs (node_before network k))
  out_below k lt = leg_below (λ (leg : OutLeg F T U). leg.link) (node_before network) (length network.links) k (node_before network k) (pile_at outs (node_before network k)) (dealt.outs_here (node_before network k) (ends.before k lt)) lt refl

  pub in_below : (k : ℕ) → k < length network.links → place_at_node (node_after network) k < length (pile_at ins (node_after network k))
  in_below k lt = leg_below (λ (leg : InLeg F T U). leg.link) (node_after network) (length network.links) k (node_after network k) (pile_at ins (node_after network k)) (dealt.ins_here (node_after network k) (ends.after k lt)) lt refl

  pub any_out : (k : ℕ) → k < length network.links → OutLeg F T U
  any_out k lt = item_at (pile_at outs (node_before network k)) (place_at_node (node_before network) k) (out_below k lt)

  pub any_in : (k : ℕ) → k < length network.links → InLeg F T U
  any_in k lt = item_at (pile_at ins (node_after network k)) (place_at_node (node_after network) k) (in_below k lt)

  -- what stands at a place of a pile is the leg of a link with that place
  pub record IsOutAt (m o k : ℕ) : Type 0 where
    pub below : k < length network.links
    pub node : node_before network k ≡ m
    pub place : place_at_node (node_before network) k ≡ o

  pub record IsInAt (m o k : ℕ) : Type 0 where
    pub below : k < length network.links
    pub node : node_after network k ≡ m
    pub place : place_at_node (node_after network) k ≡ o

  pub out_at : (m o : ℕ) → m < node_count network → o < length (pile_at outs m) → (k : ℕ) × IsOutAt m o k
  out_at m o low lt =
      let inside : o < length (links_at (node_before network) (length network.links) m) = omega (arith, lt, ap (λ (xs : List ℕ). length xs) (dealt.outs_here m low), length-map (pile_at outs m) (λ (leg : OutLeg F T U). leg.link)) in
      let p = at_place (node_before network) (length network.links) m o 0 inside in
      (get_or (links_at (node_before network) (length network.links) m) o 0, record { below = p.below; node = p.at; place = p.place })

  pub in_at : (m o : ℕ) → m < node_count network → o < length (pile_at ins m) → (k : ℕ) × IsInAt m o k
  in_at m o low lt =
      let inside : o < length (links_at (node_after network) (length network.links) m) = omega (arith, lt, ap (λ (xs : List ℕ). length xs) (dealt.ins_here m low), length-map (pile_at ins m) (λ (leg : InLeg F T U). leg.link)) in
      let p = at_place (node_after network) (length network.links) m o 0 inside in
      (get_or (links_at (node_after network) (length network.links) m) o 0, record { below = p.below; node = p.at; place = p.place })

  out_leg : (k : ℕ) (leg : OutLeg F T U) (into : InLeg F T U) → k < length network.links → AreLegsOf tx rx network k leg into → IsOutLeg tx rx network leg
  out_leg k leg into lt legs = record {
    there = subst (λ k. k < length network.links) (sym legs.out_link) lt;
    asks = legs.asks ∙ ap (λ k. ring_plan network (request_ring k)) (sym legs.out_link);
    learns = legs.learns ∙ ap (λ k. ring_plan network (answer_ring k)) (sym legs.out_link);
    unasked = legs.unasked;
    unlearnt = legs.unlearnt;
  }

  in_leg : (k : ℕ) (out : OutLeg F T U) (leg : InLeg F T U) → k < length network.links → AreLegsOf tx rx network k out leg → IsInLeg tx rx network leg
  in_leg k out leg lt legs = record {
    there = subst (λ k. k < length network.links) (sym legs.in_link) lt;
    hears = legs.hears ∙ ap (λ k. ring_plan network (request_ring k)) (sym legs.in_link);
    tells = legs.tells ∙ ap (λ k. ring_plan network (answer_ring k)) (sym legs.in_link);
    unheard = legs.unheard;
    untold = legs.untold;
  }

  -- so they are all legs of the node
  pub legs_at : (m : ℕ) → m < node_count network → AreLegsAt tx rx network m (pile_at outs m) (pile_at ins m)
  legs_at m low = record {
    outs_here = dealt.outs_here m low;
    ins_here = dealt.ins_here m low;
    outs_fresh = λ o d lt.
        let p = out_at m o low lt in
        let k = p.0 in
        let here = p.1 in
        subst (λ o. IsOutLeg tx rx network (get_or (pile_at outs m) o d)) here.place
        (subst (λ m. IsOutLeg tx rx network (get_or (pile_at outs m) (place_at_node (node_before network) k) d)) here.node
        (out_leg k (get_or (pile_at outs (node_before network k)) (place_at_node (node_before network) k) d) (get_or (pile_at ins (node_after network k)) (place_at_node (node_after network) k) (any_in k here.below)) here.below (dealt.legs k d (any_in k here.below) here.below)));
    ins_fresh = λ o d lt.
        let p = in_at m o low lt in
        let k = p.0 in
        let here = p.1 in
        subst (λ o. IsInLeg tx rx network (get_or (pile_at ins m) o d)) here.place
        (subst (λ m. IsInLeg tx rx network (get_or (pile_at ins m) (place_at_node (node_after network) k) d)) here.node
        (in_leg k (get_or (pile_at outs (node_before network k)) (place_at_node (node_before network) k) (any_out k here.below)) (get_or (pile_at ins (node_after network k)) (place_at_node (node_after network) k) d) here.below (dealt.legs k (any_out k here.below) d here.below)));
  }
