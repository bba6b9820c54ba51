-- The legs of one link more are dealt to its nodes.
use Rattle.std.proofs.Common.{◌≡◌, ◌≢◌, ℕ, suc, ◌<◌, ◌==◌, List, [], ◌∷◌, ◌++◌, length, refl, sym, ap, ◌∙◌, arith, subst}
use Rattle.std.specs.Prelude.{map, set, get_or}
use Rattle.std.proofs.Math.ListN.{get_or-append}
use Rattle.std.proofs.lemmas.Bool.{eqb-true, eqb-false}
use Rattle.std.proofs.lemmas.List.{get_or-set_other, get_or-set_same, length-map, length-set, map-append}
use Rattle.sb_link.specs.declared.ends.RxEnd as rx
use Rattle.sb_link.specs.declared.ends.TxEnd as tx
use Rattle.sb_packet.specs.Networks.{Network}
use Rattle.sb_port.specs.declared.leg.InLeg.{InLeg}
use Rattle.sb_port.specs.declared.leg.OutLeg.{OutLeg}
use Rattle.sb_member.specs.declared.joint.Joint.{Joint}
use Rattle.sb_net.specs.Legs.{AreDealt, AreLegsOf, links_at, node_after, node_before, pile_at, place_at_node}
use Rattle.sb_net.specs.Standing.{node_count}
use Rattle.sb_net.proofs.LegsMade.{below_or_last}
use Rattle.sb_net.proofs.LinkPlaces.{by_value, last_of_list, links_with, links_without, placed}

-- the ends of links are nodes of the network
pub record AreEndsNodes (network : Network) : Type 0 where
  pub before : (k : ℕ) → k < length network.links → node_before network k < node_count network
  pub after : (k : ℕ) → k < length network.links → node_after network k < node_count network

module _ {A : Type 0} (piles piles_then : List (List A)) (s : ℕ) (a : A) (within : s < length piles) (is : piles_then ≡ set piles s (pile_at piles s ++ a ∷ [])) where
  dealt_here : pile_at piles_then s ≡ pile_at piles s ++ a ∷ []
  dealt_here = ap (λ list. get_or list s []) is ∙ get_or-set_same piles s (pile_at piles s ++ a ∷ []) [] within

  dealt_other : (m : ℕ) → m ≢ s → pile_at piles_then m ≡ pile_at piles m
  dealt_other m n = ap (λ list. get_or list m []) is ∙ get_or-set_other piles s m (pile_at piles s ++ a ∷ []) [] n

  dealt_last : (o : ℕ) (d : A) → o ≡ length (pile_at piles s) → get_or (pile_at piles_then s) o d ≡ a
  dealt_last o d e = ap (λ list. get_or list o d) dealt_here ∙ last_of_list (pile_at piles s) a d o (sym e)

  dealt_keeps : (m o : ℕ) (d : A) → o < length (pile_at piles m) → get_or (pile_at piles_then m) o d ≡ get_or (pile_at piles m) o d
  dealt_keeps m o d below = by_value (m == s)
      (λ e. let same = eqb-true m s e in
      let inside : o < length (pile_at piles s) = subst (λ i. o < length (pile_at piles i)) same below in
      ap (λ i. get_or (pile_at piles_then i) o d) same ∙ ap (λ list. get_or list o d) dealt_here ∙ get_or-append (pile_at piles s) (a ∷ []) d o inside ∙ sym (ap (λ i. get_or (pile_at piles i) o d) same))
      (λ e. ap (λ list. get_or list o d) (dealt_other m (eqb-false m s e)))

  dealt_links : (link : A → ℕ) (node : ℕ → ℕ) (n m : ℕ) → node n ≡ s → link a ≡ n → map link (pile_at piles m) ≡ links_at node n m → map link (pile_at piles_then m) ≡ links_at node (suc n) m
  dealt_links link node n m at of_n here = by_value (node n == m)
      (λ e. let same : s ≡ m = sym at ∙ eqb-true (node n) m e in
      ap (λ i. map link (pile_at piles_then i)) (sym same) ∙ ap (map link) dealt_here ∙ map-append link (pile_at piles s) (a ∷ []) ∙ ap (λ i. map link (pile_at piles i) ++ link a ∷ []) same
      ∙ ap (λ list. list ++ link a ∷ []) here ∙ ap (λ k. links_at node n m ++ k ∷ []) of_n ∙ sym (links_with node n m (eqb-true (node n) m e)))
      (λ e. let other : m ≢ s = λ q. eqb-false (node n) m e (at ∙ sym q) in
      ap (map link) (dealt_other m other) ∙ here ∙ sym (links_without node n m e))

-- each link's leg has its place in the pile of its node
pub leg_below : {A : Type 0} (link : A → ℕ) (node : ℕ → ℕ) (n k m : ℕ) (pile : List A) → map link pile ≡ links_at node n m → k < n → node k ≡ m → place_at_node node k < length pile
leg_below link node n k m pile here lt at = let bound = placed node n m k lt at in
    let b = bound.below in omega (arith, b, ap (λ (xs : List ℕ). length xs) here, length-map pile link)

-- a thing's place is behind the others
pub pile_long : {A : Type 0} (piles : List (List A)) (link : A → ℕ) (node : ℕ → ℕ) (n : ℕ) → map link (pile_at piles (node n)) ≡ links_at node n (node n) → length (pile_at piles (node n)) ≡ place_at_node node n
pile_long piles link node n here = sym (length-map (pile_at piles (node n)) link) ∙ ap (λ (xs : List ℕ). length xs) here

module _ {F T U : Type 0} (tx : tx.Ghosts T) (rx : rx.Ghosts U) (network : Network) (ends : AreEndsNodes network) where
  pub dealt_more : (n m : ℕ) (outs outs_then : List (List (OutLeg F T U))) (ins ins_then : List (List (InLeg F T U))) (out : OutLeg F T U) (into : InLeg F T U)
      → n < length network.links → m ≡ suc n → AreDealt tx rx network n outs ins → AreLegsOf tx rx network n out into
      → outs_then ≡ set outs (node_before network n) (pile_at outs (node_before network n) ++ out ∷ [])
      → ins_then ≡ set ins (node_after network n) (pile_at ins (node_after network n) ++ into ∷ []) → AreDealt tx rx network m outs_then ins_then
  dealt_more n m outs outs_then ins ins_then out into there next dealt legs outs_are ins_are = subst (λ m. AreDealt tx rx network m outs_then ins_then) (sym next) (record {
    out_piles = ap (λ (list : List (List (OutLeg F T U))). length list) outs_are ∙ length-set outs (node_before network n) (pile_at outs (node_before network n) ++ out ∷ []) ∙ dealt.out_piles;
    in_piles = ap (λ (list : List (List (InLeg F T U))). length list) ins_are ∙ length-set ins (node_after network n) (pile_at ins (node_after network n) ++ into ∷ []) ∙ dealt.in_piles;
    outs_here = λ m below. dealt_links outs outs_then (node_before network n) out from outs_are (λ (leg : OutLeg F T U). leg.link) (node_before network) n m refl legs.out_link (dealt.outs_here m below);
    ins_here = λ m below. dealt_links ins ins_then (node_after network n) into to ins_are (λ (leg : InLeg F T U). leg.link) (node_after network) n m refl legs.in_link (dealt.ins_here m below);
    legs = λ k a b below. below_or_last k n (omega (arith, below))
        (λ less. let low : k < length network.links = omega (arith, less, there) in
        subst (λ x. AreLegsOf tx rx network k x (get_or (pile_at ins_then (node_after network k)) (place_at_node (node_after network) k) b))
        (sym (dealt_keeps outs outs_then (node_before network n) out from outs_are (node_before network k) (place_at_node (node_before network) k) a
        (leg_below (λ (leg : OutLeg F T U). leg.link) (node_before network) n k (node_before network k) (pile_at outs (node_before network k)) (dealt.outs_here (node_before network k) (ends.before k low)) less refl)))
        (subst (λ x. AreLegsOf tx rx network k (get_or (pile_at outs (node_before network k)) (place_at_node (node_before network) k) a) x)
        (sym (dealt_keeps ins ins_then (node_after network n) into to ins_are (node_after network k) (place_at_node (node_after network) k) b
        (leg_below (λ (leg : InLeg F T U). leg.link) (node_after network) n k (node_after network k) (pile_at ins (node_after network k)) (dealt.ins_here (node_after network k) (ends.after k low)) less refl)))
        (dealt.legs k a b less)))
        (λ last. subst (λ i. AreLegsOf tx rx network i (get_or (pile_at outs_then (node_before network i)) (place_at_node (node_before network) i) a) (get_or (pile_at ins_then (node_after network i)) (place_at_node (node_after network) i) b)) (sym last)
        (subst (λ x. AreLegsOf tx rx network n x (get_or (pile_at ins_then (node_after network n)) (place_at_node (node_after network) n) b))
        (sym (dealt_last outs outs_then (node_before network n) out from outs_are (place_at_node (node_before network) n) a (sym (pile_long outs (λ (leg : OutLeg F T U). leg.link) (node_before network) n (dealt.outs_here (node_before network n) (ends.before n there))))))
        (subst (λ x. AreLegsOf tx rx network n out x)
        (sym (dealt_last ins ins_then (node_after network n) into to ins_are (place_at_node (node_after network) n) b (sym (pile_long ins (λ (leg : InLeg F T U). leg.link) (node_after network) n (dealt.ins_here (node_after network n) (ends.after n there))))))
        legs)));
  })
    where
      from : node_before network n < length outs
      from = let e = dealt.out_piles in let b = ends.before n there in omega (arith, e, b)

      to : node_after network n < length ins
      to = let e = dealt.in_piles in let b = ends.after n there in omega (arith, e, b)

-- joints with the same numbers are the same
pub joint_with : (from out to into : ℕ) (j : Joint) → from ≡ j.from → out ≡ j.out → to ≡ j.to → into ≡ j.into → record { from = from; out = out; to = to; into = into } ≡ j
joint_with from out to into j a b c d =
    ap (λ (x : ℕ). make x out to into) a ∙ ap (λ (x : ℕ). make j.from x to into) b ∙ ap (λ (x : ℕ). make j.from j.out x into) c ∙ ap (λ (x : ℕ). make j.from j.out j.to x) d
  where
    make : ℕ → ℕ → ℕ → ℕ → Joint
    make from out to into = record { from = from; out = out; to = to; into = into }
