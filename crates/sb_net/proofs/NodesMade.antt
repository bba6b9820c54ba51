-- The nodes of a network are made one after another.
use Rattle.std.proofs.Common.{◌≡◌, ℕ, zero, suc, ◌+◌, ◌<◌, List, [], ◌∷◌, ◌++◌, length, drop, sym, ap, ◌∙◌, subst, arith}
use Rattle.std.specs.Prelude.{get_or}
use Rattle.std.proofs.Math.ListN.{get_or-append}
use Rattle.std.proofs.lemmas.List.{length-append}
use Rattle.sb_link.specs.declared.ends.RxEnd as rx
use Rattle.sb_link.specs.declared.ends.TxEnd as tx
use Rattle.sb_packet.specs.Networks.{Network}
use Rattle.sb_port.specs.declared.leg.InLeg.{InLeg}
use Rattle.sb_port.specs.declared.leg.OutLeg.{OutLeg}
use Rattle.sb_member.specs.Joints.{no_node}
use Rattle.sb_member.specs.declared.member.Member.{Member}
use Rattle.sb_net.specs.Legs.{AreMadeAt, IsMadeAt, pile_at}
use Rattle.sb_net.proofs.LegsMade.{below_or_last}
use Rattle.sb_net.proofs.LinkPlaces.{last_of_list}

-- the first of what is left of a list stands behind what was taken
pub record IsNextOf {A : Type 0} (xs : List A) (n : ℕ) (x : A) (rest : List A) : Type 0 where
  pub below : n < length xs
  pub at : (d : A) → get_or xs n d ≡ x
  pub left : rest ≡ drop (suc n) xs

pub next_of : {A : Type 0} (xs : List A) (n : ℕ) (x : A) (rest : List A) → drop n xs ≡ x ∷ rest → IsNextOf xs n x rest
next_of [] zero x rest e = absurd (let long = ap (λ ys. length ys) e in omega (arith, long))
next_of [] (suc n) x rest e = absurd (let long = ap (λ ys. length ys) e in omega (arith, long))
next_of (y ∷ xs) zero x rest e = record { below = omega arith; at = λ d. cc; left = cc }
next_of (y ∷ xs) (suc n) x rest e = let p = next_of xs n x rest e in let low = p.below in record { below = omega (arith, low); at = p.at; left = p.left }

module _ {F T U : Type 0} (tx : tx.Ghosts T) (rx : rx.Ghosts U) (network : Network) (outs : List (List (OutLeg F T U))) (ins : List (List (InLeg F T U))) where
  pub none_made : (nodes : List (Member F T U)) → nodes ≡ [] → AreMadeAt tx rx network 0 outs ins nodes
  none_made nodes e = record { count = ap (λ list. length list) e; each = λ m lt. absurd (omega (arith, lt)) }

  -- one node more is made
  pub made_more : (n m : ℕ) (nodes nodes_then : List (Member F T U)) (node : Member F T U) → m ≡ n + 1 → AreMadeAt tx rx network n outs ins nodes → IsMadeAt tx rx network n (pile_at outs n) (pile_at ins n) node
      → nodes_then ≡ nodes ++ node ∷ [] → AreMadeAt tx rx network m outs ins nodes_then
  made_more n m nodes nodes_then node next made one is =
      let many = made.count in
      subst (λ m. AreMadeAt tx rx network m outs ins nodes_then) (sym next) (subst (AreMadeAt tx rx network (n + 1) outs ins) (sym is) (record {
        count = length-append nodes (node ∷ []) ∙ ap (λ k. k + 1) many;
        each = λ k lt. below_or_last k n lt
            (λ less. subst (IsMadeAt tx rx network k (pile_at outs k) (pile_at ins k)) (sym (get_or-append nodes (node ∷ []) no_node k (omega (arith, less, many)))) (made.each k less))
            (λ last. subst (λ k. IsMadeAt tx rx network k (pile_at outs k) (pile_at ins k) (get_or (nodes ++ node ∷ []) k no_node)) (sym last)
            (subst (IsMadeAt tx rx network n (pile_at outs n) (pile_at ins n)) (sym (last_of_list nodes node no_node n many)) one));
      }))
