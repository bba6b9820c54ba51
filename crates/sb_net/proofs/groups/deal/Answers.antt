-- The next node is dealt to the group of its number.
use Rattle.std.proofs.Common.{◌≡◌, ◌<◌, ◌+◌, ◌++◌, ◌∷◌, [], ℕ, zero, suc, List, length, drop, set, take, ◌%◌, sym, ap, subst, ◌∙◌, arith}
use Rattle.sb_member.specs.declared.member.Member.{Member}
use Rattle.sb_member.proofs.Dealing.{HasDealt, dealt_more, none_dealt}
use Rattle.sb_net.proofs.NodesMade.{next_of}
use Rattle.sb_net.proofs.groups.deal.Goals as goal

-- the first nodes and the next one
first_more : {A : Type 0} (xs : List A) (n : ℕ) (x : A) (rest : List A) → drop n xs ≡ x ∷ rest → take (n + 1) xs ≡ take n xs ++ x ∷ []
first_more xs n x rest e =
    let next : n + 1 ≡ suc n = omega arith in
    ap (λ k. take k xs) next ∙ by_place xs n x rest e
  where
    by_place : {A : Type 0} (xs : List A) (n : ℕ) (x : A) (rest : List A) → drop n xs ≡ x ∷ rest → take (suc n) xs ≡ take n xs ++ x ∷ []
    by_place [] zero x rest e = absurd (let long = ap (λ ys. length ys) e in omega (arith, long))
    by_place [] (suc n) x rest e = absurd (let long = ap (λ ys. length ys) e in omega (arith, long))
    by_place (y ∷ ys) zero x rest e = let same : y ≡ x = cc in ap (λ z. z ∷ []) same
    by_place (y ∷ ys) (suc n) x rest e = ap (λ list. y ∷ list) (by_place ys n x rest e)

pub loop-number-init : goal.loop-number-init
loop-number-init g c = record {
  rest = c.into_iter-nodes.ensures.rest;
  dealt = none_dealt c.in_ok-groups.groups.items c.args.count c.requires.some c.in_ok-groups.ensures.groups;
}

pub loop-number-preserved : goal.loop-number-preserved
loop-number-preserved g c =
    let n = c.loop-number.number in
    let all = c.args.nodes.items in
    let left = sym c.loop-number.invariant.rest ∙ c.in-Some.ensures.items in
    let next = next_of all n c.in-Some.node c.next.new.self.rest.items left in
    let same : suc n ≡ n + 1 = omega arith in
    record {
      rest = next.left ∙ ap (λ k. drop k all) same;
      dealt = subst (λ list. HasDealt (set c.loop-number.groups.items (n % c.args.count) c.add_node.new.group) (n + 1) c.args.count list) (sym (first_more all n c.in-Some.node c.next.new.self.rest.items left))
          (dealt_more c.loop-number.groups.items n c.args.count (take n all) c.index_mut-group.result.now c.add_node.new.group c.in-Some.node c.loop-number.invariant.dealt
          c.index_mut-group.ensures.value c.in_ok-add_node.ensures.added);
    }
