-- Of nodes that are dealt to groups, the last one is taken out of its group: the others are dealt as before.
use Rattle.std.proofs.Common.{◌≡◌, ◌≢◌, ℕ, ◌+◌, ◌*◌, ◌/◌, ◌%◌, ◌<◌, List, [], ◌∷◌, ◌++◌, length, set, refl, sym, ap, ◌∙◌, subst, arith}
use Rattle.std.specs.Prelude.{◌↔◌, slice_index_or, sum_by, Option, None, Some, IfNone, IfSome, IsSome}
use Rattle.std.proofs.Math.ListN.{get_or-append}
use Rattle.std.proofs.Math.Seq.{get_or-append_seam}
use Rattle.std.proofs.lemmas.Nat.{div-add-mod', div-mul-add, mod-mul-add}
use Rattle.std.proofs.lemmas.List.{ext_get_or, get_or-set_other, get_or-set_same, length-append, length-map, length-set}
use Rattle.std.proofs.lemmas.List.Sums.{sum_by-set}
use Rattle.sb_drive.specs.declared.group.Group.{Group}
use Rattle.sb_member.specs.Groups.{IsDealt, dealt_nodes, grouped_nodes, node_total, nodes_in}
use Rattle.sb_member.specs.Joints.{no_node, node_at}
use Rattle.sb_member.specs.declared.member.Member.{Member}
use Rattle.sb_member.proofs.Dealt.{group_is, group_there, place_there, regrouped, stands_in, total_of}
use Rattle.sb_member.proofs.RingsJoined.{same_or_not}

module _ {F T U : Type 0} (groups : List (List (Member F T U))) (n : ℕ) (dealt : IsDealt groups) (last : n + 1 ≡ node_total groups) where
  abbrev w : ℕ
  w = length groups

  abbrev g : ℕ
  g = n % w

  below_total : n < node_total groups
  below_total = omega (arith, last)

  -- the last node is the last one of its group
  pub last_in_group : length (nodes_in groups g) ≡ n / w + 1
  last_in_group =
      let there = place_there groups dealt n below_total in
      let some = dealt.some in
      let all = div-add-mod' n w in
      let next : n / w + 1 < length (nodes_in groups g) → (n / w + 1) * w + g < node_total groups = (dealt.numbered g (n / w + 1) (group_there groups dealt n)).0 in
      let more : (n / w + 1) * w ≡ n / w * w + w = omega arith in
      same_or_not (length (nodes_in groups g)) (n / w + 1) (λ e. e) (λ differs. let further = next (omega (arith, there, differs)) in absurd (omega (arith, further, more, all, last, some)))

  module _ (nodes : List (Member F T U)) (x : Member F T U) (is : nodes_in groups g ≡ nodes ++ x ∷ []) where
    abbrev after : List (List (Member F T U))
    after = set groups g nodes

    one_fewer : length nodes ≡ n / w
    one_fewer = let long = last_in_group in let as_list = ap (λ (list : List (Member F T U)). length list) is ∙ length-append nodes (x ∷ []) in omega (arith, long, as_list)

    count_stays : length after ≡ w
    count_stays = length-set groups g nodes

    pub total_after : node_total after ≡ n
    total_after =
        let sums = sum_by-set (λ (list : List (Member F T U)). length list) groups g nodes [] (group_there groups dealt n) in
        let long = last_in_group in let short = one_fewer in
        omega (arith, sums, long, short, last)

    nodes_there : nodes_in after g ≡ nodes
    nodes_there = get_or-set_same groups g nodes [] (group_there groups dealt n)

    nodes_elsewhere : (k : ℕ) → k ≢ g → nodes_in after k ≡ nodes_in groups k
    nodes_elsewhere k differs = get_or-set_other groups g k nodes [] differs

    -- a place that is that of the last number is the last place
    of_last : (k p : ℕ) → k < w → p * w + k ≡ n → (k ≡ g) × (p ≡ n / w)
    of_last k p inside e = (sym (mod-mul-add p w k inside) ∙ ap (λ m. m % w) e, sym (div-mul-add p w k inside) ∙ ap (λ m. m / w) e)

    numbered_there : (p : ℕ) → (p < length nodes) ↔ (p * w + g < n)
    numbered_there p =
        let old = dealt.numbered g p (group_there groups dealt n) in
        let long = last_in_group in let short = one_fewer in let all = div-add-mod' n w in (
          (λ lt. let low = old.0 (omega (arith, lt, long, short)) in same_or_not (p * w + g) n
              (λ e. let same = (of_last g p (group_there groups dealt n) e).1 in absurd (omega (arith, lt, short, same)))
              (λ differs. omega (arith, low, last, differs))),
          (λ low. let lt = old.1 (omega (arith, low, last)) in same_or_not p (n / w)
              (λ e. let same = ap (λ m. m * w + g) e ∙ all in absurd (omega (arith, same, low)))
              (λ differs. omega (arith, lt, long, short, differs))),
        )

    numbered_elsewhere : (k p : ℕ) → k < w → k ≢ g → (p < length (nodes_in groups k)) ↔ (p * w + k < n)
    numbered_elsewhere k p inside differs =
        let old = dealt.numbered k p inside in (
          (λ lt. let low = old.0 lt in same_or_not (p * w + k) n (λ e. absurd (differs (of_last k p inside e).0)) (λ apart. omega (arith, low, last, apart))),
          (λ low. old.1 (omega (arith, low, last))),
        )

    pub dealt_after : IsDealt after
    dealt_after = record {
      some = subst (λ m. 0 < m) (sym count_stays) dealt.some;
      numbered = λ k p inside.
          let here : k < w = subst (λ m. k < m) count_stays inside in
          subst (λ m. (p < length (nodes_in after k)) ↔ (p * m + k < node_total after)) (sym count_stays)
          (subst (λ m. (p < length (nodes_in after k)) ↔ (p * w + k < m)) (sym total_after)
          (same_or_not k g
          (λ e. subst (λ i. (p < length (nodes_in after i)) ↔ (p * w + i < n)) (sym e) (subst (λ (list : List (Member F T U)). (p < length list) ↔ (p * w + g < n)) (sym nodes_there) (numbered_there p)))
          (λ differs. subst (λ (list : List (Member F T U)). (p < length list) ↔ (p * w + k < n)) (sym (nodes_elsewhere k differs)) (numbered_elsewhere k p here differs))));
    }

    long_after : length (dealt_nodes after) ≡ n
    long_after = total_of after ∙ total_after

    -- all nodes are those that are left and the last one
    pub last_taken : dealt_nodes groups ≡ dealt_nodes after ++ x ∷ []
    last_taken =
        let all : length (dealt_nodes groups) ≡ n + 1 = total_of groups ∙ sym last in
        let few = long_after in
        let joined = length-append (dealt_nodes after) (x ∷ []) in
        ext_get_or no_node (dealt_nodes groups) (dealt_nodes after ++ x ∷ []) (omega (arith, all, few, joined))
        (λ k below. let inside : k < n + 1 = subst (λ m. k < m) all below in
        let low : k < node_total groups = omega (arith, inside, last) in
        stands_in groups k low ∙ same_or_not k n
        (λ e. ap (λ m. node_at (nodes_in groups (m % w)) (m / w)) e ∙ ap (λ (list : List (Member F T U)). node_at list (n / w)) is ∙ ap (λ m. node_at (nodes ++ x ∷ []) m) (sym one_fewer)
        ∙ get_or-append_seam nodes x [] no_node
        ∙ sym (ap (λ m. node_at (dealt_nodes after ++ x ∷ []) m) (e ∙ sym few) ∙ get_or-append_seam (dealt_nodes after) x [] no_node))
        (λ differs. let under : k < node_total after = let t = total_after in omega (arith, inside, differs, t) in
        let stands : node_at (dealt_nodes after) k ≡ node_at (nodes_in after (k % w)) (k / w) = stands_in after k under ∙ ap (λ m. node_at (nodes_in after (k % m)) (k / m)) count_stays in
        let place : k / w < length (nodes_in after (k % w)) = subst (λ m. k / m < length (nodes_in after (k % m))) count_stays (place_there after dealt_after k under) in
        same_or_not (k % w) g
        (λ e. let in_nodes : k / w < length nodes = subst (λ (list : List (Member F T U)). k / w < length list) (ap (λ i. nodes_in after i) e ∙ nodes_there) place in
        ap (λ i. node_at (nodes_in groups i) (k / w)) e ∙ ap (λ (list : List (Member F T U)). node_at list (k / w)) is ∙ get_or-append nodes (x ∷ []) no_node (k / w) in_nodes
        ∙ sym (ap (λ (list : List (Member F T U)). node_at list (k / w)) (ap (λ i. nodes_in after i) e ∙ nodes_there)))
        (λ apart. sym (ap (λ (list : List (Member F T U)). node_at list (k / w)) (nodes_elsewhere (k % w) apart)))
        ∙ sym stands ∙ sym (get_or-append (dealt_nodes after) (x ∷ []) no_node k (omega (arith, under, total_of after)))))

-- A group gives out its last node, which is the last of all.
pub record HasGivenLast {F T U : Type 0} (n : ℕ) (before after : List (List (Member F T U))) (popped : Option (Member F T U)) : Type 0 where
  pub some : IsSome popped
  pub dealt : IsDealt after
  pub total : node_total after ≡ n
  pub taken : IfSome popped (λ node. dealt_nodes before ≡ dealt_nodes after ++ node ∷ [])

module _ {F T U : Type 0} (groups : List (Group (Member F T U))) (n : ℕ) (dealt : IsDealt (grouped_nodes groups)) (last : n + 1 ≡ node_total (grouped_nodes groups))
    (group then : Group (Member F T U)) (is : group ≡ slice_index_or groups (n % length groups) group) where
  counted : length (grouped_nodes groups) ≡ length groups
  counted = length-map groups (λ x. x.nodes.items)

  group_nodes : nodes_in (grouped_nodes groups) (n % length (grouped_nodes groups)) ≡ group.nodes.items
  group_nodes = ap (λ m. nodes_in (grouped_nodes groups) (n % m)) counted
      ∙ group_is groups (n % length groups) group (subst (λ m. n % m < m) counted (group_there (grouped_nodes groups) dealt n)) is

  among : grouped_nodes (set groups (n % length groups) then) ≡ set (grouped_nodes groups) (n % length (grouped_nodes groups)) then.nodes.items
  among = regrouped groups (n % length groups) then then.nodes.items refl ∙ ap (λ m. set (grouped_nodes groups) (n % m) then.nodes.items) (sym counted)

  pub gives_last : (popped : Option (Member F T U)) → IfSome popped (λ node. group.nodes.items ≡ then.nodes.items ++ node ∷ []) → IfNone popped (group.nodes.items ≡ [])
      → HasGivenLast n (grouped_nodes groups) (grouped_nodes (set groups (n % length groups) then)) popped
  gives_last None some none =
      let long = last_in_group (grouped_nodes groups) n dealt last in
      let empty = ap (λ (list : List (Member F T U)). length list) (group_nodes ∙ none) in
      absurd (omega (arith, long, empty))
  gives_last (Some node) some none =
      let there = group_nodes ∙ some in
      subst (λ after. HasGivenLast n (grouped_nodes groups) after (Some node)) (sym among) (record {
        some = refl;
        dealt = dealt_after (grouped_nodes groups) n dealt last then.nodes.items node there;
        total = total_after (grouped_nodes groups) n dealt last then.nodes.items node there;
        taken = last_taken (grouped_nodes groups) n dealt last then.nodes.items node there;
      })
