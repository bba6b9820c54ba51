-- Nodes that are dealt to groups: where each stands, and what it does to all of them that one becomes another.
use Rattle.std.proofs.Common.{◌≡◌, ◌≢◌, ℕ, zero, suc, ◌+◌, ◌*◌, ◌/◌, ◌%◌, ◌<◌, List, [], ◌∷◌, ◌++◌, length, map, set, take, refl, sym, ap, ◌∙◌, subst, arith}
use Rattle.std.specs.Prelude.{◌↔◌, slice_index_or, sum_by}
use Rattle.std.specs.List.{fold, range_with_len}
use Rattle.std.proofs.Math.Nat.{mod-lt}
use Rattle.std.proofs.Math.Seq.{take-append_seam}
use Rattle.std.proofs.lemmas.Nat.{div-add-mod'}
use Rattle.std.proofs.lemmas.List.{ext_get_or, get_or-map, get_or-set_other, get_or-set_same, length-map, length-set, map-set}
use Rattle.std.proofs.lemmas.List.FromFn.{get_or-range_with_len, length-range_with_len}
use Rattle.sb_drive.specs.declared.group.Group.{Group}
use Rattle.sb_member.specs.Groups.{IsDealt, dealt_nodes, grouped_nodes, node_total, nodes_in}
use Rattle.sb_member.specs.Joints.{no_node, node_at}
use Rattle.sb_member.specs.declared.member.Member.{Member}
use Rattle.sb_member.proofs.RingsJoined.{same_or_not}

-- an element becomes another one that counts the same
fold_same : {A : Type 0} (f : A → ℕ) (xs : List A) (k : ℕ) (x d : A) (start : ℕ) → f x ≡ f (slice_index_or xs k d) → fold (λ n y. n + f y) start (set xs k x) ≡ fold (λ n y. n + f y) start xs
fold_same f [] k x d start same = refl
fold_same f (y ∷ ys) zero x d start same = ap (λ n. fold (λ m z. m + f z) (start + n) ys) same
fold_same f (y ∷ ys) (suc k) x d start same = fold_same f ys k x d (start + f y) same

sum_same : {A : Type 0} (f : A → ℕ) (xs : List A) (k : ℕ) (x d : A) → f x ≡ f (slice_index_or xs k d) → sum_by f (set xs k x) ≡ sum_by f xs
sum_same f xs k x d same = fold_same f xs k x d 0 same

-- a number that isn't another is in another group, or at another place of it
pub places_differ : (k n w : ℕ) → k ≢ n → k % w ≡ n % w → k / w ≢ n / w
places_differ k n w differs same place = differs (sym (div-add-mod' k w) ∙ ap (λ q. q * w + k % w) place ∙ ap (λ r. n / w * w + r) same ∙ div-add-mod' n w)

-- there are as many numbers as nodes
pub total_of : {F T U : Type 0} (groups : List (List (Member F T U))) → length (dealt_nodes groups) ≡ node_total groups
total_of groups = length-map (range_with_len 0 (node_total groups)) (λ n. node_at (nodes_in groups (n % length groups)) (n / length groups)) ∙ length-range_with_len 0 (node_total groups)

-- the node of a number is the one at its place of its group
pub stands_in : {F T U : Type 0} (groups : List (List (Member F T U))) (n : ℕ) → n < node_total groups → node_at (dealt_nodes groups) n ≡ node_at (nodes_in groups (n % length groups)) (n / length groups)
stands_in groups n lt =
    get_or-map (λ k. node_at (nodes_in groups (k % length groups)) (k / length groups)) (range_with_len 0 (node_total groups)) n 0 no_node (omega (arith, lt, length-range_with_len 0 (node_total groups)))
    ∙ ap (λ k. node_at (nodes_in groups (k % length groups)) (k / length groups)) (get_or-range_with_len 0 (node_total groups) n 0 lt ∙ plain)
  where
    plain : 0 + n ≡ n
    plain = omega arith

module _ {F T U : Type 0} (groups : List (List (Member F T U))) where
  abbrev w : ℕ
  w = length groups

  module _ (dealt : IsDealt groups) where
    pub group_there : (n : ℕ) → n % w < w
    group_there n = mod-lt n dealt.some

    pub place_there : (n : ℕ) → n < node_total groups → n / w < length (nodes_in groups (n % w))
    place_there n lt = (dealt.numbered (n % w) (n / w) (group_there n)).1 (subst (λ k. k < node_total groups) (sym (div-add-mod' n w)) lt)

    module _ (g : ℕ) (nodes : List (Member F T U)) (here : g < w) (long : length nodes ≡ length (nodes_in groups g)) where
      abbrev after : List (List (Member F T U))
      after = set groups g nodes

      pub total_stays : node_total after ≡ node_total groups
      total_stays = sum_same (λ (list : List (Member F T U)). length list) groups g nodes [] long

      pub count_stays : length after ≡ w
      count_stays = length-set groups g nodes

      pub nodes_there : nodes_in after g ≡ nodes
      nodes_there = get_or-set_same groups g nodes [] here

      pub nodes_elsewhere : (k : ℕ) → k ≢ g → nodes_in after k ≡ nodes_in groups k
      nodes_elsewhere k differs = get_or-set_other groups g k nodes [] differs

      lengths_stay : (k : ℕ) → length (nodes_in after k) ≡ length (nodes_in groups k)
      lengths_stay k = same_or_not k g
          (λ e. ap (λ i. length (nodes_in after i)) e ∙ ap (λ (list : List (Member F T U)). length list) nodes_there ∙ long ∙ sym (ap (λ i. length (nodes_in groups i)) e))
          (λ differs. ap (λ (list : List (Member F T U)). length list) (nodes_elsewhere k differs))

      pub dealt_still : IsDealt after
      dealt_still = record {
        some = subst (λ n. 0 < n) (sym count_stays) dealt.some;
        numbered = λ k p inside.
            let old = dealt.numbered k p (subst (λ n. k < n) count_stays inside) in
            let len = lengths_stay k in let same = total_stays in let count = count_stays in (
              (λ there. subst (λ n. p * n + k < node_total after) (sym count) (subst (λ n. p * w + k < n) (sym same) (old.0 (subst (λ n. p < n) len there)))),
              (λ below. subst (λ n. p < n) (sym len) (old.1 (subst (λ n. p * w + k < n) same (subst (λ n. p * n + k < node_total after) count below)))),
            );
      }

    -- a node becomes another one
    pub dealt_set : (n : ℕ) (x : Member F T U) → n < node_total groups → dealt_nodes (set groups (n % w) (set (nodes_in groups (n % w)) (n / w) x)) ≡ set (dealt_nodes groups) n x
    dealt_set n x lt =
        let g = n % w in
        let nodes : List (Member F T U) = set (nodes_in groups g) (n / w) x in
        let long : length nodes ≡ length (nodes_in groups g) = length-set (nodes_in groups g) (n / w) x in
        let here = group_there n in
        let then : List (List (Member F T U)) = set groups g nodes in
        let totals = total_stays g nodes here long in
        let counts = count_stays g nodes here long in
        let all : length (dealt_nodes then) ≡ node_total groups = total_of then ∙ totals in
        ext_get_or no_node (dealt_nodes then) (set (dealt_nodes groups) n x) (all ∙ sym (total_of groups) ∙ sym (length-set (dealt_nodes groups) n x))
        (λ k below. let inside : k < node_total groups = subst (λ m. k < m) all below in
        let stands : node_at (dealt_nodes then) k ≡ node_at (nodes_in then (k % w)) (k / w) =
        stands_in then k (subst (λ m. k < m) (sym totals) inside) ∙ ap (λ m. node_at (nodes_in then (k % m)) (k / m)) counts in
        same_or_not k n
        (λ e. stands ∙ ap (λ m. node_at (nodes_in then (m % w)) (m / w)) e ∙ ap (λ list. node_at list (n / w)) (nodes_there g nodes here long)
        ∙ get_or-set_same (nodes_in groups g) (n / w) x no_node (place_there n lt)
        ∙ sym (ap (λ m. node_at (set (dealt_nodes groups) n x) m) e ∙ get_or-set_same (dealt_nodes groups) n x no_node (subst (λ m. n < m) (sym (total_of groups)) lt)))
        (λ differs. stands ∙ same_or_not (k % w) g
        (λ e. ap (λ m. node_at (nodes_in then m) (k / w)) e ∙ ap (λ list. node_at list (k / w)) (nodes_there g nodes here long)
        ∙ get_or-set_other (nodes_in groups g) (n / w) (k / w) x no_node (places_differ k n w differs e) ∙ sym (ap (λ m. node_at (nodes_in groups m) (k / w)) e))
        (λ apart. ap (λ list. node_at list (k / w)) (nodes_elsewhere g nodes here long (k % w) apart))
        ∙ sym (stands_in groups k inside) ∙ sym (get_or-set_other (dealt_nodes groups) n k x no_node differs)))

-- a list is the whole of itself
pub taken_whole : {A : Type 0} (new rest : List A) (n : ℕ) → n ≡ length new → take n (new ++ rest) ≡ new
taken_whole new rest n len = ap (λ n. take n (new ++ rest)) len ∙ take-append_seam new rest

-- a group with these nodes stands among the others
pub regrouped : {F T U : Type 0} (groups : List (Group (Member F T U))) (g : ℕ) (group : Group (Member F T U)) (nodes : List (Member F T U)) → group.nodes.items ≡ nodes
    → grouped_nodes (set groups g group) ≡ set (grouped_nodes groups) g nodes
regrouped groups g group nodes is = map-set (λ group. group.nodes.items) groups g group ∙ ap (λ list. set (grouped_nodes groups) g list) is

-- the nodes of a group by its place
pub group_at : {F T U : Type 0} (groups : List (Group (Member F T U))) (g : ℕ) (none : Group (Member F T U)) → g < length groups → nodes_in (grouped_nodes groups) g ≡ (slice_index_or groups g none).nodes.items
group_at groups g none lt = get_or-map (λ group. group.nodes.items) groups g none [] lt

-- the same where the group at the place is known
pub group_is : {F T U : Type 0} (groups : List (Group (Member F T U))) (g : ℕ) (group : Group (Member F T U)) → g < length groups → group ≡ slice_index_or groups g group → nodes_in (grouped_nodes groups) g ≡ group.nodes.items
group_is groups g group lt is = group_at groups g group lt ∙ ap (λ x. x.nodes.items) (sym is)

-- two groups stand among the others
pub regrouped_both : {F T U : Type 0} (groups : List (Group (Member F T U))) (g h : ℕ) (x y : Group (Member F T U))
    → grouped_nodes (set (set groups g x) h y) ≡ set (set (grouped_nodes groups) g x.nodes.items) h y.nodes.items
regrouped_both groups g h x y = regrouped (set groups g x) h y y.nodes.items refl ∙ ap (λ list. set list h y.nodes.items) (regrouped groups g x x.nodes.items refl)

-- Of one group all nodes are its nodes.
pub one_total : {F T U : Type 0} (nodes : List (Member F T U)) → node_total (nodes ∷ []) ≡ length nodes
one_total nodes = omega arith

-- of one group, each number is a place
of_one : (k : ℕ) → (k % 1 ≡ 0) × (k / 1 ≡ k)
of_one k = (let lt : k % 1 < 1 = mod-lt k (omega arith) in omega (arith, lt), let all = div-add-mod' k 1 in let lt : k % 1 < 1 = mod-lt k (omega arith) in omega (arith, all, lt))

pub one_group : {F T U : Type 0} (nodes : List (Member F T U)) → dealt_nodes (nodes ∷ []) ≡ nodes
one_group nodes = ext_get_or no_node (dealt_nodes (nodes ∷ [])) nodes (total_of (nodes ∷ []) ∙ one_total nodes)
    (λ k below. let inside : k < node_total (nodes ∷ []) = subst (λ n. k < n) (total_of (nodes ∷ [])) below in
    stands_in (nodes ∷ []) k inside ∙ ap (λ g. node_at (nodes_in (nodes ∷ []) g) (k / 1)) (of_one k).0 ∙ ap (λ p. node_at nodes p) (of_one k).1)

pub one_dealt : {F T U : Type 0} (nodes : List (Member F T U)) → IsDealt (nodes ∷ [])
one_dealt nodes = record {
  some = omega arith;
  numbered = λ g p inside. let zero_is : g ≡ 0 = omega (arith, inside) in let total = one_total nodes in
      subst (λ i. (p < length (nodes_in (nodes ∷ []) i)) ↔ (p * 1 + i < node_total (nodes ∷ []))) (sym zero_is)
      ((λ lt. omega (arith, lt, total)), (λ lt. omega (arith, lt, total)));
}

-- The node of a number, as it is found: in its group, at its place there.
module _ {F T U : Type 0} (groups : List (Group (Member F T U))) (n : ℕ) (group : Group (Member F T U)) (dealt : IsDealt (grouped_nodes groups)) (below : n < node_total (grouped_nodes groups))
    (is : group ≡ slice_index_or groups (n % length groups) group) where
  counted : length (grouped_nodes groups) ≡ length groups
  counted = length-map groups (λ x. x.nodes.items)

  group_nodes : nodes_in (grouped_nodes groups) (n % length (grouped_nodes groups)) ≡ group.nodes.items
  group_nodes = ap (λ w. nodes_in (grouped_nodes groups) (n % w)) counted
      ∙ group_is groups (n % length groups) group (subst (λ w. n % w < w) counted (group_there (grouped_nodes groups) dealt n)) is

  pub place_found : n / length groups < length group.nodes.items
  place_found = subst (λ w. n / w < length group.nodes.items) counted (subst (λ nodes. n / length (grouped_nodes groups) < length nodes) group_nodes (place_there (grouped_nodes groups) dealt n below))

  pub node_found : node_at (dealt_nodes (grouped_nodes groups)) n ≡ node_at group.nodes.items (n / length groups)
  node_found = stands_in (grouped_nodes groups) n below ∙ ap (λ nodes. node_at nodes (n / length (grouped_nodes groups))) group_nodes ∙ ap (λ w. node_at group.nodes.items (n / w)) counted

-- where there is one group, all nodes are its nodes
pub sole_group : {F T U : Type 0} (groups : List (Group (Member F T U))) (none : Group (Member F T U)) → length groups ≡ 1 → dealt_nodes (grouped_nodes groups) ≡ (slice_index_or groups 0 none).nodes.items
sole_group [] none one = absurd (omega (arith, one))
sole_group (x ∷ []) none one = one_group x.nodes.items
sole_group (x ∷ y ∷ rest) none one = let more : 2 + length rest ≡ 1 = omega (arith, one) in absurd (omega (arith, more))

-- and where it becomes another one, the nodes of that
pub sole_set : {F T U : Type 0} (groups : List (Group (Member F T U))) (x : Group (Member F T U)) → length groups ≡ 1 → dealt_nodes (grouped_nodes (set groups 0 x)) ≡ x.nodes.items
sole_set [] x one = absurd (omega (arith, one))
sole_set (y ∷ []) x one = one_group x.nodes.items
sole_set (y ∷ z ∷ rest) x one = let more : 2 + length rest ≡ 1 = omega (arith, one) in absurd (omega (arith, more))
