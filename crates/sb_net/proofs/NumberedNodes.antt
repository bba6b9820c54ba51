-- Nodes that are dealt to groups, by their numbers and by their places in their groups.
use Rattle.std.proofs.Common.{◌≡◌, ℕ, ◌+◌, ◌*◌, ◌/◌, ◌%◌, ◌<◌, List, [], ◌∷◌, length, sym, ap, ◌∙◌, subst, arith}
use Rattle.std.specs.Prelude.{All, slice_index_or}
use Rattle.std.proofs.lemmas.Nat.{div-mul-add, mod-mul-add}
use Rattle.std.proofs.lemmas.List.{get_or_default, length-map}
use Rattle.sb_drive.specs.SideBySide.{IsWholeGroup}
use Rattle.sb_drive.specs.declared.group.Group.{Group}
use Rattle.sb_member.specs.Groups.{IsDealt, dealt_nodes, grouped_nodes, node_total, nodes_in}
use Rattle.sb_member.specs.Joints.{no_node, node_at}
use Rattle.sb_member.specs.declared.member.Member.{Member}
use Rattle.sb_member.proofs.Dealt.{group_at, group_there, place_there, stands_in, total_of}

-- the first of some things
first_of : {A : Type 0} (xs : List A) → 0 < length xs → A
first_of [] some = absurd (omega (arith, some))
first_of (x ∷ xs) some = x

-- nodes are dealt to some group
pub some_group : {F T U : Type 0} (groups : List (Group (Member F T U))) → IsDealt (grouped_nodes groups) → Group (Member F T U)
some_group groups dealt = first_of groups (subst (λ n. 0 < n) (length-map groups (λ one. one.nodes.items)) dealt.some)

module _ {F T U : Type 0} (groups : List (Group (Member F T U))) (dealt : IsDealt (grouped_nodes groups)) where
  abbrev none : Group (Member F T U)
  none = some_group groups dealt

  abbrev lists : List (List (Member F T U))
  lists = grouped_nodes groups

  abbrev w : ℕ
  w = length lists

  abbrev nodes_at : ℕ → List (Member F T U)
  nodes_at g = (slice_index_or groups g none).nodes.items

  pub counted : w ≡ length groups
  counted = length-map groups (λ one. one.nodes.items)

  pub nodes_are : (g : ℕ) → g < w → nodes_in lists g ≡ nodes_at g
  nodes_are g lt = group_at groups g none (subst (λ n. g < n) counted lt)

  pub node_is : (k : ℕ) → k < node_total lists → node_at (dealt_nodes lists) k ≡ node_at (nodes_at (k % w)) (k / w)
  node_is k lt = stands_in lists k lt ∙ ap (λ nodes. node_at nodes (k / w)) (nodes_are (k % w) (group_there lists dealt k))

  pub place_is : (k : ℕ) → k < node_total lists → k / w < length (nodes_at (k % w))
  place_is k lt = subst (λ nodes. k / w < length nodes) (nodes_are (k % w) (group_there lists dealt k)) (place_there lists dealt k lt)

  -- the node at a place of a group has a number
  pub number_is : (g p : ℕ) → g < w → p < length (nodes_at g) → p * w + g < node_total lists
  number_is g p here lt = (dealt.numbered g p here).0 (subst (λ nodes. p < length nodes) (sym (nodes_are g here)) lt)

  node_there : (g p : ℕ) → g < w → p < length (nodes_at g) → node_at (dealt_nodes lists) (p * w + g) ≡ node_at (nodes_at g) p
  node_there g p here lt = node_is (p * w + g) (number_is g p here lt)
      ∙ ap (λ i. node_at (nodes_at i) ((p * w + g) / w)) (mod-mul-add p w g here) ∙ ap (λ i. node_at (nodes_at g) i) (div-mul-add p w g here)

  -- what holds of each node holds of the nodes of each group, and the other way round
  pub whole_groups : (whole : Member F T U → Type 0) → All whole (dealt_nodes lists) → All (IsWholeGroup whole) groups
  whole_groups whole all g d lt p e there =
      let here : g < w = subst (λ n. g < n) (sym counted) lt in
      let same : slice_index_or groups g d ≡ slice_index_or groups g none = get_or_default groups g d none lt in
      let inside : p < length (nodes_at g) = subst (λ group. p < length group.nodes.items) same there in
      subst (λ group. whole (slice_index_or group.nodes.items p e)) (sym same)
      (subst whole (node_there g p here inside ∙ get_or_default (nodes_at g) p no_node e inside)
      (all (p * w + g) no_node (subst (λ n. p * w + g < n) (sym (total_of lists)) (number_is g p here inside))))

  pub whole_nodes : (whole : Member F T U → Type 0) → All (IsWholeGroup whole) groups → All whole (dealt_nodes lists)
  whole_nodes whole all k d lt =
      let below : k < node_total lists = subst (λ n. k < n) (total_of lists) lt in
      subst whole (sym (get_or_default (dealt_nodes lists) k d no_node lt ∙ node_is k below))
      (all (k % w) none (subst (λ n. k % w < n) counted (group_there lists dealt k)) (k / w) no_node (place_is k below))
