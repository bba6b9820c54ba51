-- A long round of groups is a round of all nodes that are dealt to them, by their numbers.
use Rattle.std.proofs.Common.{◌≡◌, ◌≢◌, ℕ, suc, ◌+◌, ◌*◌, ◌/◌, ◌%◌, ◌<◌, List, [], ◌∷◌, length, map, Bool, true, false, true≢false, refl, sym, ap, ◌∙◌, subst, arith}
use Rattle.std.specs.Prelude.{◌↔◌, slice_index_or, sum_by}
use Rattle.std.specs.List.{range_with_len}
use Rattle.std.proofs.lemmas.Nat.{div-mul-add, mod-mul-add}
use Rattle.std.proofs.lemmas.List.{get_or_default, length-map}
use Rattle.std.proofs.lemmas.List.Folds.{list_any_at}
use Rattle.std.proofs.lemmas.List.FromFn.{get_or-map-range_with_len}
use Rattle.std.proofs.lemmas.List.Sums.{sum_by-cons}
use Rattle.sb_link.specs.declared.answers.Turn.{Turn}
use Rattle.sb_link.specs.declared.answers.Turn.TheVariants.{Moved, Done}
use Rattle.sb_drive.specs.Rounds.{EndsWith, HasMoved, IsRound}
use Rattle.sb_drive.specs.SideBySide.{EachGroupRound, SomeGroupMoved, any_moved}
use Rattle.sb_drive.specs.declared.group.Group.{Group}
use Rattle.sb_member.specs.Groups.{IsDealt, dealt_nodes, grouped_nodes, node_total, nodes_in}
use Rattle.sb_member.specs.Joints.{no_node, node_at}
use Rattle.sb_member.specs.declared.member.Member.{Member}
use Rattle.sb_member.proofs.Dealt.{group_at, group_there, stands_in, total_of}
use Rattle.sb_net.proofs.NumberedNodes.{counted, node_is, nodes_are, number_is, place_is, some_group}

-- lists that are as long as others, each as the one at its place, have as many elements in all
total_alike : {A : Type 0} (xs ys : List (List A)) → length ys ≡ length xs → ((g : ℕ) → g < length xs → length (slice_index_or ys g []) ≡ length (slice_index_or xs g []))
    → sum_by (λ (list : List A). length list) ys ≡ sum_by (λ (list : List A). length list) xs
total_alike [] [] same each = refl
total_alike [] (y ∷ ys) same each = absurd (omega (arith, same))
total_alike (x ∷ xs) [] same each = absurd (omega (arith, same))
total_alike {A} (x ∷ xs) (y ∷ ys) same each =
    let first = each 0 (omega arith) in
    let rest = total_alike xs ys (omega (arith, same)) (λ g lt. each (suc g) (omega (arith, lt))) in
    omega (arith, first, rest, sum_by-cons (λ (list : List A). length list) x xs, sum_by-cons (λ (list : List A). length list) y ys)

module _ {F T U : Type 0} (reaches : ℕ → Member F T U → Member F T U → Type 0) (rests : Member F T U → Member F T U → Type 0) (turns : Member F T U → ℕ → Turn → Member F T U → Type 0) (number : ℕ)
    (groups after : List (Group (Member F T U))) (same : length after ≡ length groups) (dealt : IsDealt (grouped_nodes groups)) (rounds : EachGroupRound reaches rests turns number groups after) where
  abbrev none : Group (Member F T U)
  none = some_group groups dealt

  abbrev w : ℕ
  w = length (grouped_nodes groups)

  abbrev total : ℕ
  total = node_total (grouped_nodes groups)

  abbrev before_at : ℕ → List (Member F T U)
  before_at g = (slice_index_or groups g none).nodes.items

  abbrev after_at : ℕ → List (Member F T U)
  after_at g = (slice_index_or after g none).nodes.items

  abbrev last_at : ℕ → List Turn
  last_at g = (slice_index_or after g none).last.items

  within : (g : ℕ) → g < w → g < length groups
  within g lt = subst (λ n. g < n) (counted groups dealt) lt

  round_at : (g : ℕ) → g < w → IsRound reaches rests turns number (before_at g) (after_at g) (last_at g) (slice_index_or after g none).moved
  round_at g lt = rounds g none (within g lt)

  count_then : length (grouped_nodes after) ≡ w
  count_then = length-map after (λ one. one.nodes.items) ∙ same ∙ sym (counted groups dealt)

  after_are : (g : ℕ) → g < w → nodes_in (grouped_nodes after) g ≡ after_at g
  after_are g lt = group_at after g none (subst (λ n. g < n) (sym same) (within g lt))

  lengths_stay : (g : ℕ) → g < w → length (nodes_in (grouped_nodes after) g) ≡ length (nodes_in (grouped_nodes groups) g)
  lengths_stay g lt = ap (λ (list : List (Member F T U)). length list) (after_are g lt) ∙ (round_at g lt).same ∙ sym (ap (λ (list : List (Member F T U)). length list) (nodes_are groups dealt g lt))

  total_stays : node_total (grouped_nodes after) ≡ total
  total_stays = total_alike (grouped_nodes groups) (grouped_nodes after) count_then lengths_stay

  -- the nodes are dealt as before
  pub dealt_then : IsDealt (grouped_nodes after)
  dealt_then = record {
    some = subst (λ n. 0 < n) (sym count_then) dealt.some;
    numbered = λ g p inside. let here : g < w = subst (λ n. g < n) count_then inside in
        subst (λ n. (p < length (nodes_in (grouped_nodes after) g)) ↔ (p * n + g < node_total (grouped_nodes after))) (sym count_then)
        (subst (λ n. (p < length (nodes_in (grouped_nodes after) g)) ↔ (p * w + g < n)) (sym total_stays)
        (subst (λ n. (p < n) ↔ (p * w + g < total)) (sym (lengths_stay g here)) (dealt.numbered g p here)));
  }

  -- the last answers of all nodes, by their numbers
  abbrev pub answers : List Turn
  answers = map (λ k. slice_index_or (last_at (k % w)) (k / w) Done) (range_with_len 0 total)

  answer_is : (k : ℕ) → k < total → slice_index_or answers k Done ≡ slice_index_or (last_at (k % w)) (k / w) Done
  answer_is k lt = get_or-map-range_with_len (λ i. slice_index_or (last_at (i % w)) (i / w) Done) 0 total k k Done lt (omega arith)

  abbrev nodes_before : List (Member F T U)
  nodes_before = dealt_nodes (grouped_nodes groups)

  abbrev nodes_then : List (Member F T U)
  nodes_then = dealt_nodes (grouped_nodes after)

  below : (k : ℕ) → k < length nodes_before → k < total
  below k lt = subst (λ n. k < n) (total_of (grouped_nodes groups)) lt

  below_then : (k : ℕ) → k < length nodes_before → k < length nodes_then
  below_then k lt = subst (λ n. k < n) (sym (total_of (grouped_nodes after))) (subst (λ n. k < n) (sym total_stays) (below k lt))

  group_of : (k : ℕ) → k % w < w
  group_of k = group_there (grouped_nodes groups) dealt k

  then_is : (k : ℕ) → k < total → node_at nodes_then k ≡ node_at (after_at (k % w)) (k / w)
  then_is k lt = stands_in (grouped_nodes after) k (subst (λ n. k < n) (sym total_stays) lt)
      ∙ ap (λ n. node_at (nodes_in (grouped_nodes after) (k % n)) (k / n)) count_then ∙ ap (λ nodes. node_at nodes (k / w)) (after_are (k % w) (group_of k))

  -- what is said of a node at its place in its group is said of the node of its number
  by_number : (P : Member F T U → Turn → Member F T U → Type 0) (k : ℕ) (d : Member F T U) (lt : k < length nodes_before)
      → P (node_at (before_at (k % w)) (k / w)) (slice_index_or (last_at (k % w)) (k / w) Done) (node_at (after_at (k % w)) (k / w))
      → P (slice_index_or nodes_before k d) (slice_index_or answers k Done) (slice_index_or nodes_then k d)
  by_number P k d lt holds =
      subst (λ x. P x (slice_index_or answers k Done) (slice_index_or nodes_then k d)) (sym (get_or_default nodes_before k d no_node lt ∙ node_is groups dealt k (below k lt)))
      (subst (λ t. P (node_at (before_at (k % w)) (k / w)) t (slice_index_or nodes_then k d)) (sym (answer_is k (below k lt)))
      (subst (λ y. P (node_at (before_at (k % w)) (k / w)) (slice_index_or (last_at (k % w)) (k / w) Done) y) (sym (get_or_default nodes_then k d no_node (below_then k lt) ∙ then_is k (below k lt))) holds))

  place_of : (k : ℕ) → k < length nodes_before → k / w < length (before_at (k % w))
  place_of k lt = place_is groups dealt k (below k lt)

  -- the node that moved has a number
  some_moved : SomeGroupMoved reaches turns number groups after → (k : ℕ) × (k < length nodes_before) × ((d : Member F T U) → HasMoved reaches turns number (slice_index_or nodes_before k d) (slice_index_or nodes_then k d))
  some_moved moved =
      let g = moved.0 in
      let here : g < w = subst (λ n. g < n) (sym (counted groups dealt)) moved.1 in
      let node = moved.2 none in
      let p = node.0 in
      let number_of : p * w + g < length nodes_before = subst (λ n. p * w + g < n) (sym (total_of (grouped_nodes groups))) (number_is groups dealt g p here node.1) in (
        p * w + g,
        number_of,
        λ d. by_number (λ x t y. HasMoved reaches turns number x y) (p * w + g) d number_of
            (subst (λ i. HasMoved reaches turns number (node_at (before_at i) ((p * w + g) / w)) (node_at (after_at i) ((p * w + g) / w))) (sym (mod-mul-add p w g here))
            (subst (λ i. HasMoved reaches turns number (node_at (before_at g) i) (node_at (after_at g) i)) (sym (div-mul-add p w g here)) (node.2 no_node))),
      )

  -- where no group moved, none did
  unmoved_at : (g : ℕ) → g < w → (b : Bool) → (slice_index_or after g none).moved ≡ b → any_moved after ≡ false → (slice_index_or after g none).moved ≡ false
  unmoved_at g lt true is none_did = absurd (true≢false (sym (list_any_at (λ (group : Group (Member F T U)). group.moved) after g none (subst (λ n. g < n) (sym same) (within g lt)) is) ∙ none_did))
  unmoved_at g lt false is none_did = is

  -- it is a round of all nodes
  pub round_of_all : (moved : Bool) → moved ≡ any_moved after → (moved ≡ true → SomeGroupMoved reaches turns number groups after) → IsRound reaches rests turns number nodes_before nodes_then answers moved
  round_of_all moved answer some =
      let still : moved ≡ false → (k : ℕ) → (slice_index_or after (k % w) none).moved ≡ false = (λ e k. unmoved_at (k % w) (group_of k) (slice_index_or after (k % w) none).moved refl (sym answer ∙ e)) in record {
        same = total_of (grouped_nodes after) ∙ total_stays ∙ sym (total_of (grouped_nodes groups));
        reached = λ k d lt. by_number (λ x t y. reaches number x y) k d lt ((round_at (k % w) (group_of k)).reached (k / w) no_node (place_of k lt));
        last_turns = λ k d lt. by_number (λ x t y. EndsWith turns number (reaches number) x t y) k d lt ((round_at (k % w) (group_of k)).last_turns (k / w) no_node (place_of k lt));
        some_moved = λ e. some_moved (some e);
        rested_turns = λ e k d lt. by_number (λ x t y. EndsWith turns number rests x t y) k d lt ((round_at (k % w) (group_of k)).rested_turns (still e k) (k / w) no_node (place_of k lt));
        rested = λ e k d lt. by_number (λ x t y. rests x y) k d lt ((round_at (k % w) (group_of k)).rested (still e k) (k / w) no_node (place_of k lt));
        none_moved = λ e k lt. by_number (λ x t y. t ≢ Moved) k no_node lt ((round_at (k % w) (group_of k)).none_moved (still e k) (k / w) (place_of k lt));
      }
