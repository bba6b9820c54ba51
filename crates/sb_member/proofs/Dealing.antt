-- A node is dealt to its group: the next number's.
use Rattle.std.proofs.Common.{◌≡◌, ◌≢◌, ℕ, zero, suc, ◌+◌, ◌*◌, ◌/◌, ◌%◌, ◌<◌, ◌≤◌, List, [], ◌∷◌, ◌++◌, length, set, refl, sym, ap, ◌∙◌, subst, arith}
use Rattle.std.specs.Prelude.{◌↔◌, replicate, slice_index_or, sum_by}
use Rattle.std.proofs.Math.Nat.{le_of_mul-le-mul_right, mul-le-mul_right, mul-lt-mul_of_pos_right}
use Rattle.std.proofs.Math.Seq.{get_or-append_seam}
use Rattle.std.proofs.lemmas.Nat.{div-add-mod', mod-mul-add}
use Rattle.std.proofs.lemmas.List.{ext_get_or, get_or_append_left, get_or-set_other, get_or-set_same, length-append, length-map, length-replicate, length-set}
use Rattle.std.proofs.lemmas.List.Sums.{sum_by-cons}
use Rattle.sb_drive.specs.declared.group.Group.{Group}
use Rattle.sb_member.specs.Groups.{IsDealt, dealt_nodes, grouped_nodes, node_total, nodes_in}
use Rattle.sb_member.specs.Joints.{no_node, node_at}
use Rattle.sb_member.specs.declared.member.Member.{Member}
use Rattle.sb_member.proofs.Dealt.{group_is, group_there, place_there, regrouped, stands_in, total_of}
use Rattle.sb_member.proofs.RingsJoined.{below_not, same_or_not}

-- an element becomes another one that counts one more
sum_more : {A : Type 0} (f : A → ℕ) (xs : List A) (k : ℕ) (x d : A) → k < length xs → f x ≡ f (slice_index_or xs k d) + 1 → sum_by f (set xs k x) ≡ sum_by f xs + 1
sum_more f [] k x d lt more = absurd (omega (arith, lt))
sum_more f (y ∷ ys) zero x d lt more = omega (arith, more, sum_by-cons f x ys, sum_by-cons f y ys)
sum_more f (y ∷ ys) (suc k) x d lt more = let rest = sum_more f ys k x d (omega (arith, lt)) more in omega (arith, rest, sum_by-cons f y (set ys k x), sum_by-cons f y ys)

-- two numbers with the same left over: the one of an earlier row, or of the same, comes no later
row_before : (p q w g : ℕ) → p < q + 1 → p * w + g < q * w + g + 1
row_before p q w g le = let most : p ≤ q = omega (arith, le) in let rows : p * w ≤ q * w = mul-le-mul_right w most in omega (arith, rows)

row_within : (p q w g : ℕ) → 0 < w → p * w + g < q * w + g + 1 → p < q + 1
row_within p q w g some le = let rows : p * w ≤ q * w = omega (arith, le) in let most : p ≤ q = le_of_mul-le-mul_right rows some in omega (arith, most)

module _ {F T U : Type 0} (groups : List (List (Member F T U))) (dealt : IsDealt groups) (x : Member F T U) where
  abbrev w : ℕ
  w = length groups

  -- the number of the next node, and its group
  abbrev k : ℕ
  k = node_total groups

  abbrev g : ℕ
  g = k % w

  abbrev more : List (Member F T U)
  more = nodes_in groups g ++ x ∷ []

  abbrev added : List (List (Member F T U))
  added = set groups g more

  here : g < w
  here = group_there groups dealt k

  -- the group has a node for each number before that is its own
  pub row : length (nodes_in groups g) ≡ k / w
  row =
      let at : k / w * w + g ≡ k = div-add-mod' k w in
      let not_there : length (nodes_in groups g) ≤ k / w = at_most (length (nodes_in groups g)) (k / w) (λ lt. let inside = (dealt.numbered g (k / w) here).0 lt in omega (arith, inside, at)) in
      let all : k / w ≤ length (nodes_in groups g) = at_most (k / w) (length (nodes_in groups g)) (λ lt.
      let inside = (dealt.numbered g (length (nodes_in groups g)) here).1 (let rows : length (nodes_in groups g) * w < k / w * w = mul-lt-mul_of_pos_right lt dealt.some in omega (arith, rows, at)) in omega (arith, inside)) in
      omega (arith, not_there, all)
    where
      at_most : (a b : ℕ) → (b < a → ⊥) → a ≤ b
      at_most zero b none = omega arith
      at_most (suc a) zero none = absurd (none (omega arith))
      at_most (suc a) (suc b) none = let le = at_most a b (λ lt. none (omega (arith, lt))) in omega (arith, le)

  pub longer : length more ≡ length (nodes_in groups g) + 1
  longer = length-append (nodes_in groups g) (x ∷ [])

  pub added_total : node_total added ≡ k + 1
  added_total = sum_more (λ (list : List (Member F T U)). length list) groups g more [] here longer

  added_count : length added ≡ w
  added_count = length-set groups g more

  added_here : nodes_in added g ≡ more
  added_here = get_or-set_same groups g more [] here

  added_elsewhere : (h : ℕ) → h ≢ g → nodes_in added h ≡ nodes_in groups h
  added_elsewhere h differs = get_or-set_other groups g h more [] differs

  -- in its group it stands behind the others
  numbered_here : (p : ℕ) → (p < length more) ↔ (p * w + g < k + 1)
  numbered_here p =
      let at : k / w * w + g ≡ k = div-add-mod' k w in let len = longer in let size = row in (
        (λ lt. let before = row_before p (k / w) w g (omega (arith, lt, len, size)) in omega (arith, before, at)),
        (λ lt. let within = row_within p (k / w) w g dealt.some (omega (arith, lt, at)) in omega (arith, within, len, size)),
      )

  -- and no other group has its number
  numbered_elsewhere : (h p : ℕ) → h < w → h ≢ g → (p < length (nodes_in groups h)) ↔ (p * w + h < k + 1)
  numbered_elsewhere h p inside differs =
      let old = dealt.numbered h p inside in (
        (λ lt. let below = old.0 lt in omega (arith, below)),
        (λ lt. old.1 (below_not (p * w + h) k lt (λ e. differs (sym (mod-mul-add p w h inside) ∙ ap (λ n. n % w) e)))),
      )

  pub added_dealt : IsDealt added
  added_dealt = record {
    some = subst (λ n. 0 < n) (sym added_count) dealt.some;
    numbered = λ h p inside. let low : h < w = subst (λ n. h < n) added_count inside in
        subst (λ n. (p < length (nodes_in added h)) ↔ (p * n + h < node_total added)) (sym added_count)
        (subst (λ n. (p < length (nodes_in added h)) ↔ (p * w + h < n)) (sym added_total)
        (same_or_not h g
        (λ e. subst (λ i. (p < length (nodes_in added i)) ↔ (p * w + i < k + 1)) (sym e) (subst (λ list. (p < length list) ↔ (p * w + g < k + 1)) (sym added_here) (numbered_here p)))
        (λ differs. subst (λ list. (p < length list) ↔ (p * w + h < k + 1)) (sym (added_elsewhere h differs)) (numbered_elsewhere h p low differs))));
  }

  -- all nodes are those before and the new one
  pub added_nodes : dealt_nodes added ≡ dealt_nodes groups ++ x ∷ []
  added_nodes =
      let all : length (dealt_nodes added) ≡ k + 1 = total_of added ∙ added_total in
      let before : length (dealt_nodes groups) ≡ k = total_of groups in
      ext_get_or no_node (dealt_nodes added) (dealt_nodes groups ++ x ∷ []) (omega (arith, all, before, length-append (dealt_nodes groups) (x ∷ [])))
      (λ i below. let inside : i < k + 1 = omega (arith, below, all) in
      let stands : node_at (dealt_nodes added) i ≡ node_at (nodes_in added (i % w)) (i / w) =
      stands_in added i (omega (arith, inside, added_total)) ∙ ap (λ n. node_at (nodes_in added (i % n)) (i / n)) added_count in
      stands ∙ same_or_not i k
      (λ e. ap (λ n. node_at (nodes_in added (n % w)) (n / w)) e ∙ ap (λ list. node_at list (k / w)) added_here ∙ ap (λ n. node_at more n) (sym row) ∙ get_or-append_seam (nodes_in groups g) x [] no_node
      ∙ sym (ap (λ n. node_at (dealt_nodes groups ++ x ∷ []) n) (e ∙ sym before) ∙ get_or-append_seam (dealt_nodes groups) x [] no_node))
      (λ differs. let lt : i < k = below_not i k inside differs in
      let there = place_there groups dealt i lt in
      same_or_not (i % w) g
      (λ e. ap (λ h. node_at (nodes_in added h) (i / w)) e ∙ ap (λ list. node_at list (i / w)) added_here
      ∙ get_or_append_left (nodes_in groups g) (x ∷ []) no_node (i / w) (subst (λ h. i / w < length (nodes_in groups h)) e there) ∙ ap (λ h. node_at (nodes_in groups h) (i / w)) (sym e))
      (λ apart. ap (λ list. node_at list (i / w)) (added_elsewhere (i % w) apart))
      ∙ sym (stands_in groups i lt) ∙ sym (get_or_append_left (dealt_nodes groups) (x ∷ []) no_node i (omega (arith, lt, before)))))

-- an element of a list that has nothing else
alike : {A : Type 0} (x : A) (n k : ℕ) → slice_index_or (replicate n x) k x ≡ x
alike x zero k = refl
alike x (suc n) zero = refl
alike x (suc n) (suc k) = alike x n k

none_counted : {A : Type 0} (none : List A) (n : ℕ) → length none ≡ 0 → sum_by (λ (list : List A). length list) (replicate n none) ≡ 0
none_counted none zero empty = refl
none_counted {A} none (suc n) empty = let rest = none_counted none n empty in omega (arith, rest, empty, sum_by-cons (λ (list : List A). length list) none (replicate n none))

nothing_of : {A : Type 0} (xs : List A) → length xs ≡ 0 → xs ≡ []
nothing_of [] none = refl
nothing_of (x ∷ xs) none = absurd (omega (arith, none))

-- One node more is dealt, to the group of its number.
pub record HasDealt {F T U : Type 0} (groups : List (Group (Member F T U))) (n count : ℕ) (nodes : List (Member F T U)) : Type 0 where
  pub dealt : IsDealt (grouped_nodes groups)
  pub total : node_total (grouped_nodes groups) ≡ n
  pub number : length groups ≡ count
  pub nodes_are : dealt_nodes (grouped_nodes groups) ≡ nodes

-- groups without nodes are dealt
pub none_dealt : {F T U : Type 0} (groups : List (Group (Member F T U))) (count : ℕ) → 0 < count → grouped_nodes groups ≡ replicate count [] → HasDealt groups 0 count []
none_dealt groups count some is =
    let lists = grouped_nodes groups in
    let many : length lists ≡ count = ap (λ xs. length xs) is ∙ length-replicate count [] in
    let total : node_total lists ≡ 0 = ap node_total is ∙ none_counted [] count refl in
    record {
      dealt = record {
        some = omega (arith, some, many);
        numbered = λ h p inside.
            let no_place : length (nodes_in lists h) ≡ 0 = ap (λ xs. length (nodes_in xs h)) is ∙ ap (λ list. length list) (alike [] count h) in
            ((λ lt. absurd (omega (arith, lt, no_place))), (λ lt. absurd (omega (arith, lt, total))));
      };
      total = total;
      number = sym (length-map groups (λ one. one.nodes.items)) ∙ many;
      nodes_are = nothing_of (dealt_nodes lists) (total_of lists ∙ total);
    }

pub dealt_more : {F T U : Type 0} (groups : List (Group (Member F T U))) (n count : ℕ) (nodes : List (Member F T U)) (group group_then : Group (Member F T U)) (x : Member F T U)
    → HasDealt groups n count nodes → group ≡ slice_index_or groups (n % count) group → group_then.nodes.items ≡ group.nodes.items ++ x ∷ []
    → HasDealt (set groups (n % count) group_then) (n + 1) count (nodes ++ x ∷ [])
dealt_more groups n count nodes group group_then x had is more =
    let lists = grouped_nodes groups in
    let w : length lists ≡ count = length-map groups (λ one. one.nodes.items) ∙ had.number in
    let place : node_total lists % length lists ≡ n % count = ap (λ k. k % length lists) had.total ∙ ap (λ k. n % k) w in
    let inside : n % count < length groups = subst (λ k. n % count < k) (sym had.number) (subst (λ k. n % count < k) w (subst (λ k. k < length lists) place (group_there lists had.dealt (node_total lists)))) in
    let there : nodes_in lists (n % count) ≡ group.nodes.items = group_is groups (n % count) group inside is in
    let same : grouped_nodes (set groups (n % count) group_then) ≡ set lists (node_total lists % length lists) (nodes_in lists (node_total lists % length lists) ++ x ∷ []) =
    regrouped groups (n % count) group_then (nodes_in lists (n % count) ++ x ∷ []) (more ∙ ap (λ list. list ++ x ∷ []) (sym there))
    ∙ ap (λ k. set lists k (nodes_in lists k ++ x ∷ [])) (sym place) in
    record {
      dealt = subst IsDealt (sym same) (added_dealt lists had.dealt x);
      total = ap node_total same ∙ added_total lists had.dealt x ∙ ap (λ k. k + 1) had.total;
      number = length-set groups (n % count) group_then ∙ had.number;
      nodes_are = ap dealt_nodes same ∙ added_nodes lists had.dealt x ∙ ap (λ list. list ++ x ∷ []) had.nodes_are;
    }
