-- Where the rings of a network stand, ring by ring.
use Rattle.std.proofs.Common.{◌≡◌, ◌≤◌, ℕ, zero, suc, ◌+◌, ◌*◌, ◌/◌, ◌%◌, ◌<◌, ◌==◌, Bool, true, false, cond, List, [], ◌∷◌, ◌++◌, length, sym, ap, ◌∙◌, subst, arith}
use Rattle.std.specs.Prelude.{get_or, map, if◌then◌else◌}
use Rattle.std.specs.List.{range_with_len}
use Rattle.std.specs.declared.vec.Vec.{Vec}
use Rattle.std.proofs.lemmas.Bool.{eqb-true}
use Rattle.std.proofs.lemmas.Bool.Decides.{nat_tests}
use Rattle.std.proofs.lemmas.List.{length-append, length-map}
use Rattle.std.proofs.lemmas.List.FromFn.{get_or-map-range_with_len, map-range_with_len_more}
use Rattle.sb_packet.specs.Networks.{Network}
use Rattle.sb_flow.specs.Rings.{is_upward}
use Rattle.sb_flow.specs.NetworkOf.{network_of}
use Rattle.sb_flow.specs.declared.bundle.Bundle.{Bundle}
use Rattle.sb_laws.specs.NetworkLayouts.{ring_count}
use Rattle.sb_member.specs.Joints.{joint_at, no_joint}
use Rattle.sb_member.specs.declared.joint.Joint.{Joint}
use Rattle.sb_net.specs.Legs.{answer_joint, links_at, network_joints, pile_at, piles_of, request_joint, ring_joint}
use Rattle.sb_net.proofs.LinkPlaces.{by_value, links_more}
use Rattle.sb_net.proofs.Piles.{pile_there}

-- a ring of requests has an even number, and one of answers an odd one
even : (k : ℕ) → is_upward (2 * k) ≡ false
even k = let e : 2 * k % 2 ≡ 0 = omega arith in ap (λ n. n == 1) e

odd : (k : ℕ) → is_upward (2 * k + 1) ≡ true
odd k = let e : (2 * k + 1) % 2 ≡ 1 = omega arith in ap (λ n. n == 1) e

pub ring_joint_even : (network : Network) (k : ℕ) → ring_joint network (2 * k) ≡ request_joint network k
ring_joint_even network k = let half : 2 * k / 2 ≡ k = omega arith in
    ap (λ (b : Bool). if b then answer_joint network (2 * k / 2) else request_joint network (2 * k / 2)) (even k) ∙ ap (request_joint network) half

pub ring_joint_odd : (network : Network) (k : ℕ) → ring_joint network (2 * k + 1) ≡ answer_joint network k
ring_joint_odd network k = let half : (2 * k + 1) / 2 ≡ k = omega arith in
    ap (λ (b : Bool). if b then answer_joint network ((2 * k + 1) / 2) else request_joint network ((2 * k + 1) / 2)) (odd k) ∙ ap (answer_joint network) half

-- each ring is of requests or of answers
pub by_ring : (P : ℕ → Type 0) (n r : ℕ) → r < 2 * n → ((k : ℕ) → k < n → P (2 * k)) → ((k : ℕ) → k < n → P (2 * k + 1)) → P r
by_ring P n r lt requests answers = by_value (r % 2 == 1)
    (λ e. let at = eqb-true (r % 2) 1 e in let same : 2 * (r / 2) + 1 ≡ r = omega (arith, at) in let low : r / 2 < n = omega (arith, lt) in subst P same (answers (r / 2) low))
    (λ e. let rest : r % 2 ≡ 0 = grind (arith, nat_tests) in let same : 2 * (r / 2) ≡ r = omega (arith, rest) in let low : r / 2 < n = omega (arith, lt) in subst P same (requests (r / 2) low))

-- two rings more stand where their link's do
pub joints_more : (network : Network) (k : ℕ) (before between after : List Joint) (down up : Joint) → before ≡ map (ring_joint network) (range_with_len 0 (2 * k)) → between ≡ before ++ down ∷ [] → after ≡ between ++ up ∷ []
    → down ≡ request_joint network k → up ≡ answer_joint network k → after ≡ map (ring_joint network) (range_with_len 0 (2 * (k + 1)))
joints_more network k before between after down up so_far one two down_is up_is =
    let next : 2 * k + 1 + 1 ≡ 2 * (k + 1) = omega arith in
    two ∙ ap (λ list. list ++ up ∷ []) (one ∙ ap (λ list. list ++ down ∷ []) so_far ∙ ap (λ j. map (ring_joint network) (range_with_len 0 (2 * k)) ++ j ∷ []) (down_is ∙ sym (ring_joint_even network k))
    ∙ sym (map-range_with_len_more (ring_joint network) 0 (2 * k) (2 * k) (omega arith)))
    ∙ ap (λ j. map (ring_joint network) (range_with_len 0 (2 * k + 1)) ++ j ∷ []) (up_is ∙ sym (ring_joint_odd network k))
    ∙ sym (map-range_with_len_more (ring_joint network) 0 (2 * k + 1) (2 * k + 1) (omega arith)) ∙ ap (λ n. map (ring_joint network) (range_with_len 0 n)) next

pub seat_is : (network : Network) (seats : List Joint) (k : ℕ) (seat : Joint) → seats ≡ map (request_joint network) (range_with_len 0 (length network.links)) → k < length network.links → seat ≡ get_or seats k seat → seat ≡ request_joint network k
seat_is network seats k seat all lt at = at ∙ ap (λ xs. get_or xs k seat) all ∙ get_or-map-range_with_len (request_joint network) 0 (length network.links) k k seat lt (omega arith)

-- no more links than there are
pub few_at : (node : ℕ → ℕ) (n m : ℕ) → length (links_at node n m) ≤ n
few_at node zero m = omega arith
few_at node (suc n) m =
    let before = few_at node n m in
    let one = at_most_one (node n == m) n in
    let longer = ap (λ (xs : List ℕ). length xs) (links_more node n m) in
    omega (arith, before, one, longer, length-append (links_at node n m) (cond (node n == m) (n ∷ []) []))
  where
    at_most_one : (b : Bool) (n : ℕ) → length (cond b (n ∷ []) []) ≤ 1
    at_most_one true n = omega arith
    at_most_one false n = omega arith

pub few_links : (b : Bundle) → length (network_of b).links ≤ 128
few_links b = grind (arith, b.limits)

-- how many things are in a node's pile
pub pile_many : {A Z : Type 0} (link : A → ℕ) (node : ℕ → ℕ) (n m : ℕ) (piles : List (Vec A Z)) (pile : Vec A Z) → m < length piles → pile ≡ get_or piles m pile → map link (pile_at (piles_of piles) m) ≡ links_at node n m → length pile.items ≡ length (links_at node n m)
pile_many link node n m piles pile lt at here =
    let same = ap (λ p. length p.items) at ∙ sym (ap (λ list. length list) (pile_there piles m pile lt)) in
    same ∙ sym (length-map (pile_at (piles_of piles) m) link) ∙ ap (λ (xs : List ℕ). length xs) here

pub joint_is : (network : Network) (joints : List Joint) (r : ℕ) → joints ≡ network_joints network → r < ring_count network → joint_at joints r ≡ ring_joint network r
joint_is network joints r is lt = ap (λ xs. joint_at xs r) is ∙ get_or-map-range_with_len (ring_joint network) 0 (ring_count network) r r no_joint lt (omega arith)
