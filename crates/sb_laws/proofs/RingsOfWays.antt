-- The rings of a way, there and back, by the links that they are of.
use Rattle.std.proofs.Common.{◌≡◌, ◌≤◌, ℕ, zero, suc, ◌+◌, ◌*◌, Bool, true, false, cond, List, [], ◌∷◌, ◌++◌, refl, sym, ap, ◌∙◌, arith, subst}
use Rattle.std.specs.Prelude.{◌==◌, ◌||◌, map, filter, reverse, All, AllPairs, slice_index_or}
use Rattle.std.specs.List.{range_with_len}
use Rattle.std.proofs.lemmas.Bool.Decides.{nat_tests}
use Rattle.std.proofs.lemmas.List.{reverse-append}
use Rattle.std.proofs.lemmas.List.Concat.{flat_map_single}
use Rattle.std.proofs.lemmas.List.Elements.{All-nil, All-cons, All-map, All-append, All-filter, All-weaker, filter_passes}
use Rattle.std.proofs.lemmas.List.Folds.{list_any-append}
use Rattle.std.proofs.lemmas.List.Kept.{AllPairs-cons}
use Rattle.sb_packet.specs.Networks.{Network}
use Rattle.sb_link.specs.RingPlans.{NetFlow}
use Rattle.sb_flow.specs.Ways.{flow_links}
use Rattle.sb_laws.specs.Flows.{last_of}
use Rattle.sb_laws.specs.NetworkLayouts.{request_ring, answer_ring, links_back, rings_there, rings_back}
use Rattle.sb_laws.proofs.FlowMembers.{not_true}
use Rattle.sb_laws.proofs.LinksOfWays.{is_in}

-- as each link has one ring each way, a flow's way has a ring for each of its links
pub ring_by_ring : (network : Network) (f : NetFlow) → rings_there network f ≡ map request_ring (flow_links network f)
ring_by_ring network f = flat_map_single request_ring (flow_links network f)

pub ring_by_ring_back : (network : Network) (f : NetFlow) → rings_back network f ≡ map answer_ring (links_back network f)
ring_by_ring_back network f = flat_map_single answer_ring (links_back network f)

-- a list the other way round has what it has
pub is_in-reverse : (k : ℕ) (list : List ℕ) → is_in k (reverse list) ≡ is_in k list
is_in-reverse k [] = refl
is_in-reverse k (x ∷ list) =
    ap (is_in k) (reverse-append (x ∷ []) list) ∙ list_any-append (λ i. i == k) (reverse list) (x ∷ []) ∙ by_parts (x == k) (is_in k (reverse list)) (is_in k list) (is_in-reverse k list)
  where
    by_parts : (a b c : Bool) → b ≡ c → (b || (a || false)) ≡ (a || c)
    by_parts true true c e = refl
    by_parts true false c e = refl
    by_parts false true c e = e
    by_parts false false c e = e

pub All-reverse : (P : ℕ → Type 0) (list : List ℕ) → All P list → All P (reverse list)
All-reverse P [] h = h
All-reverse P (x ∷ list) h = subst (All P) (sym (reverse-append (x ∷ []) list))
    (All-append P (reverse list) (x ∷ []) (All-reverse P list (λ k d below. h (suc k) d (omega arith))) (All-cons P x [] (h 0 x (omega arith)) (All-nil P)))

-- the other way round the last is the first
pub record Reversed (k : ℕ) (js : List ℕ) : Type 0 where
  pub rest : List ℕ
  pub is : reverse (k ∷ js) ≡ last_of k js ∷ rest

pub reversed : (k : ℕ) (js : List ℕ) → Reversed k js
reversed k [] = record { rest = []; is = refl }
reversed k (j ∷ js) =
    let later = reversed j js in
    record { rest = later.rest ++ k ∷ []; is = reverse-append (k ∷ []) (j ∷ js) ∙ ap (λ (l : List ℕ). l ++ k ∷ []) later.is }

pub last_is_in : (k : ℕ) (js : List ℕ) → is_in (last_of k js) (k ∷ js) ≡ true
last_is_in k [] = let same : (k == k) ≡ true = grind (arith, nat_tests) in rw same refl
last_is_in k (j ∷ js) = or_right (k == last_of j js) (is_in (last_of j js) (j ∷ js)) (last_is_in j js)
  where
    or_right : (a b : Bool) → b ≡ true → (a || b) ≡ true
    or_right true b h = refl
    or_right false b h = h

-- the rings of some links have the ring of a link where they have the link
pub in_requests : (k : ℕ) (list : List ℕ) → is_in (request_ring k) (map request_ring list) ≡ is_in k list
in_requests k [] = refl
in_requests k (x ∷ list) = let same : (2 * x == 2 * k) ≡ (x == k) = grind (arith, nat_tests) in rw (same, in_requests k list) refl

pub in_answers : (k : ℕ) (list : List ℕ) → is_in (answer_ring k) (map answer_ring list) ≡ is_in k list
in_answers k [] = refl
in_answers k (x ∷ list) = let same : (2 * x + 1 == 2 * k + 1) ≡ (x == k) = grind (arith, nat_tests) in rw (same, in_answers k list) refl

-- among the numbers that pass a test, of which no two go by one way, at most one does
pub once_among : (test goes : ℕ → Bool) (ring : ℕ → ℕ) → ((a b : ℕ) → test a ≡ true → test b ≡ true → goes (ring a) ≡ true → goes (ring b) ≡ true → a ≡ b) → (start n : ℕ) →
    AllPairs (λ p q. goes p ≡ true → goes q ≡ false) (map ring (filter test (range_with_len start n)))
once_among test goes ring one start zero = λ i j d below inside. absurd (omega arith)
once_among test goes ring one start (suc n) = by_test (test start) refl (once_among test goes ring one (start + 1) n)
  where
    R : ℕ → ℕ → Type 0
    R p q = goes p ≡ true → goes q ≡ false

    above : (a m : ℕ) → All (λ x. a ≤ x) (range_with_len a m)
    above a zero = All-nil (λ x. a ≤ x)
    above a (suc m) = All-cons (λ x. a ≤ x) a (range_with_len (a + 1) m) (omega arith) (All-weaker (λ x. a + 1 ≤ x) (λ x. a ≤ x) (λ x h. omega arith) (range_with_len (a + 1) m) (above (a + 1) m))

    by_test : (b : Bool) → test start ≡ b → AllPairs (λ p q. goes p ≡ true → goes q ≡ false) (map ring (filter test (range_with_len (start + 1) n))) →
        AllPairs (λ p q. goes p ≡ true → goes q ≡ false) (map ring (cond b (start ∷ filter test (range_with_len (start + 1) n)) (filter test (range_with_len (start + 1) n))))
    by_test false t rest = rest
    by_test true t rest =
        let others = filter test (range_with_len (start + 1) n) in
        let later = All-filter test (λ x. start + 1 ≤ x) (range_with_len (start + 1) n) (above (start + 1) n) in
        let passes = filter_passes test (range_with_len (start + 1) n) in
        AllPairs-cons (λ p q. goes p ≡ true → goes q ≡ false) (ring start) (map ring others)
        (All-map (λ q. goes (ring start) ≡ true → goes q ≡ false) ring others (λ k d below over. not_true (goes (ring (slice_index_or others k d)))
        (λ over_too. let same = one start (slice_index_or others k d) t (passes k d below) over over_too in let more = later k d below in absurd (omega arith))))
        rest
