-- The links of a way to a device: none leads to a router that another leads to, and only the last leads to a device.
use Rattle.std.proofs.Common.{◌≡◌, ◌<◌, ℕ, Bool, true, false, List, [], ◌∷◌, length, refl, sym, ap, ◌∙◌, arith, subst}
use Rattle.std.specs.Prelude.{◌==◌, ◌||◌, All, Option, Some, None, slice_get, option_and_then}
use Rattle.std.specs.List.{list_any}
use Rattle.std.specs.Option.{option_map_or}
use Rattle.std.proofs.lemmas.Bool.Decides.{nat_tests}
use Rattle.std.proofs.lemmas.List.Elements.{All-nil, All-cons, All-head, All-tail}
use Rattle.sb_packet.specs.Networks.{Network, NetLink, NetPlace, at_host, at_router, at_device, leads_to}
use Rattle.sb_flow.specs.Ways.{router_at_end, router_before, router_after}
use Rattle.sb_laws.specs.Flows.{last_of}
use Rattle.sb_laws.specs.NetworkLayouts.{is_link_to, IsWayTo}
use Rattle.sb_laws.proofs.Ways.{at_number}

-- a number is among others
abbrev pub is_in : ℕ → List ℕ → Bool
is_in k list = list_any (λ i. i == k) list

-- a number among others is the first of them, or among the rest
pub in_cases : (P : Type 0) (k x : ℕ) (rest : List ℕ) → is_in k (x ∷ rest) ≡ true → (x ≡ k → P) → (is_in k rest ≡ true → P) → P
in_cases P k x rest e first later = by_test (x == k) refl e
  where
    by_test : (b : Bool) → (x == k) ≡ b → (b || is_in k rest) ≡ true → P
    by_test true t e = first (grind (arith, nat_tests))
    by_test false t e = later e

-- a link to a device leads to no router, and to no other device
not_to_router : (d r : ℕ) (link : NetLink) → leads_to d link ≡ true → router_at_end link.to ≡ Some r → ⊥
not_to_router d r link e f = by_end link.to refl
  where
    by_end : (p : NetPlace) → link.to ≡ p → ⊥
    by_end (at_host h) is = let never = rw is at f in cc
    by_end (at_router q) is = let never = rw is at e in cc
    by_end (at_device k) is = let never = rw is at f in cc

to_one_device : (d k : ℕ) (link : NetLink) → leads_to d link ≡ true → leads_to k link ≡ true → d ≡ k
to_one_device d k link e f = by_end link.to refl
  where
    by_end : (p : NetPlace) → link.to ≡ p → d ≡ k
    by_end (at_host h) is = absurd (let never = rw is at f in cc)
    by_end (at_router q) is = absurd (let never = rw is at f in cc)
    by_end (at_device q) is = let one = rw is at e in let other = rw is at f in grind (arith, nat_tests)

module _ (network : Network) where
  pub device_or_router : (d k r : ℕ) → is_link_to network d k ≡ true → router_after network k ≡ Some r → ⊥
  device_or_router d k r e f = by_link (slice_get network.links k) e f
    where
      by_link : (o : Option NetLink) → option_map_or (leads_to d) o false ≡ true → option_and_then (λ link. router_at_end link.to) o ≡ Some r → ⊥
      by_link None e f = cc
      by_link (Some link) e f = not_to_router d r link e f

  pub one_device : (d e k : ℕ) → is_link_to network d k ≡ true → is_link_to network e k ≡ true → d ≡ e
  one_device d e k p q = by_link (slice_get network.links k) p q
    where
      by_link : (o : Option NetLink) → option_map_or (leads_to d) o false ≡ true → option_map_or (leads_to e) o false ≡ true → d ≡ e
      by_link None p q = absurd (cc)
      by_link (Some link) p q = to_one_device d e link p q

  module _ (d : ℕ) where
    -- all links of a way are there
    pub links_there : (list : List ℕ) → IsWayTo network d list → All (λ k. k < length network.links) list
    links_there [] way = absurd way
    links_there (k ∷ []) way = All-cons (λ k. k < length network.links) k [] way.0 (All-nil (λ k. k < length network.links))
    links_there (k ∷ j ∷ rest) way = All-cons (λ k. k < length network.links) k (j ∷ rest) way.0 (links_there (j ∷ rest) way.2)

    -- the last leads to the device
    pub last_leads : (k : ℕ) (js : List ℕ) → IsWayTo network d (k ∷ js) → is_link_to network d (last_of k js) ≡ true
    last_leads k [] way = way.1
    last_leads k (j ∷ js) way = last_leads j js way.2

    -- and no other leads to any
    pub only_to_device : (e k : ℕ) (list : List ℕ) → IsWayTo network d list → is_in k list ≡ true → is_link_to network e k ≡ true → d ≡ e
    only_to_device e k [] way inside to = absurd way
    only_to_device e k (x ∷ []) way inside to = in_cases (d ≡ e) k x [] inside (λ same. one_device d e x way.1 (subst (λ (n : ℕ). is_link_to network e n ≡ true) (sym same) to)) (λ never. absurd (cc))
    only_to_device e k (x ∷ j ∷ rest) way inside to = in_cases (d ≡ e) k x (j ∷ rest) inside
        (λ same. absurd (device_or_router e k way.1.router to (ap (router_after network) (sym same) ∙ way.1.leads)))
        (λ later. only_to_device e k (j ∷ rest) way.2 later to)

    -- two links of a way that lead to one router are one
    pub one_into : (r j k : ℕ) (list : List ℕ) → IsWayTo network d list → is_in j list ≡ true → is_in k list ≡ true → router_after network j ≡ Some r → router_after network k ≡ Some r → j ≡ k
    one_into r j k [] way p q e f = absurd way
    one_into r j k (x ∷ []) way p q e f = in_cases (j ≡ k) j x [] p (λ first. in_cases (j ≡ k) k x [] q (λ second. sym first ∙ second) (λ never. absurd (cc))) (λ never. absurd (cc))
    one_into r j k (x ∷ y ∷ rest) way p q e f = in_cases (j ≡ k) j x (y ∷ rest) p
        (λ first. in_cases (j ≡ k) k x (y ∷ rest) q (λ second. sym first ∙ second) (λ later. absurd (above k later first f e)))
        (λ inside. in_cases (j ≡ k) k x (y ∷ rest) q (λ second. absurd (above j inside second e f)) (λ within. one_into r j k (y ∷ rest) way.2 inside within e f))
      where
        -- a later link leads to a later router
        above : (i : ℕ) {z : ℕ} → is_in i (y ∷ rest) ≡ true → x ≡ z → router_after network i ≡ Some r → router_after network z ≡ Some r → ⊥
        above i {z} later same here there =
            let up : way.1.router < r = at_number (λ n. (q : ℕ) → router_after network n ≡ Some q → way.1.router < q) i (y ∷ rest) way.1.later later r here in
            let equal : Some way.1.router ≡ Some r = sym way.1.leads ∙ ap (router_after network) same ∙ there in
            let one : way.1.router ≡ r = cc in
            absurd (omega arith)

    -- behind a link that leaves a router, each leaves a later one
    out_later : (low r k y : ℕ) (rest : List ℕ) → IsWayTo network d (y ∷ rest) → All (λ i. (q : ℕ) → router_after network i ≡ Some q → low < q) (y ∷ rest) → is_in k rest ≡ true → router_before network k ≡ Some r → low < r
    out_later low r k y [] way later inside e = absurd (cc)
    out_later low r k y (w ∷ rest) way later inside e = in_cases (low < r) k w rest inside
        (λ same. All-head (λ i. (q : ℕ) → router_after network i ≡ Some q → low < q) y (w ∷ rest) later r (way.1.leads ∙ sym way.1.leaves ∙ ap (router_before network) same ∙ e))
        (λ further. out_later low r k w rest way.2 (All-tail (λ i. (q : ℕ) → router_after network i ≡ Some q → low < q) y (w ∷ rest) later) further e)

    one_out_behind : (low r j k y : ℕ) (rest : List ℕ) → IsWayTo network d (y ∷ rest) → router_before network y ≡ Some low → All (λ i. (q : ℕ) → router_after network i ≡ Some q → low < q) (y ∷ rest) →
        is_in j (y ∷ rest) ≡ true → is_in k (y ∷ rest) ≡ true → router_before network j ≡ Some r → router_before network k ≡ Some r → j ≡ k
    one_out_behind low r j k y [] way leaves later p q e f = in_cases (j ≡ k) j y [] p (λ first. in_cases (j ≡ k) k y [] q (λ second. sym first ∙ second) (λ never. absurd (cc))) (λ never. absurd (cc))
    one_out_behind low r j k y (w ∷ rest) way leaves later p q e f = in_cases (j ≡ k) j y (w ∷ rest) p
        (λ first. in_cases (j ≡ k) k y (w ∷ rest) q (λ second. sym first ∙ second) (λ inside. absurd (up k inside first f e)))
        (λ inside. in_cases (j ≡ k) k y (w ∷ rest) q (λ second. absurd (up j inside second e f)) (λ within. one_out_behind way.1.router r j k w rest way.2 way.1.leaves way.1.later inside within e f))
      where
        up : (i : ℕ) {z : ℕ} → is_in i (w ∷ rest) ≡ true → y ≡ z → router_before network i ≡ Some r → router_before network z ≡ Some r → ⊥
        up i {z} inside same here there =
            let more = out_later low r i y (w ∷ rest) way later inside here in
            let equal : Some low ≡ Some r = sym leaves ∙ ap (router_before network) same ∙ there in
            let one : low ≡ r = cc in
            absurd (omega arith)

    -- two links of a way that leave one router are one
    pub one_out_of : (r j k x : ℕ) (rest : List ℕ) → IsWayTo network d (x ∷ rest) → router_before network x ≡ None → is_in j (x ∷ rest) ≡ true → is_in k (x ∷ rest) ≡ true →
        router_before network j ≡ Some r → router_before network k ≡ Some r → j ≡ k
    one_out_of r j k x rest way start p q e f = in_cases (j ≡ k) j x rest p (λ first. absurd (not_first first e))
        (λ inside. in_cases (j ≡ k) k x rest q (λ second. absurd (not_first second f)) (λ within. behind rest way inside within))
      where
        not_first : {z : ℕ} → x ≡ z → router_before network z ≡ Some r → ⊥
        not_first {z} same there = let never : None ≡ Some r = sym start ∙ ap (router_before network) same ∙ there in cc

        behind : (list : List ℕ) → IsWayTo network d (x ∷ list) → is_in j list ≡ true → is_in k list ≡ true → j ≡ k
        behind [] way inside within = absurd (cc)
        behind (w ∷ list) way inside within = one_out_behind way.1.router r j k w list way.2 way.1.leaves way.1.later inside within e f
