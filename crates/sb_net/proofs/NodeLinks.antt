-- Which links each node of an accepted network has: a host one that leaves it, a device one that leads to it, and a router all that it is said to have.
use Rattle.std.proofs.Common.{◌≡◌, ◌≢◌, ◌≤◌, ℕ, zero, suc, ◌+◌, ◌<◌, ◌==◌, Bool, true, false, ◌||◌, cond, List, [], ◌∷◌, ◌++◌, length, refl, sym, ap, ◌∙◌, arith, inl, inr, ltb-true}
use Rattle.std.specs.Prelude.{◌⊎◌, Option, Some, filter, get_or, option_and_then, slice_get}
use Rattle.std.specs.List.{range_with_len}
use Rattle.std.specs.Option.{option_map_or}
use Rattle.std.proofs.lemmas.Bool.{cases_lt, eq-eqb, eqb-true}
use Rattle.std.proofs.lemmas.Bool.Decides.{nat_tests}
use Rattle.std.proofs.lemmas.List.Elements.{filter-append}
use Rattle.sb_packet.specs.Networks.{NetLink, NetPlace, Network, at_device, at_host, at_router, leads_to, leaves_from}
use Rattle.sb_flow.specs.Ways.{first_link, is_some_number, router_after, router_at_end, router_before}
use Rattle.sb_flow.specs.Accepted.{IsAccepted, is_there}
use Rattle.sb_flow.specs.Ends.{joins, same_device, same_host, share_an_end}
use Rattle.sb_flow.proofs.AcceptedLinks.{ends_there, link_joins}
use Rattle.sb_laws.specs.NetworkLayouts.{is_link_to, link_into, links_into, links_out_of}
use Rattle.sb_laws.proofs.AcceptedNetworks.{accepted_is_routed}
use Rattle.sb_laws.proofs.FitLinks.{device_end, fit_links, host_start}
use Rattle.sb_laws.proofs.LinksToDevices.{found_place, link_into_leads}
use Rattle.sb_laws.proofs.WaysOfRouted.{ways_of_routed}
use Rattle.sb_net.specs.Legs.{links_at, node_after, node_before, place_at_node, place_number}
use Rattle.sb_net.specs.Standing.{device_number, router_number}
use Rattle.sb_net.proofs.LinkPlaces.{at_place, by_value, placed, range_next}
use Rattle.sb_net.proofs.NodeNumbers.{any_link, link_at, link_got, node_after_is, node_before_is}

-- places that are there have numbers of their own
pub same_place : (network : Network) (p q : NetPlace) → is_there network p ≡ true → is_there network q ≡ true → place_number network p ≡ place_number network q → p ≡ q
same_place network (at_host h) (at_host k) t u e = ap at_host e
same_place network (at_host h) (at_router q) t u e = absurd (let low = ltb-true h (length network.hosts) t in omega (arith, low, e))
same_place network (at_host h) (at_device q) t u e = absurd (let low = ltb-true h (length network.hosts) t in omega (arith, low, e))
same_place network (at_router r) (at_host k) t u e = absurd (let low = ltb-true k (length network.hosts) u in omega (arith, low, e))
same_place network (at_router r) (at_router q) t u e = let same : r ≡ q = omega (arith, e) in ap at_router same
same_place network (at_router r) (at_device q) t u e = absurd (let low = ltb-true r (length network.routers) t in omega (arith, low, e))
same_place network (at_device d) (at_host k) t u e = absurd (let low = ltb-true k (length network.hosts) u in omega (arith, low, e))
same_place network (at_device d) (at_router q) t u e = absurd (let low = ltb-true q (length network.routers) u in omega (arith, low, e))
same_place network (at_device d) (at_device q) t u e = let same : d ≡ q = omega (arith, e) in ap at_device same

-- a list of one
one_item : (xs : List ℕ) (k : ℕ) → 0 < length xs → ((o : ℕ) → o < length xs → (get_or xs o 0 ≡ k) × (o ≡ 0)) → xs ≡ k ∷ []
one_item [] k some each = absurd (omega (arith, some))
one_item (x ∷ []) k some each = ap (λ y. y ∷ []) (each 0 (omega arith)).0
one_item (x ∷ y ∷ xs) k some each = absurd (let never = (each 1 (omega arith)).1 in omega (arith, never))

module _ (node : ℕ → ℕ) (n m : ℕ) where
  -- a node with one link
  pub only_one : (k : ℕ) → k < n → node k ≡ m → ((j : ℕ) → j < n → node j ≡ m → j ≡ k) → links_at node n m ≡ k ∷ []
  only_one k there at only =
      let own = placed node n m k there at in
      let below = own.below in
      let some : 0 < length (links_at node n m) = omega (arith, below) in
      let first = at_place node n m 0 0 some in
      let zero_is : place_at_node node k ≡ 0 = ap (place_at_node node) (sym (only (get_or (links_at node n m) 0 0) first.below first.at)) ∙ first.place in
      one_item (links_at node n m) k some (λ o lt.
      let p = at_place node n m o 0 lt in
      let same = only (get_or (links_at node n m) o 0) p.below p.at in
      (same, sym p.place ∙ ap (place_at_node node) same ∙ zero_is))

  -- a node with none
  pub none_at : ((j : ℕ) → j < n → node j ≡ m → ⊥) → links_at node n m ≡ []
  none_at never = empty (links_at node n m) (λ lt. let p = at_place node n m 0 0 lt in never (get_or (links_at node n m) 0 0) p.below p.at)
    where
      empty : (xs : List ℕ) → (0 < length xs → ⊥) → xs ≡ []
      empty [] none = refl
      empty (x ∷ xs) none = absurd (none (omega arith))

-- two tests of numbers that agree
pub filter_agrees : (p q : ℕ → Bool) (n : ℕ) → ((k : ℕ) → k < n → p k ≡ q k) → filter p (range_with_len 0 n) ≡ filter q (range_with_len 0 n)
filter_agrees p q zero same = refl
filter_agrees p q (suc n) same =
    ap (filter p) (range_next n) ∙ filter-append p (range_with_len 0 n) (n ∷ [])
    ∙ ap (λ xs. xs ++ filter p (n ∷ [])) (filter_agrees p q n (λ k lt. same k (omega (arith, lt))))
    ∙ ap (λ (b : Bool). filter q (range_with_len 0 n) ++ cond b (n ∷ []) []) (same n (omega arith))
    ∙ sym (filter-append q (range_with_len 0 n) (n ∷ [])) ∙ sym (ap (filter q) (range_next n))

-- a test for a router's number asks for the router
router_test : (network : Network) (r : ℕ) (p : NetPlace) → r < length network.routers → is_there network p ≡ true → (place_number network p == router_number network r) ≡ is_some_number r (router_at_end p)
router_test network r (at_host h) lt t = let low = ltb-true h (length network.hosts) t in let apart : (h == length network.hosts + r) ≡ false = grind (arith, nat_tests) in apart
router_test network r (at_router q) lt t = let same : (length network.hosts + q == length network.hosts + r) ≡ (q == r) = by_value (q == r)
    (λ e. let is = eqb-true q r e in eq-eqb (length network.hosts + q) (length network.hosts + r) (omega (arith, is)) ∙ sym e)
    (λ e. let differ : q ≢ r = λ is. absurd (let yes_it_is = eq-eqb q r is in cc) in let apart : (length network.hosts + q == length network.hosts + r) ≡ false = grind (arith, nat_tests) in apart ∙ sym e) in same
router_test network r (at_device d) lt t = let apart : (length network.hosts + length network.routers + d == length network.hosts + r) ≡ false = grind (arith, nat_tests) in apart

module _ (network : Network) (good : IsAccepted network) where
  from_there : (k : ℕ) → k < length network.links → is_there network (link_at network k).from ≡ true
  from_there k lt = (ends_there network k (link_at network k) good (link_got network k lt)).0

  to_there : (k : ℕ) → k < length network.links → is_there network (link_at network k).to ≡ true
  to_there k lt = (ends_there network k (link_at network k) good (link_got network k lt)).1

  joined : (k : ℕ) → k < length network.links → joins (link_at network k).from (link_at network k).to ≡ true
  joined k lt = link_joins network k (link_at network k) good (link_got network k lt)

  -- a link has a node at an end just where it names the node there
  pub before_is : (p : NetPlace) (k : ℕ) → is_there network p ≡ true → k < length network.links → node_before network k ≡ place_number network p → (link_at network k).from ≡ p
  before_is p k t lt e = same_place network (link_at network k).from p (from_there k lt) t (sym (node_before_is network k (link_at network k) (link_got network k lt)) ∙ e)

  pub after_is : (p : NetPlace) (k : ℕ) → is_there network p ≡ true → k < length network.links → node_after network k ≡ place_number network p → (link_at network k).to ≡ p
  after_is p k t lt e = same_place network (link_at network k).to p (to_there k lt) t (sym (node_after_is network k (link_at network k) (link_got network k lt)) ∙ e)

  -- no link leads to a host, and none leaves a device
  never_to_host : (k h : ℕ) → k < length network.links → (link_at network k).to ≡ at_host h → ⊥
  never_to_host k h lt e = let j : joins (link_at network k).from (at_host h) ≡ true = ap (joins (link_at network k).from) (sym e) ∙ joined k lt in by (link_at network k).from j
    where
      by : (p : NetPlace) → joins p (at_host h) ≡ true → ⊥
      by (at_host x) j = cc
      by (at_router x) j = cc
      by (at_device x) j = cc

  never_from_device : (k d : ℕ) → k < length network.links → (link_at network k).from ≡ at_device d → ⊥
  never_from_device k d lt e = let j : joins (at_device d) (link_at network k).to ≡ true = ap (λ (p : NetPlace). joins p (link_at network k).to) (sym e) ∙ joined k lt in by (link_at network k).to j
    where
      by : (p : NetPlace) → joins (at_device d) p ≡ true → ⊥
      by (at_host x) j = cc
      by (at_router x) j = cc
      by (at_device x) j = cc

  -- a host stands at one link, and so does a device
  one_from_host : (h j k : ℕ) → j < length network.links → k < length network.links → (link_at network j).from ≡ at_host h → (link_at network k).from ≡ at_host h → j ≡ k
  one_from_host h j k in_j in_k e f = by_places (cases_lt j k) (cases_lt k j)
    where
      share : (x y : NetLink) → x.from ≡ at_host h → y.from ≡ at_host h → share_an_end x y ≡ true
      share x y a b = let own = eq-eqb h h refl in
          ap (λ (p : NetPlace). same_host p y.from || same_device x.to y.to) a ∙ ap (λ (p : NetPlace). same_host (at_host h) p || same_device x.to y.to) b ∙ ap (λ (t : Bool). t || same_device x.to y.to) own

      apart : (i o : ℕ) → i < o → o < length network.links → (link_at network i).from ≡ at_host h → (link_at network o).from ≡ at_host h → ⊥
      apart i o lt inside a b = let differ = (fit_links network good.ends).apart i o any_link lt inside in let both = share (link_at network o) (link_at network i) b a in cc

      by_places : (j < k) ⊎ (k ≤ j) → (k < j) ⊎ (j ≤ k) → j ≡ k
      by_places (inl below) other = absurd (apart j k below in_k e f)
      by_places (inr le) (inl below) = absurd (apart k j below in_j f e)
      by_places (inr le) (inr ge) = omega (arith, le, ge)

  -- what a place of the links passes is known of the link there
  got_passes : (test : NetLink → Bool) (k : ℕ) → k < length network.links → option_map_or test (slice_get network.links k) false ≡ true → test (link_at network k) ≡ true
  got_passes test k lt e = ap (λ (o : Option NetLink). option_map_or test o false) (sym (link_got network k lt)) ∙ e

  -- the one link of a host
  pub record IsHostLink (h k : ℕ) : Type 0 where
    pub first : first_link network h ≡ Some k
    pub own : links_at (node_before network) (length network.links) h ≡ k ∷ []
    pub none : links_at (node_after network) (length network.links) h ≡ []

  pub host_link : (h : ℕ) → h < length network.hosts → (k : ℕ) × IsHostLink h k
  host_link h lt =
      let found = (accepted_is_routed network good).first h lt in
      let k = found.0 in
      let there = found.1.there in
      let place = found_place (leaves_from h) 0 k network.links found.1.first in
      let at : k ≡ place.0 = omega (arith, place.1) in
      let passes : option_map_or (leaves_from h) (slice_get network.links k) false ≡ true = rw at place.2.passes in
      let starts = host_start h (link_at network k) (got_passes (leaves_from h) k there passes) in
      let listed : is_there network (at_host h) ≡ true = grind (arith, nat_tests) in (
        k,
        record {
          first = found.1.first;
          own = only_one (node_before network) (length network.links) h k there (node_before_is network k (link_at network k) (link_got network k there) ∙ ap (place_number network) starts)
              (λ j low e. one_from_host h j k low there (before_is (at_host h) j listed low e) starts);
          none = none_at (node_after network) (length network.links) h (λ j low e. never_to_host j h low (after_is (at_host h) j listed low e));
        },
      )

  -- the one link of a device
  pub record IsDeviceLink (d : ℕ) : Type 0 where
    pub there : link_into network d < length network.links
    pub leads : is_link_to network d (link_into network d) ≡ true
    pub own : links_at (node_after network) (length network.links) (device_number network d) ≡ link_into network d ∷ []
    pub none : links_at (node_before network) (length network.links) (device_number network d) ≡ []

  pub device_link : (d : ℕ) → d < length network.devices → IsDeviceLink d
  device_link d lt =
      let routed = accepted_is_routed network good in
      let k = link_into network d in
      let into = link_into_leads network (ways_of_routed network routed) d lt in
      let there = into.there in
      let ends = device_end d (link_at network k) (got_passes (leads_to d) k there into.leads) in
      let listed : is_there network (at_device d) ≡ true = grind (arith, nat_tests) in
      record {
        there = there;
        leads = into.leads;
        own = only_one (node_after network) (length network.links) (device_number network d) k there (node_after_is network k (link_at network k) (link_got network k there) ∙ ap (place_number network) ends)
            (λ j low e. let same = after_is (at_device d) j listed low e in
            routed.one_link d j k (ap (λ (o : Option NetLink). option_map_or (leads_to d) o false) (link_got network j low) ∙ leads_there d (link_at network j) same) into.leads);
        none = none_at (node_before network) (length network.links) (device_number network d) (λ j low e. never_from_device j d low (before_is (at_device d) j listed low e));
      }
    where
      leads_there : (d : ℕ) (l : NetLink) → l.to ≡ at_device d → leads_to d l ≡ true
      leads_there d l e = rw e (eq-eqb d d refl)

  -- the links of a router
  pub router_outs : (r : ℕ) → r < length network.routers → links_at (node_before network) (length network.links) (router_number network r) ≡ links_out_of network (Some r)
  router_outs r lt = filter_agrees (λ k. node_before network k == router_number network r) (λ k. is_some_number r (router_before network k)) (length network.links)
      (λ k low. ap (λ n. n == router_number network r) (node_before_is network k (link_at network k) (link_got network k low)) ∙ router_test network r (link_at network k).from lt (from_there k low)
      ∙ sym (ap (λ (o : Option NetLink). is_some_number r (option_and_then (λ link. router_at_end link.from) o)) (link_got network k low)))

  pub router_ins : (r : ℕ) → r < length network.routers → links_at (node_after network) (length network.links) (router_number network r) ≡ links_into network (Some r)
  router_ins r lt = filter_agrees (λ k. node_after network k == router_number network r) (λ k. is_some_number r (router_after network k)) (length network.links)
      (λ k low. ap (λ n. n == router_number network r) (node_after_is network k (link_at network k) (link_got network k low)) ∙ router_test network r (link_at network k).to lt (to_there k low)
      ∙ sym (ap (λ (o : Option NetLink). is_some_number r (option_and_then (λ link. router_at_end link.to) o)) (link_got network k low)))
