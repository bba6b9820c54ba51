-- A way that is walked link by link, by routes that lead on, leads to its device.
use Rattle.std.proofs.Common.{◌≡◌, ◌≤◌, ◌<◌, ℕ, zero, suc, ◌+◌, List, [], ◌∷◌, length, refl, sym, ap, ◌∙◌, arith, subst, inl, inr}
use Rattle.std.specs.Prelude.{All, Option, Some, None, option_and_then}
use Rattle.std.proofs.lemmas.List.Elements.{All-nil, All-cons, All-head, All-tail, All-weaker}
use Rattle.sb_packet.specs.Networks.{Network}
use Rattle.sb_flow.specs.Ways.{route_at, router_before, router_after, next_link, links_from}
use Rattle.sb_flow.proofs.Walks.{links_from-None}
use Rattle.sb_laws.specs.NetworkLayouts.{IsRoute, IsRouted, IsWayTo, LeadsOn}
use Rattle.sb_laws.proofs.LinksOfWays.{device_or_router}

module _ (network : Network) (routed : IsRouted network) (d : ℕ) (there : d < length network.devices) where
  -- from a link that leaves router q each leads to a later router
  rising : (q j : ℕ) (rest : List ℕ) → IsWayTo network d (j ∷ rest) → router_before network j ≡ Some q → All (λ i. (r : ℕ) → router_after network i ≡ Some r → q < r) (j ∷ rest)
  rising q j [] way leaves = All-cons (λ i. (r : ℕ) → router_after network i ≡ Some r → q < r) j [] (λ r e. routed.forward j q r leaves e) (All-nil (λ i. (r : ℕ) → router_after network i ≡ Some r → q < r))
  rising q j (w ∷ rest) way leaves =
      let up : q < way.1.router = routed.forward j q way.1.router leaves way.1.leads in
      All-cons (λ i. (r : ℕ) → router_after network i ≡ Some r → q < r) j (w ∷ rest) (λ r e. routed.forward j q r leaves e)
      (All-weaker (λ i. (r : ℕ) → router_after network i ≡ Some r → way.1.router < r) (λ i. (r : ℕ) → router_after network i ≡ Some r → q < r) (λ i h r e. let more = h r e in omega arith) (w ∷ rest)
      (rising way.1.router w rest way.2 way.1.leaves))

  pub walked : (n k : ℕ) → k < length network.links → LeadsOn network d k → ((q : ℕ) → router_after network k ≡ Some q → length network.routers ≤ q + n) →
      All (λ i. (r : ℕ) → router_after network i ≡ Some r → (j : ℕ) × (route_at network d r ≡ Some j)) (k ∷ links_from n network d (next_link network d k)) →
      IsWayTo network d (k ∷ links_from n network d (next_link network d k))
  walked n k here (inl leads) room routes = subst (λ (l : List ℕ). IsWayTo network d (k ∷ l)) (sym (ap (links_from n network d) ends ∙ links_from-None n network d)) (here, leads)
    where
      ends : next_link network d k ≡ None
      ends = by_router (router_after network k) refl
        where
          by_router : (o : Option ℕ) → router_after network k ≡ o → option_and_then (route_at network d) o ≡ None
          by_router None e = refl
          by_router (Some q) e = absurd (device_or_router network d k q leads e)
  walked zero k here (inr (q, leads)) room routes = absurd (let low = room q leads in let high = routed.there k q leads in omega arith)
  walked (suc n) k here (inr (q, leads)) room routes =
      let to : (j : ℕ) × (route_at network d q ≡ Some j) = All-head (λ i. (r : ℕ) → router_after network i ≡ Some r → (j : ℕ) × (route_at network d r ≡ Some j)) k (links_from (suc n) network d (next_link network d k)) routes q leads in
      let rest = links_from n network d (next_link network d to.0) in
      let route : IsRoute network d q to.0 = routed.routes d q to.0 there (routed.there k q leads) to.1 in
      let next : links_from (suc n) network d (next_link network d k) ≡ to.0 ∷ rest = ap (links_from (suc n) network d) (ap (option_and_then (route_at network d)) leads ∙ to.1) in
      let way : IsWayTo network d (to.0 ∷ rest) = walked n to.0 route.there route.leads (λ r e. let up = routed.forward to.0 q r route.leaves e in let low = room q leads in omega arith)
      (subst (All (λ i. (r : ℕ) → router_after network i ≡ Some r → (w : ℕ) × (route_at network d r ≡ Some w))) next
      (All-tail (λ i. (r : ℕ) → router_after network i ≡ Some r → (w : ℕ) × (route_at network d r ≡ Some w)) k (links_from (suc n) network d (next_link network d k)) routes)) in
      subst (λ (l : List ℕ). IsWayTo network d (k ∷ l)) (sym next) (here, record { router = q; leads = leads; leaves = route.leaves; later = rising q to.0 rest way route.leaves }, way)
