-- What is known of the links and the routes of an accepted network, one by one.
use Rattle.std.proofs.Common.{◌≡◌, ◌≤◌, ◌<◌, ℕ, zero, suc, ◌+◌, Bool, true, false, ◌&&◌, not, List, [], ◌∷◌, ◌++◌, length, refl, arith, Some, None, subst, ltb-true, leb-false}
use Rattle.std.specs.Prelude.{slice_get, if◌then◌else◌}
use Rattle.std.specs.List.{AllByRecursion, list_all, list_any, range_with_len}
use Rattle.std.proofs.lemmas.Bool.{and_parts, cases_eq, not-false}
use mathlib.Core.Logic.{inl, inr}
use Rattle.sb_packet.specs.Networks.{NetLink, NetPlace, Network, at_device, at_host, at_router}
use Rattle.sb_flow.specs.Ways.{down_stage, is_some_number, route_at, up_stage}
use Rattle.sb_flow.specs.Accepted.{IsAccepted, is_link_there, is_stray, is_there, leads_on, lost_flow, stray_route, stray_route_of}
use Rattle.sb_flow.specs.Ends.{goes_back, is_fit_link, joins, keeps_sides, share_an_end, unfit_behind}
use Rattle.sb_flow.proofs.RingLinks.{each_passes}
use Rattle.sb_flow.proofs.Clashes.{cond-None, first_told-None, option_or-None, position_from-None}

-- what holds of each item holds of the one that was got
pub at_got : {A : Type 0} (P : A → Type 0) (xs : List A) (k : ℕ) (x : A) → AllByRecursion P xs → slice_get xs k ≡ Some x → P x
at_got P [] k x all got = cc
at_got P (y ∷ xs) zero x all got = let same : y ≡ x = cc in subst P same all.0
at_got P (y ∷ xs) (suc k) x all got = at_got P xs k x all.1 got

-- what is got is among the items
pub got_below : {A : Type 0} (xs : List A) (k : ℕ) (x : A) → slice_get xs k ≡ Some x → k < length xs
got_below [] k x got = cc
got_below (y ∷ xs) zero x got = omega arith
got_below (y ∷ xs) (suc k) x got = omega (arith, got_below xs k x got)

-- the numbers of a range, one by one
pub at_range : (P : ℕ → Type 0) (a n k : ℕ) → AllByRecursion P (range_with_len a n) → a ≤ k → k < a + n → P k
at_range P a zero k all low high = absurd (omega arith)
at_range P a (suc n) k all low high = elim (cases_eq a k) [
  | inl here ↦ subst P here all.0
  | inr other ↦ at_range P (a + 1) n k all.1 (omega arith) (omega arith)
]

-- each link joins what it may
joined_behind : (network : Network) (before links : List NetLink) → unfit_behind network before links ≡ None → AllByRecursion (λ l. joins l.from l.to ≡ true) links
joined_behind network before [] h = tt
joined_behind network before (l ∷ links) h = by (is_fit_link network before (length before) l) refl h (joined_behind network (before ++ l ∷ []) links)
  where
    fit : is_fit_link network before (length before) l ≡ true → joins l.from l.to ≡ true
    fit e = (and_parts (joins l.from l.to) (not (list_any (share_an_end l) before)) (and_parts (joins l.from l.to && not (list_any (share_an_end l) before)) (keeps_sides network (is_some_number (length before) network.wire) l.from l.to) e).0).0

    by : (b : Bool) → is_fit_link network before (length before) l ≡ b → (if b then unfit_behind network (before ++ l ∷ []) links else Some (length before)) ≡ None → (unfit_behind network (before ++ l ∷ []) links ≡ None → AllByRecursion (λ (l : NetLink). joins l.from l.to ≡ true) links) → AllByRecursion (λ l. joins l.from l.to ≡ true) (l ∷ links)
    by true e rest later = (fit e, later rest)
    by false e rest later = cc

pub link_joins : (network : Network) (k : ℕ) (l : NetLink) → IsAccepted network → slice_get network.links k ≡ Some l → joins l.from l.to ≡ true
link_joins network k l good got = at_got (λ l. joins l.from l.to ≡ true) network.links k l (joined_behind network [] network.links good.ends) got

-- and none goes back
pub link_forward : (network : Network) (k : ℕ) (l : NetLink) → IsAccepted network → slice_get network.links k ≡ Some l → goes_back l.from l.to ≡ false
link_forward network k l good got = at_got (λ l. goes_back l.from l.to ≡ false) network.links k l (position_from-None (λ (l : NetLink). goes_back l.from l.to) 0 network.links good.forward) got

-- the routes of a router that is there lead on
pub route_leads_on : (network : Network) (r d k : ℕ) → IsAccepted network → r < length network.routers → d < length network.devices → route_at network d r ≡ Some k → leads_on network r d k ≡ true
route_leads_on network r d k good router device route =
    let parts = option_or-None (stray_route network) (lost_flow network) good.routes in
    let of_router : stray_route_of network r ≡ None = at_range (λ r. stray_route_of network r ≡ None) 0 (length network.routers) r (first_told-None (stray_route_of network) (range_with_len 0 (length network.routers)) parts.0) (omega arith) (omega arith) in
    let at_device : (if is_stray network r d then Some (record { router = r; device = d }) else None) ≡ None = at_range (λ d. (if is_stray network r d then Some (record { router = r; device = d }) else None) ≡ None) 0 (length network.devices) d (first_told-None (λ d. if is_stray network r d then Some (record { router = r; device = d }) else None) (range_with_len 0 (length network.devices)) of_router) (omega arith) (omega arith) in
    let straight : is_stray network r d ≡ false = (cond-None (is_stray network r d) (record { router = r; device = d }) None at_device).0 in
    not-false (leads_on network r d k) (rw route at straight)

-- the ends of each link are there
pub ends_there : (network : Network) (k : ℕ) (l : NetLink) → IsAccepted network → slice_get network.links k ≡ Some l → (is_there network l.from ≡ true) × (is_there network l.to ≡ true)
ends_there network k l good got =
    let all = (and_parts (list_all (λ l. is_there network l.from && is_there network l.to) network.links) (list_all (λ r. list_all (is_link_there network) r.routes) network.routers) (and_parts (list_all (λ l. is_there network l.from && is_there network l.to) network.links && list_all (λ r. list_all (is_link_there network) r.routes) network.routers) (is_link_there network network.wire) good.named).0).0 in
    and_parts (is_there network l.from) (is_there network l.to) (at_got (λ (l : NetLink). (is_there network l.from && is_there network l.to) ≡ true) network.links k l (each_passes (λ (l : NetLink). is_there network l.from && is_there network l.to) network.links all) got)

-- Each link rises in the order of places.
pub rises_down : (network : Network) (k : ℕ) (l : NetLink) → IsAccepted network → slice_get network.links k ≡ Some l → down_stage network l.from < down_stage network l.to
rises_down network k l good got = by l.from l.to (link_joins network k l good got) (link_forward network k l good got) (ends_there network k l good got).0
  where
    by : (from to : NetPlace) → joins from to ≡ true → goes_back from to ≡ false → is_there network from ≡ true → down_stage network from < down_stage network to
    by (at_host h) (at_router r) j f t = omega arith
    by (at_host h) (at_host k) j f t = cc
    by (at_host h) (at_device d) j f t = cc
    by (at_router r) (at_router q) j f t = omega (arith, leb-false q r f)
    by (at_router r) (at_device d) j f t = omega (arith, ltb-true r (length network.routers) t)
    by (at_router r) (at_host h) j f t = cc
    by (at_device d) (at_router r) j f t = cc
    by (at_device d) (at_host h) j f t = cc
    by (at_device d) (at_device k) j f t = cc

pub rises_up : (network : Network) (k : ℕ) (l : NetLink) → IsAccepted network → slice_get network.links k ≡ Some l → up_stage network l.to < up_stage network l.from
rises_up network k l good got = by l.from l.to (link_joins network k l good got) (link_forward network k l good got) (ends_there network k l good got).1
  where
    by : (from to : NetPlace) → joins from to ≡ true → goes_back from to ≡ false → is_there network to ≡ true → up_stage network to < up_stage network from
    by (at_host h) (at_router r) j f t = omega (arith, ltb-true r (length network.routers) t)
    by (at_host h) (at_host k) j f t = cc
    by (at_host h) (at_device d) j f t = cc
    by (at_router r) (at_router q) j f t = omega (arith, leb-false q r f, ltb-true q (length network.routers) t)
    by (at_router r) (at_device d) j f t = omega arith
    by (at_router r) (at_host h) j f t = cc
    by (at_device d) (at_router r) j f t = cc
    by (at_device d) (at_host h) j f t = cc
    by (at_device d) (at_device k) j f t = cc
