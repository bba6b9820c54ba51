-- What holds of the links of an accepted network.
use Rattle.std.proofs.Common.{◌≡◌, ◌≤◌, ◌<◌, ℕ, Bool, true, false, cond, List, [], ◌∷◌, ◌++◌, length, refl, ap, ◌∙◌, arith, inl, inr}
use Rattle.std.specs.Prelude.{◌==◌, ◌||◌, ◌&&◌, ◌⊎◌, not, All, AllPairs, Some, None, slice_get}
use Rattle.std.specs.List.{list_any}
use Rattle.std.proofs.lemmas.Bool.{cases_lt, and_parts}
use Rattle.std.proofs.lemmas.Bool.Decides.{nat_tests}
use Rattle.std.proofs.lemmas.List.Elements.{All-nil, All-cons, All-head, All-weaker}
use Rattle.std.proofs.lemmas.List.Kept.{AllPairs-cons}
use Rattle.sb_packet.specs.Networks.{NetLink, NetPlace, Network, at_device, at_host, at_router, leads_to, leaves_from}
use Rattle.sb_flow.specs.Ways.{is_some_number, router_at_end}
use Rattle.sb_packet.proofs.Lists.{All-left, All-right}
use Rattle.sb_flow.specs.Ends.{joins, keeps_sides, same_device, same_host, share_an_end, is_fit_link, unfit_behind, unfit_link}
use Rattle.sb_laws.specs.NetworkLayouts.{is_link_to}
use Rattle.sb_laws.proofs.NoFaults.{none_of_any, at_place, AllPairs-at}

pub is_false : (b : Bool) → not b ≡ true → b ≡ false
is_false true e = absurd (cc)
is_false false e = refl

-- what no search of links finds fault with
pub record AreFit (links : List NetLink) : Type 0 where
  pub joined : All (λ l. joins l.from l.to ≡ true) links
  pub apart : AllPairs (λ y x. share_an_end x y ≡ false) links

fit_behind : (network : Network) (before links : List NetLink) → unfit_behind network before links ≡ None → All (λ x. All (λ y. share_an_end x y ≡ false) before) links × AreFit links
fit_behind network before [] e = (All-nil (λ x. All (λ y. share_an_end x y ≡ false) before), record { joined = All-nil (λ l. joins l.from l.to ≡ true); apart = λ i j d below inside. absurd (omega arith) })
fit_behind network before (l ∷ links) e = by_test (is_fit_link network before (length before) l) refl e (fit_behind network (before ++ l ∷ []) links)
  where
    by_test : (b : Bool) → is_fit_link network before (length before) l ≡ b → cond b (unfit_behind network (before ++ l ∷ []) links) (Some (length before)) ≡ None →
        (unfit_behind network (before ++ l ∷ []) links ≡ None → All (λ x. All (λ y. share_an_end x y ≡ false) (before ++ l ∷ [])) links × AreFit links) →
        All (λ x. All (λ y. share_an_end x y ≡ false) before) (l ∷ links) × AreFit (l ∷ links)
    by_test false t e later = absurd (cc)
    by_test true t e later =
        let rest = later e in
        let sides = and_parts (joins l.from l.to && not (list_any (share_an_end l) before)) (keeps_sides network (is_some_number (length before) network.wire) l.from l.to) t in
        let parts = and_parts (joins l.from l.to) (not (list_any (share_an_end l) before)) sides.0 in
        let here = none_of_any (share_an_end l) before (is_false (list_any (share_an_end l) before) parts.1) in (
          All-cons (λ x. All (λ y. share_an_end x y ≡ false) before) l links here (All-weaker (λ x. All (λ y. share_an_end x y ≡ false) (before ++ l ∷ [])) (λ x. All (λ y. share_an_end x y ≡ false) before) (λ x h. All-left (λ y. share_an_end x y ≡ false) before (l ∷ []) h) links rest.0),
          record {
            joined = All-cons (λ m. joins m.from m.to ≡ true) l links parts.0 rest.1.joined;
            apart = AllPairs-cons (λ y x. share_an_end x y ≡ false) l links (All-weaker (λ x. All (λ y. share_an_end x y ≡ false) (before ++ l ∷ [])) (λ x. share_an_end x l ≡ false) (λ x h. All-head (λ y. share_an_end x y ≡ false) l [] (All-right (λ y. share_an_end x y ≡ false) before (l ∷ []) h)) links rest.0) rest.1.apart;
          },
        )

pub fit_links : (network : Network) → unfit_link network ≡ None → AreFit network.links
fit_links network e = (fit_behind network [] network.links e).1

-- a link to a device ends there, and one from a host begins there
pub device_end : (d : ℕ) (link : NetLink) → leads_to d link ≡ true → link.to ≡ at_device d
device_end d link e = by_end link.to refl
  where
    by_end : (p : NetPlace) → link.to ≡ p → link.to ≡ at_device d
    by_end (at_host h) is = absurd (let never = rw is at e in cc)
    by_end (at_router q) is = absurd (let never = rw is at e in cc)
    by_end (at_device k) is = let test = rw is at e in let same : k ≡ d = grind (arith, nat_tests) in is ∙ ap at_device same

pub host_start : (h : ℕ) (link : NetLink) → leaves_from h link ≡ true → link.from ≡ at_host h
host_start h link e = by_end link.from refl
  where
    by_end : (p : NetPlace) → link.from ≡ p → link.from ≡ at_host h
    by_end (at_host k) is = let test = rw is at e in let same : k ≡ h = grind (arith, nat_tests) in is ∙ ap at_host same
    by_end (at_router q) is = absurd (let never = rw is at e in cc)
    by_end (at_device k) is = absurd (let never = rw is at e in cc)

-- two links to one device share an end
shared : (d : ℕ) (x y : NetLink) → leads_to d x ≡ true → leads_to d y ≡ true → share_an_end x y ≡ true
shared d x y e f =
    let own : (d == d) ≡ true = grind (arith, nat_tests) in
    let same : same_device x.to y.to ≡ true = ap (λ (p : NetPlace). same_device p y.to) (device_end d x e) ∙ ap (same_device (at_device d)) (device_end d y f) ∙ own in
    or_true (same_host x.from y.from) (same_device x.to y.to) same
  where
    or_true : (a b : Bool) → b ≡ true → (a || b) ≡ true
    or_true true b h = refl
    or_true false b h = h

module _ (network : Network) (fit : AreFit network.links) where
  -- so one link leads to each device
  pub only_link : (d j k : ℕ) → is_link_to network d j ≡ true → is_link_to network d k ≡ true → j ≡ k
  only_link d j k e f = by_places (cases_lt j k) (cases_lt k j)
    where
      first : (x : NetLink) × (j < length network.links) × (slice_get network.links j ≡ Some x) × (leads_to d x ≡ true)
      first = at_place (leads_to d) network.links j e

      second : (x : NetLink) × (k < length network.links) × (slice_get network.links k ≡ Some x) × (leads_to d x ≡ true)
      second = at_place (leads_to d) network.links k f

      by_places : (j < k) ⊎ (k ≤ j) → (k < j) ⊎ (j ≤ k) → j ≡ k
      by_places (inl below) other =
          let apart = AllPairs-at (λ y x. share_an_end x y ≡ false) network.links j k first.0 second.0 fit.apart below first.2 second.2 in
          absurd (let both = shared d second.0 first.0 second.3 first.3 in cc)
      by_places (inr le) (inl below) =
          let apart = AllPairs-at (λ y x. share_an_end x y ≡ false) network.links k j second.0 first.0 fit.apart below second.2 first.2 in
          absurd (let both = shared d first.0 second.0 first.3 second.3 in cc)
      by_places (inr le) (inr ge) = omega arith
