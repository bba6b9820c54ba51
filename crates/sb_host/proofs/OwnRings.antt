-- In an accepted network the ring of requests of a host's own link is made for the host.
use Rattle.std.proofs.Common.{◌≡◌, ◌≤◌, ◌<◌, ◌*◌, ◌/◌, ℕ, zero, suc, arith, ap, refl, sym, subst, ◌∙◌, length, List, [], ◌∷◌, Bool, true, false, ◌||◌, inl, inr, Option, Some, None}
use Rattle.std.specs.Prelude.{All, ◌==◌, nat_lt, slice_get, if◌then◌else◌}
use Rattle.std.specs.List.{AllByRecursion}
use Rattle.std.specs.Option.{option_and_then, option_map_or}
use Rattle.std.proofs.Math.ListN.{get_or}
use Rattle.std.proofs.lemmas.Bool.{eqb-true}
use Rattle.std.proofs.lemmas.Bool.Decides.{nat_tests}
use Rattle.std.proofs.lemmas.List.Elements.{All-get_or}
use Rattle.std.proofs.lemmas.Option.{get_or_from_slice_get, slice_get-get_or}
use Rattle.sb_packet.specs.Networks.{NetHost, NetLink, Network, at_host, at_router, leaves_from}
use Rattle.sb_flow.specs.Rings.{ring_link, ring_plan}
use Rattle.sb_packet.specs.Scripts.{IsTransaction}
use Rattle.sb_flow.specs.Ways.{first_link}
use Rattle.sb_port.specs.Waiting.{IsWidth}
use Rattle.sb_flow.specs.Accepted.{IsAccepted, is_limited, is_limited_host, is_placed_device}
use Rattle.sb_flow.specs.Ends.{is_link_width}
use Rattle.sb_flow.proofs.AcceptedLinks.{got_below}
use Rattle.sb_flow.proofs.Clashes.{all_pass}
use Rattle.sb_host.specs.Asked.{asked_by}
use Rattle.sb_host.specs.Progress.{IsMadeFor}
use Rattle.sb_flow.proofs.HostLimits.{host_limits, limits_of, passes_at}
use Rattle.sb_host.proofs.MadeRings.{place_below, planned_host}
use Rattle.sb_host.proofs.OwnBudget.{words_within}

-- what all pass in a list one passes
pass_at : {X : Type 0} (p : X → Bool) (xs : List X) (i : ℕ) (d : X) → AllByRecursion (λ x. p x ≡ true) xs → i < length xs → p (get_or xs i d) ≡ true
pass_at p [] i d all below = absurd (omega arith)
pass_at p (x ∷ xs) zero d all below = all.0
pass_at p (x ∷ xs) (suc i) d all below = pass_at p xs i d all.1 (omega arith)

few_devices : (network : Network) → is_limited network ≡ true → length network.devices ≤ 32
few_devices network h = grind (arith, h)

link_there : (network : Network) (h k : ℕ) → first_link network h ≡ Some k → k < length network.links
link_there network h k first = let found = place_below (leaves_from h) 0 network.links k first in omega (arith, found)

pub own_ring_made : (network : Network) (h k : ℕ) (host : NetHost) → IsAccepted network → slice_get network.hosts h ≡ Some host → first_link network h ≡ Some k
    → IsMadeFor (ring_plan network (2 * k)) (asked_by network host)
own_ring_made network h k host accepted got first =
    let there : h < length network.hosts = got_below network.hosts h host got in
    let at : get_or network.hosts h host ≡ host = get_or_from_slice_get network.hosts h host host got in
    let link = link_there network h k first in
    let limits = limits_of host (subst (λ (x : NetHost). is_limited_host x ≡ true) at (passes_at is_limited_host network.hosts h host (host_limits network accepted.limits) there)) in
    let lines : All IsTransaction host.script = subst (λ (x : NetHost). All IsTransaction x.script) at (All-get_or (λ (x : NetHost). All IsTransaction x.script) network.hosts h host there accepted.lines) in
    let id = limits.id in
    record {
      planned = planned_host network h k host there at first link (omega (arith, id)) (few_devices network accepted.limits) (all_pass is_placed_device 0 network.devices accepted.placed) lines;
      room = words_within network host accepted.placed h k there at first link lines;
    }

-- a link's width is one that ports serve
served : (width : ℕ) → is_link_width width ≡ true → IsWidth width
served width h = by (width == 8) (width == 16) (width == 32) refl refl refl h
  where
    by : (eight sixteen thirty_two : Bool) → (width == 8) ≡ eight → (width == 16) ≡ sixteen → (width == 32) ≡ thirty_two → (eight || sixteen || thirty_two) ≡ true → IsWidth width
    by true b c e f g h = inl (eqb-true width 8 e)
    by false true c e f g h = inr (inl (eqb-true width 16 f))
    by false false c e f g h = inr (inr (eqb-true width 32 (g ∙ h)))

-- and as wide as a link may be
pub own_ring_wide : (network : Network) (h k : ℕ) → IsAccepted network → first_link network h ≡ Some k → IsWidth (ring_plan network (2 * k)).width
own_ring_wide network h k accepted first =
    let there = link_there network h k first in
    let half : 2 * k / 2 ≡ k = omega arith in
    let inside : nat_lt (2 * k / 2) (length network.links) ≡ true = rw half (let t : nat_lt k (length network.links) ≡ true = grind (arith, nat_tests) in t) in
    let link : ring_link network (2 * k) ≡ Some k =
    ap (λ (b : Bool). if b then Some (2 * k / 2) else (if 2 * k / 2 == length network.links then network.wire else None)) inside ∙ ap (λ (n : ℕ). Some n) half in
    let any : NetLink = get_or network.links k any_link in
    let got : slice_get network.links k ≡ Some any = slice_get-get_or network.links k any_link there in
    let test : is_link_width any.width ≡ true = pass_at (λ l. is_link_width l.width) network.links k any_link (all_pass (λ l. is_link_width l.width) 0 network.links accepted.widths) there in
    let width : (ring_plan network (2 * k)).width ≡ any.width = ap (λ (o : Option ℕ). option_map_or (λ l. l.width) (option_and_then (slice_get network.links) o) 0) link ∙ ap (λ (o : Option NetLink). option_map_or (λ l. l.width) o 0) got in
    subst IsWidth (sym width) (served any.width test)
  where
    any_link : NetLink
    any_link = record { name = []; from = at_host 0; to = at_router 0; width = 0; capacity = 0 }
