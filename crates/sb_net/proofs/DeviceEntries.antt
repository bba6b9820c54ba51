-- What came to a device is no wider than the link that leads there.
use Rattle.std.proofs.Common.{◌≡◌, ◌≤◌, ◌<◌, ℕ, ◌+◌, ◌*◌, ◌/◌, suc, Bool, true, false, cond, List, [], ◌∷◌, ◌++◌, length, refl, sym, ap, ◌∙◌, arith, subst, append_assoc}
use Rattle.std.specs.Prelude.{◌==◌, All, Option, Some, None, nat_lt, option_and_then, slice_get, if◌then◌else◌}
use Rattle.std.specs.List.{find, position_from}
use Rattle.std.specs.Option.{option_map_or}
use Rattle.std.proofs.lemmas.Bool.Decides.{nat_tests}
use Rattle.std.proofs.lemmas.List.Elements.{All-cons, All-head, All-nil, All-tail}
use Rattle.sb_packet.specs.Messages.{message_of}
use Rattle.sb_packet.specs.Spans.{span_of}
use Rattle.sb_packet.specs.Networks.{NetLink, Network, leads_to, width_to}
use Rattle.sb_link.specs.RingPlans.{RingPlan}
use Rattle.sb_flow.specs.Rings.{ring_link, ring_plan}
use Rattle.sb_link.specs.Traffic.{AreInTurn, IsCarriable}
use Rattle.sb_packet.specs.declared.entry.Entry.{Entry}
use Rattle.sb_packet.specs.declared.item.Item.{Item}
use Rattle.sb_packet.specs.declared.item.Item.TheVariants as items
use Rattle.sb_packet.specs.declared.packet.Packet.{Packet}
use Rattle.sb_device.specs.Served.{entry_packets, item_packets}
use Rattle.sb_laws.specs.NetworkLayouts.{HasWays, link_into, request_ring}
use Rattle.sb_laws.proofs.LinksToDevices.{link_into_leads, none_found}

-- packets that were received in turn are packets that the ring can carry
abbrev Carriable : RingPlan → Packet → Type 0
Carriable plan p = IsCarriable plan (message_of p)

carriable_behind : (plan : RingPlan) (before rest : List Item) → AreInTurn plan (before ++ rest) → All (λ p. IsCarriable plan (message_of p)) (item_packets rest)
carriable_behind plan before [] turn = All-nil (Carriable plan)
carriable_behind plan before (items.Packet p ∷ rest) turn =
    All-cons (Carriable plan) p (item_packets rest) ((turn before rest (items.Packet p) refl).fit p refl)
    (carriable_behind plan (before ++ items.Packet p ∷ []) rest (subst (AreInTurn plan) (sym (append_assoc before (items.Packet p ∷ []) rest)) turn))
carriable_behind plan before (items.Close ∷ rest) turn =
    carriable_behind plan (before ++ items.Close ∷ []) rest (subst (AreInTurn plan) (sym (append_assoc before (items.Close ∷ []) rest)) turn)

-- entries of packets
narrow_entries : (width : ℕ) (entries : List Entry) → All (λ (p : Packet). span_of p.cmd ≤ width) (entry_packets entries) → All (λ e. span_of e.packet.cmd ≤ width) entries
narrow_entries width [] all = All-nil (λ e. span_of e.packet.cmd ≤ width)
narrow_entries width (e ∷ entries) all =
    All-cons (λ e. span_of e.packet.cmd ≤ width) e entries (All-head (λ (p : Packet). span_of p.cmd ≤ width) e.packet (entry_packets entries) all)
    (narrow_entries width entries (All-tail (λ (p : Packet). span_of p.cmd ≤ width) e.packet (entry_packets entries) all))

-- what is found first is what stands at the first place that passes
found_first : {A : Type 0} (test : A → Bool) (i k : ℕ) (xs : List A) → position_from test i xs ≡ Some k → (j : ℕ) × (k ≡ i + j) × (find test xs ≡ slice_get xs j)
found_first test i k [] e = absurd (cc)
found_first test i k (x ∷ xs) e = by_test (test x) e (found_first test (i + 1) k xs)
  where
    by_test : (b : Bool) → cond b (Some i) (position_from test (i + 1) xs) ≡ Some k → (position_from test (i + 1) xs ≡ Some k → (j : ℕ) × (k ≡ i + 1 + j) × (find test xs ≡ slice_get xs j))
        → (j : ℕ) × (k ≡ i + j) × (cond b (Some x) (find test xs) ≡ slice_get (x ∷ xs) j)
    by_test true e later = let same : i ≡ k = cc in (0, omega arith, refl)
    by_test false e later = let rest = later e in (suc rest.0, omega (arith, rest.1), rest.2)

link_found : (network : Network) → HasWays network → (d : ℕ) → d < length network.devices → find (leads_to d) network.links ≡ slice_get network.links (link_into network d)
link_found network ways d there = by_place (position_from (leads_to d) 0 network.links) refl
  where
    by_place : (o : Option ℕ) → position_from (leads_to d) 0 network.links ≡ o → find (leads_to d) network.links ≡ slice_get network.links (link_into network d)
    by_place None e = let some = ways.linked d there in absurd (none_found (leads_to d) 0 some.0 network.links e some.2)
    by_place (Some k) e =
        let place = found_first (leads_to d) 0 k network.links e in
        let at : link_into network d ≡ place.0 = ap (λ (o : Option ℕ). option_map_or (λ k. k) o 0) e ∙ omega (arith, place.1) in
        place.2 ∙ ap (slice_get network.links) (sym at)

-- the width of the ring that leads to a device is that of its link
pub width_into : (network : Network) → HasWays network → (d : ℕ) → d < length network.devices → (ring_plan network (request_ring (link_into network d))).width ≡ width_to network d
width_into network ways d there =
    let k = link_into network d in
    let inside = (link_into_leads network ways d there).there in
    let half : 2 * k / 2 ≡ k = omega arith in
    let below : nat_lt k (length network.links) ≡ true = grind (arith, nat_tests) in
    let link : ring_link network (request_ring k) ≡ Some k =
    ap (λ (i : ℕ). if nat_lt i (length network.links) then Some i else (if i == length network.links then network.wire else None)) half ∙ ap (λ (b : Bool). if b then Some k else (if k == length network.links then network.wire else None)) below in
    ap (λ (o : Option ℕ). option_map_or (λ (link : NetLink). link.width) (option_and_then (slice_get network.links) o) 0) link
    ∙ ap (λ (o : Option NetLink). option_map_or (λ (link : NetLink). link.width) o 0) (sym (link_found network ways d there))

pub narrow_at : (network : Network) → HasWays network → (d : ℕ) → d < length network.devices → (received : List Item) (entries : List Entry) → AreInTurn (ring_plan network (request_ring (link_into network d))) received
    → entry_packets entries ≡ item_packets received → All (λ e. span_of e.packet.cmd ≤ width_to network d) entries
narrow_at network ways d there received entries turn same =
    let plan = ring_plan network (request_ring (link_into network d)) in
    let wide = width_into network ways d there in
    narrow_entries (width_to network d) entries (λ i p lt.
    let fits = subst (All (λ p. IsCarriable plan (message_of p))) (sym same) (carriable_behind plan [] received turn) i p lt in
    let narrow = fits.narrow in omega (arith, narrow, wide))
