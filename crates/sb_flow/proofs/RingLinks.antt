-- The link of a ring, and its numbers.
use Rattle.std.proofs.Common.{◌≡◌, ◌≤◌, ◌<◌, ℕ, ◌/◌, Bool, true, false, ◌&&◌, List, [], ◌∷◌, length, get_or, refl, ap, sym, ◌∙◌, arith, Option, Some, None, subst, ltb-true}
use Rattle.std.specs.Prelude.{◌==◌, nat_le, nat_lt, slice_get, if◌then◌else◌}
use Rattle.std.specs.List.{AllByRecursion, list_all}
use Rattle.std.proofs.lemmas.Bool.{and_parts, leb-true}
use Rattle.std.proofs.lemmas.List.{get_or-map, length-map}
use Rattle.std.proofs.lemmas.List.Elements.{All-from_recursion, All-get_or}
use Rattle.sb_packet.specs.Networks.{NetLink, Network}
use Rattle.sb_flow.specs.Rings.{ring_link}
use Rattle.sb_link.specs.Plans.{IsRingWidth}
use Rattle.sb_flow.specs.Accepted.{IsAccepted, is_limited, is_limited_link, is_link_there, is_there}
use Rattle.sb_flow.specs.Ends.{is_link_width}
use Rattle.sb_flow.specs.Rows.{link_of}
use Rattle.sb_flow.specs.NetworkOf.{network_of}
use Rattle.sb_flow.specs.declared.bundle.Bundle.{Bundle}
use Rattle.sb_flow.specs.declared.link_row.LinkRow.{LinkRow}
use Rattle.sb_flow.proofs.Clashes.{all_pass}
use Rattle.sb_flow.proofs.RangeTables.{slice_get-there}

-- a test of all items, item by item
pub each_passes : {A : Type 0} (p : A → Bool) (xs : List A) → list_all p xs ≡ true → AllByRecursion (λ x. p x ≡ true) xs
each_passes p [] h = tt
each_passes p (x ∷ xs) h = let parts = and_parts (p x) (list_all p xs) h in (parts.0, each_passes p xs parts.1)

-- the link of a ring is there
pub ring_link-there : (network : Network) (ring k : ℕ) → IsAccepted network → Some k ≡ ring_link network ring → k < length network.links
ring_link-there network ring k good found = by (nat_lt (ring / 2) (length network.links)) refl found
  where
    wire_there : is_link_there network network.wire ≡ true
    wire_there = (and_parts (list_all (λ l. is_there network l.from && is_there network l.to) network.links && list_all (λ r. list_all (is_link_there network) r.routes) network.routers) (is_link_there network network.wire) good.named).1

    at_wire : (wire : Option ℕ) → is_link_there network wire ≡ true → Some k ≡ wire → k < length network.links
    at_wire None h e = cc
    at_wire (Some w) h e = let same : k ≡ w = cc in rw same (ltb-true w (length network.links) h)

    far : (c : Bool) → Some k ≡ (if c then network.wire else None) → k < length network.links
    far true e = at_wire network.wire wire_there e
    far false e = cc

    by : (b : Bool) → nat_lt (ring / 2) (length network.links) ≡ b → Some k ≡ (if b then Some (ring / 2) else (if ring / 2 == length network.links then network.wire else None)) → k < length network.links
    by true h e = let same : k ≡ ring / 2 = cc in rw same (ltb-true (ring / 2) (length network.links) h)
    by false h e = far (ring / 2 == length network.links) e

-- a link of a bundle, where it was read
pub link_there : (b : Bundle) (k : ℕ) (row : LinkRow) (d : NetLink) → k < length b.links.items → row ≡ get_or b.links.items k row → get_or (network_of b).links k d ≡ link_of row
link_there b k row d there at = get_or-map link_of b.links.items k row d there ∙ ap link_of (sym at)

pub link_got : (b : Bundle) (k : ℕ) (row : LinkRow) → k < length b.links.items → row ≡ get_or b.links.items k row → slice_get (network_of b).links k ≡ Some (link_of row)
link_got b k row there at = slice_get-there (network_of b).links k (link_of row) (omega (arith, length-map b.links.items link_of)) ∙ ap Some (link_there b k row (link_of row) there at)

-- it has a width that there is, and room for 1 to 1,024 items
pub link_width : (b : Bundle) (k : ℕ) (row : LinkRow) → k < length b.links.items → row ≡ get_or b.links.items k row → IsRingWidth row.width
link_width b k row there at =
    let passes : is_link_width (get_or (network_of b).links k (link_of row)).width ≡ true = All-get_or (λ (l : NetLink). is_link_width l.width ≡ true) (network_of b).links k (link_of row) (omega (arith, length-map b.links.items link_of)) (All-from_recursion (λ (l : NetLink). is_link_width l.width ≡ true) (network_of b).links (all_pass (λ (l : NetLink). is_link_width l.width) 0 (network_of b).links b.widths)) in
    subst (λ (l : NetLink). is_link_width l.width ≡ true) (link_there b k row (link_of row) there at) passes

pub link_limits : (network : Network) → is_limited network ≡ true → list_all is_limited_link network.links ≡ true
link_limits network h = grind (arith, h)

pub link_capacity : (b : Bundle) (k : ℕ) (row : LinkRow) → k < length b.links.items → row ≡ get_or b.links.items k row → (0 < row.capacity) × (row.capacity ≤ 1024)
link_capacity b k row there at =
    let limited : is_limited_link (get_or (network_of b).links k (link_of row)) ≡ true = All-get_or (λ (l : NetLink). is_limited_link l ≡ true) (network_of b).links k (link_of row) (omega (arith, length-map b.links.items link_of)) (All-from_recursion (λ (l : NetLink). is_limited_link l ≡ true) (network_of b).links (each_passes is_limited_link (network_of b).links (link_limits (network_of b) b.limits))) in
    let parts = and_parts (nat_le 1 row.capacity) (nat_le row.capacity 1024) (subst (λ (l : NetLink). is_limited_link l ≡ true) (link_there b k row (link_of row) there at) limited) in
    (omega (arith, leb-true 1 row.capacity parts.0), leb-true row.capacity 1024 parts.1)

-- a link of the network is one of the bundle's rows
pub link_in_rows : (b : Bundle) (k : ℕ) → k < length (network_of b).links → k < length b.links.items
link_in_rows b k h = omega (arith, length-map b.links.items link_of)
