-- What the links of an accepted network join are nodes of it, and have numbers.
use Rattle.std.proofs.Common.{◌≡◌, ℕ, ◌≤◌, ◌<◌, true, [], length, sym, ap, ◌∙◌, subst, arith, ltb-true}
use Rattle.std.specs.Prelude.{Option, Some, slice_get, get_or, map}
use Rattle.std.specs.Option.{option_map_or}
use Rattle.std.specs.Vec.{vec_len}
use Rattle.std.proofs.lemmas.List.{get_or-map, length-map}
use Rattle.std.proofs.lemmas.Option.{slice_get-get_or}
use Rattle.sb_packet.specs.Networks.{NetLink, NetPlace, Network, at_device, at_host, at_router}
use Rattle.sb_flow.specs.Accepted.{IsAccepted, is_there}
use Rattle.sb_flow.specs.NetworkOf.{network_of}
use Rattle.sb_flow.specs.Rows.{link_of, net_router_of}
use Rattle.sb_flow.specs.declared.bundle.Bundle.{Bundle}
use Rattle.sb_flow.specs.declared.link_row.LinkRow.{LinkRow}
use Rattle.sb_flow.proofs.AcceptedLinks.{ends_there}
use Rattle.sb_net.specs.Legs.{node_after, node_before, place_number}
use Rattle.sb_net.specs.Standing.{node_count}
use Rattle.sb_net.proofs.Dealing.{AreEndsNodes}

place_low : (network : Network) (p : NetPlace) → is_there network p ≡ true → place_number network p < node_count network
place_low network (at_host h) e = let low = ltb-true h (length network.hosts) e in omega (arith, low)
place_low network (at_router r) e = let low = ltb-true r (length network.routers) e in omega (arith, low)
place_low network (at_device d) e = let low = ltb-true d (length network.devices) e in omega (arith, low)

-- a link that is there
abbrev pub any_link : NetLink
any_link = record { name = []; from = at_host 0; to = at_router 0; width = 0; capacity = 0 }

abbrev pub link_at : Network → ℕ → NetLink
link_at network k = get_or network.links k any_link

pub link_got : (network : Network) (k : ℕ) → k < length network.links → slice_get network.links k ≡ Some (link_at network k)
link_got network k lt = slice_get-get_or network.links k any_link lt

pub node_before_is : (network : Network) (k : ℕ) (l : NetLink) → slice_get network.links k ≡ Some l → node_before network k ≡ place_number network l.from
node_before_is network k l got = ap (λ (o : Option NetLink). option_map_or (λ link. place_number network link.from) o 0) got

pub node_after_is : (network : Network) (k : ℕ) (l : NetLink) → slice_get network.links k ≡ Some l → node_after network k ≡ place_number network l.to
node_after_is network k l got = ap (λ (o : Option NetLink). option_map_or (λ link. place_number network link.to) o 0) got

pub ends_are_nodes : (network : Network) → IsAccepted network → AreEndsNodes network
ends_are_nodes network good = record {
  before = λ k lt. subst (λ n. n < node_count network) (sym (node_before_is network k (link_at network k) (link_got network k lt)))
      (place_low network (link_at network k).from (ends_there network k (link_at network k) good (link_got network k lt)).0);
  after = λ k lt. subst (λ n. n < node_count network) (sym (node_after_is network k (link_at network k) (link_got network k lt)))
      (place_low network (link_at network k).to (ends_there network k (link_at network k) good (link_got network k lt)).1);
}

-- the link of a bundle's row
pub row_got : (b : Bundle) (k : ℕ) (row : LinkRow) → k < length b.links.items → row ≡ get_or b.links.items k row → slice_get (network_of b).links k ≡ Some (link_of row)
row_got b k row lt at = slice_get-get_or (map link_of b.links.items) k (link_of row) (omega (arith, lt, length-map b.links.items link_of))
    ∙ ap (λ l. Some l) (get_or-map link_of b.links.items k row (link_of row) lt ∙ ap link_of (sym at))

-- the limits of a bundle's routers, and how many there are
pub few_routers : (b : Bundle) → length (network_of b).routers ≤ 32
few_routers b = grind (arith, b.limits)

pub router_count : (b : Bundle) → length (network_of b).routers ≡ vec_len b.routers
router_count b = length-map b.routers.items (net_router_of (length b.devices.items)) ∙ sym b.routers.ok.0
