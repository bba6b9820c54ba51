-- The tables that the code fills are the paths of a bundle's network.
use Rattle.std.proofs.Common.{◌≡◌, ◌≤◌, ℕ, List, length, get_or, ap, ◌∙◌, arith, map}
use Rattle.std.specs.Prelude.{All}
use Rattle.std.specs.List.{enumerate_from, range_with_len}
use Rattle.std.proofs.lemmas.List.Elements.{All-map}
use Rattle.std.proofs.lemmas.List.FromFn.{length-map-range_with_len}
use Rattle.sb_packet.specs.Networks.{NetHost, Network}
use Rattle.sb_flow.specs.Accepted.{IsAccepted}
use Rattle.sb_flow.specs.Tables.{HostTable, LinkTable, flow_table_of, host_table_of, link_table_of, paths_of}
use Rattle.sb_flow.specs.Gathered.{gathered}
use Rattle.sb_flow.proofs.LinkMarks.{map_range_agree}
use Rattle.sb_flow.proofs.LinkTables.{gathered-is}

-- no host has more than 32 ways
pub few_ways : (network : Network) → length network.devices ≤ 32 → All (λ h. length h.flows ≤ 32) (paths_of network).hosts
few_ways network few = All-map (λ (h : HostTable). length h.flows ≤ 32) (λ (p : ℕ × NetHost). host_table_of network p.0 p.1) (enumerate_from 0 network.hosts)
    (λ k d h. omega (arith, few, length-map-range_with_len (flow_table_of network (get_or (enumerate_from 0 network.hosts) k d).0 (get_or (enumerate_from 0 network.hosts) k d).1) 0 (length network.devices)))

-- the tables of the links
pub links_gathered : (network : Network) → IsAccepted network → map (λ k. gathered k (paths_of network).hosts) (range_with_len 0 (length network.links)) ≡ (paths_of network).links
links_gathered network good = map_range_agree (λ k. gathered k (paths_of network).hosts) (link_table_of network) 0 (length network.links) (λ k low high. gathered-is network k good.ids (omega arith))

-- both tables together
pub paths-from : (network : Network) (n : ℕ) (hosts : List HostTable) (links : List LinkTable) → IsAccepted network → n ≡ length network.links → hosts ≡ (paths_of network).hosts → links ≡ map (λ k. gathered k hosts) (range_with_len 0 n) → record { hosts = hosts; links = links } ≡ paths_of network
paths-from network n hosts links good many hosts_are links_are =
    let gathered_from : links ≡ map (λ k. gathered k (paths_of network).hosts) (range_with_len 0 (length network.links)) = links_are ∙ ap (λ (hosts : List HostTable). map (λ k. gathered k hosts) (range_with_len 0 n)) hosts_are ∙ ap (λ (n : ℕ). map (λ k. gathered k (paths_of network).hosts) (range_with_len 0 n)) many in
    ap (λ (hosts : List HostTable). record { hosts = hosts; links = links }) hosts_are ∙ ap (λ (links : List LinkTable). record { hosts = (paths_of network).hosts; links = links }) (gathered_from ∙ links_gathered network good)
