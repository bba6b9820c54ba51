-- What is named, part by part.
use Rattle.std.proofs.Common.{◌≡◌, ℕ, List, [], codes, map, refl, Option, Ok}
use Rattle.sb_packet.specs.Networks.{NetLink}
use Rattle.sb_flow.specs.Rows.{place_of}
use Rattle.sb_flow.specs.declared.place.Place.{Place}
use Rattle.sb_flow.specs.declared.place.Place.TheVariants.{Host, Router, Device}
use Rattle.sb_fields.specs.Written.{WrittenBundle}
use Rattle.sb_topology.specs.Names.{links_by, names_by, names_of, routers_by, wire_named}
use Rattle.sb_topology.specs.Places.{named_network, placed_device, placed_router, silent_host}
use Rattle.sb_topology.specs.Tests.{place_at}

-- a place is named as it is seen
pub place_there : (p : Place) → place_at (place_of p) ≡ p
place_there (Host h) = refl
place_there (Router r) = refl
place_there (Device d) = refl

-- where the names of all lists are as they should be, the network is that of the text
pub named_parts : (b : WrittenBundle) (h r d : List (List ℕ)) (links : List NetLink) (wire : Option ℕ)
    → names_by (codes "hosts") 0 [] (names_of b).hosts ≡ Ok h → routers_by (names_of b) 0 h b.routers ≡ Ok r → names_by (codes "devices") 0 r (names_of b).devices ≡ Ok d
    → links_by (names_of b) 0 [] b.links ≡ Ok links → wire_named (names_of b) b.wire ≡ Ok wire
    → named_network b ≡ Ok (record { hosts = map silent_host b.hosts; routers = map (placed_router (names_of b)) b.routers; devices = map placed_device b.devices; links = links; wire = wire })
unfolding named_network
named_parts b h r d links wire eh er ed el ew = rw (eh, er, ed, el, ew) refl
