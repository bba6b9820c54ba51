-- The names of a bundle: each is a name and a new one, and what speaks of one speaks of one that is there. This project's own.
use Rattle.std.specs.Prelude.{ℕ, ◌+◌, Bool, not, ◌&&◌, List, [], ◌∷◌, ◌++◌, codes, bytes_eq, map, Option, Some, None, option_map, is_some, Result, Ok}
use Rattle.std.specs.List.{position_from}
use Rattle.std.specs.Option.{option_or}
use Rattle.sb_packet.specs.Names.{is_name}
use Rattle.sb_packet.specs.Networks.{NetLink, NetPlace, at_device, at_host, at_router}
use Rattle.sb_text.specs.Sentences.{◌>>=◌, some_or, unless}
use Rattle.sb_fields.specs.Paths.{item_of, member_of}
use Rattle.sb_fields.specs.Written.{WrittenBundle, WrittenLink, WrittenRoute, WrittenRouter}
use Rattle.sb_fields.specs.declared.fault.LoadFault.{LoadFault}
use Rattle.sb_fields.specs.declared.fault.LoadFault.TheVariants as faults

-- the names that a bundle gives
pub record GivenNames : Type 0 where
  pub hosts : List (List ℕ)
  pub routers : List (List ℕ)
  pub devices : List (List ℕ)
  pub links : List (List ℕ)

abbrev pub names_of : WrittenBundle → GivenNames
names_of bundle = record {
  hosts = map (λ h. h.name) bundle.hosts;
  routers = map (λ r. r.name) bundle.routers;
  devices = map (λ d. d.name) bundle.devices;
  links = map (λ l. l.name) bundle.links;
}

-- the place of a name among others
unfoldable pub place_among : List (List ℕ) → List ℕ → Option ℕ
place_among names name = position_from (bytes_eq name) 0 names

-- a name is one of some names
abbrev pub is_among : List (List ℕ) → List ℕ → Bool
is_among names name = is_some (place_among names name)

-- the object at a path has a name, and none of some earlier ones
unfoldable pub new_name : List ℕ → List (List ℕ) → List ℕ → Result (Unit {0}) LoadFault
new_name at earlier name = unless (is_name name && not (is_among earlier name)) (faults.Name (member_of at (codes "name")))

-- the names of the objects of a list from a number on, behind earlier names
abbrev pub names_by : List ℕ → ℕ → List (List ℕ) → List (List ℕ) → Result (List (List ℕ)) LoadFault
names_by at number earlier [] = Ok earlier
names_by at number earlier (name ∷ names) = new_name (item_of at number) earlier name >>= (λ done. names_by at (number + 1) (earlier ++ name ∷ []) names)

-- a route at a path goes from a device to a link that is there
unfoldable pub route_named : GivenNames → List ℕ → WrittenRoute → Result (Unit {0}) LoadFault
route_named names at route = unless (is_among names.devices route.device && is_among names.links route.link) (faults.Name (member_of at route.device))

-- so do some routes
unfoldable pub routes_named : GivenNames → List ℕ → List WrittenRoute → Result (Unit {0}) LoadFault
routes_named names at [] = Ok tt
routes_named names at (route ∷ routes) = route_named names at route >>= (λ done. routes_named names at routes)

-- the path of the routes of a router
abbrev pub routes_path : ℕ → List ℕ
routes_path number = member_of (item_of (codes "routers") number) (codes "routes")

-- a router behind earlier names: its own name stands before its routes
unfoldable pub router_named : GivenNames → ℕ → List (List ℕ) → WrittenRouter → Result (Unit {0}) LoadFault
router_named names number earlier router = do
  done ← new_name (item_of (codes "routers") number) earlier router.name
  routes_named names (routes_path number) router.routes

-- the names of the routers from a number on, behind earlier names
abbrev pub routers_by : GivenNames → ℕ → List (List ℕ) → List WrittenRouter → Result (List (List ℕ)) LoadFault
routers_by names number earlier [] = Ok earlier
routers_by names number earlier (router ∷ routers) =
    router_named names number earlier router >>= (λ done. routers_by names (number + 1) (earlier ++ router.name ∷ []) routers)

-- the host, router or device of that name
unfoldable pub place_named : GivenNames → List ℕ → Option NetPlace
place_named names name = option_or (option_map at_host (place_among names.hosts name))
    (option_or (option_map at_router (place_among names.routers name)) (option_map at_device (place_among names.devices name)))

-- an end of the link at a path
unfoldable pub end_named : GivenNames → List ℕ → List ℕ → List ℕ → Result NetPlace LoadFault
end_named names at field name = some_or (place_named names name) (faults.Name (member_of at field))

-- a link behind earlier ones
unfoldable pub link_named : GivenNames → ℕ → List NetLink → WrittenLink → Result NetLink LoadFault
link_named names number earlier link = do
  done ← new_name (item_of (codes "links") number) (map (λ l. l.name) earlier) link.name
  from ← end_named names (item_of (codes "links") number) (codes "from") link.from
  to ← end_named names (item_of (codes "links") number) (codes "to") link.to
  Ok (record { name = link.name; from = from; to = to; width = link.width; capacity = link.capacity })

-- the links from a number on, behind earlier ones
abbrev pub links_by : GivenNames → ℕ → List NetLink → List WrittenLink → Result (List NetLink) LoadFault
links_by names number earlier [] = Ok earlier
links_by names number earlier (link ∷ links) = link_named names number earlier link >>= (λ named. links_by names (number + 1) (earlier ++ named ∷ []) links)

-- the wire, where a link is named as the one
unfoldable pub wire_named : GivenNames → Option (List ℕ) → Result (Option ℕ) LoadFault
wire_named names None = Ok None
wire_named names (Some name) = some_or (option_map Some (place_among names.links name)) (faults.Name (codes "wire"))
