-- The example network is accepted; and each test finds the fault of a network that has it.
use Rattle.std.proofs.Common.{◌≡◌, refl, [], ◌∷◌, false, Some, None, map}
use Rattle.std.specs.Prelude.{◌*◌, ◌/◌, All, codes}
use Rattle.sb_packet.specs.Networks.{NetDevice, NetLink, NetRouter, at_host, at_router}
use Rattle.sb_flow.specs.Ways.{IsCourse, link_rank, network_ways}
use Rattle.sb_packet.proofs.NetworkExample.{cpu0, cpu1, eight_links, four_devices, three_routers, wired}
use Rattle.sb_flow.specs.Accepted.{IsAccepted, is_limited, misplaced_device, names_what_is_there, overfull_device, overlapping_device, repeated_id, repeated_link_name, repeated_name, route_fault, word_count}
use Rattle.sb_flow.specs.Ends.{backward_link, odd_width, unfit_link, unlinked_place}
use Rattle.sb_flow.proofs.TestedNetworks.{accepted_by_test}
use Rattle.sb_flow.proofs.WayCourses.{all_courses}

pub wired_is_accepted : IsAccepted wired
wired_is_accepted = accepted_by_test wired refl

-- so its ways lead to their devices
pub ways_of_wired : All (IsCourse wired) (network_ways wired)
ways_of_wired = all_courses wired wired_is_accepted

-- its links rank by the routers that they leave
pub ranks_of_wired : map (link_rank wired) (0 ∷ 2 ∷ 4 ∷ 6 ∷ []) ≡ 0 ∷ 1 ∷ 2 ∷ 3 ∷ []
ranks_of_wired = refl

-- There is one fault for each test, and each test finds it.
pub half_as_wide : odd_width (record wired { links = map (λ (l : NetLink). record l { width = l.width / 2 }) eight_links }) ≡ Some 3
half_as_wide = refl

pub twice_as_wide : odd_width (record wired { links = map (λ (l : NetLink). record l { width = 2 * l.width }) eight_links }) ≡ Some 0
twice_as_wide = refl

pub between_widths : odd_width (record wired { links = map (λ (l : NetLink). record l { width = 12 }) eight_links }) ≡ Some 0
between_widths = refl

pub too_many_pages : is_limited (record wired { devices = map (λ (d : NetDevice). record d { pages = 257 }) four_devices }) ≡ false
too_many_pages = refl

pub same_name : repeated_name (record wired { routers = map (λ (r : NetRouter). record r { name = codes "m2" }) three_routers }) ≡ Some (record { at = 3; earlier = 2 })
same_name = refl

pub same_link_name : repeated_link_name (record wired { links = map (λ (l : NetLink). record l { name = codes "l0" }) eight_links }) ≡ Some (record { at = 1; earlier = 0 })
same_link_name = refl

pub no_such_wire : names_what_is_there (record wired { wire = Some 8 }) ≡ false
no_such_wire = refl

pub same_id : repeated_id (record wired { hosts = cpu0 ∷ record cpu1 { id = 0 } ∷ [] }) ≡ Some (record { at = 1; earlier = 0 })
same_id = refl

pub odd_base : misplaced_device (record wired { devices = map (λ (d : NetDevice). record d { base = 65537 }) four_devices }) ≡ Some 0
odd_base = refl

pub over_each_other : overlapping_device (record wired { devices = map (λ (d : NetDevice). record d { pages = 17 }) four_devices }) ≡ Some (record { at = 1; earlier = 0 })
over_each_other = refl

pub long_image : overfull_device (record wired { devices = map (λ (d : NetDevice). record d { pages = 0 }) four_devices }) ≡ Some 3
long_image = refl

-- without a wire, a link crosses to the other side all the same
pub no_wire : unfit_link (record wired { wire = None }) ≡ Some 3
no_wire = refl

pub back_to_itself : backward_link (record wired { links = map (λ (l : NetLink). record l { from = at_router 1; to = at_router 1 }) eight_links }) ≡ Some 0
back_to_itself = refl

pub no_links : unlinked_place (record wired { links = [] }) ≡ Some (at_host 0)
no_links = refl

-- a route that another router's link leaves, and one that is missing where the first host aims
pub astray : route_fault (record wired { routers = map (λ (r : NetRouter). record r { routes = Some 4 ∷ None ∷ None ∷ None ∷ [] }) three_routers }) ≡ Some (record { router = 0; device = 0 })
astray = refl

pub missing : route_fault (record wired { routers = map (λ (r : NetRouter). record r { routes = None ∷ None ∷ None ∷ None ∷ [] }) three_routers }) ≡ Some (record { router = 0; device = 0 })
missing = refl

-- 20 words in all
pub words_of_wired : word_count wired ≡ 20
words_of_wired = refl
