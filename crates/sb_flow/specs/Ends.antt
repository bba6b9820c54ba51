-- What links join. This project's own.
use Rattle.std.specs.Prelude.{ℕ, Bool, true, false, ◌&&◌, ◌||◌, ◌==◌, nat_le, not, List, [], ◌∷◌, ◌++◌, length, Option, Some, None, option_map, if◌then◌else◌}
use Rattle.std.specs.List.{find, list_any, position_from, range_with_len}
use Rattle.std.specs.Option.{option_or}
use Rattle.sb_packet.specs.Networks.{NetLink, NetPlace, Network, at_device, at_host, at_router, leads_to, leaves_from, side_at}
use Rattle.sb_flow.specs.Ways.{is_some_number}

-- the widths that a link may have, in bytes
abbrev pub is_link_width : ℕ → Bool
is_link_width width = (width == 8) || (width == 16) || (width == 32)

-- The first link of another width.
abbrev pub odd_width : Network → Option ℕ
odd_width network = position_from (λ l. not (is_link_width l.width)) 0 network.links

-- a link goes from a host to a router, from a router to a router, or from a router to a device
abbrev pub joins : NetPlace → NetPlace → Bool
joins (at_host h) (at_host k) = false
joins (at_host h) (at_router r) = true
joins (at_host h) (at_device d) = false
joins (at_router r) (at_host h) = false
joins (at_router r) (at_router q) = true
joins (at_router r) (at_device d) = true
joins (at_device d) (at_host h) = false
joins (at_device d) (at_router r) = false
joins (at_device d) (at_device k) = false

-- the wire goes from a router of side 0 to one of side 1, and no other link joins routers of different sides
abbrev pub keeps_sides : Network → Bool → NetPlace → NetPlace → Bool
keeps_sides network true (at_router r) (at_router q) = (side_at network (at_router r) == 0) && (side_at network (at_router q) == 1)
keeps_sides network true (at_router r) (at_host h) = false
keeps_sides network true (at_router r) (at_device d) = false
keeps_sides network true (at_host h) to = false
keeps_sides network true (at_device d) to = false
keeps_sides network false (at_router r) (at_router q) = side_at network (at_router r) == side_at network (at_router q)
keeps_sides network false (at_router r) (at_host h) = true
keeps_sides network false (at_router r) (at_device d) = true
keeps_sides network false (at_host h) to = true
keeps_sides network false (at_device d) to = true

-- two links leave one host, or lead to one device
abbrev pub same_host : NetPlace → NetPlace → Bool
same_host (at_host h) (at_host k) = h == k
same_host (at_host h) (at_router r) = false
same_host (at_host h) (at_device d) = false
same_host (at_router r) to = false
same_host (at_device d) to = false

abbrev pub same_device : NetPlace → NetPlace → Bool
same_device (at_device d) (at_device k) = d == k
same_device (at_device d) (at_host h) = false
same_device (at_device d) (at_router r) = false
same_device (at_host h) to = false
same_device (at_router r) to = false

abbrev pub share_an_end : NetLink → NetLink → Bool
share_an_end x y = same_host x.from y.from || same_device x.to y.to

-- link k behind some others, with its ends and sides, is as it may be
abbrev pub is_fit_link : Network → List NetLink → ℕ → NetLink → Bool
is_fit_link network before k l = joins l.from l.to && not (list_any (share_an_end l) before) && keeps_sides network (is_some_number k network.wire) l.from l.to

-- the first link behind some others that isn't
abbrev pub unfit_behind : Network → List NetLink → List NetLink → Option ℕ
unfit_behind network before [] = None
unfit_behind network before (l ∷ links) = if is_fit_link network before (length before) l then unfit_behind network (before ++ l ∷ []) links else Some (length before)

-- The first link that joins what it may not: nothing leaves a device or leads to a host, a host is joined to routers alone, one link leaves a host and one leads to a device, and the wire alone crosses from side 0 to side 1.
abbrev pub unfit_link : Network → Option ℕ
unfit_link network = unfit_behind network [] network.links

-- a link goes from a router to itself or to an earlier one
abbrev pub goes_back : NetPlace → NetPlace → Bool
goes_back (at_router r) (at_router q) = nat_le q r
goes_back (at_router r) (at_host h) = false
goes_back (at_router r) (at_device d) = false
goes_back (at_host h) to = false
goes_back (at_device d) to = false

-- The first link that does.
abbrev pub backward_link : Network → Option ℕ
backward_link network = position_from (λ l. goes_back l.from l.to) 0 network.links

-- The first host without a link from it, or else the first device without a link to it.
abbrev pub unlinked_place : Network → Option NetPlace
unlinked_place network = option_or
    (option_map at_host (find (λ h. not (list_any (leaves_from h) network.links)) (range_with_len 0 (length network.hosts))))
    (option_map at_device (find (λ d. not (list_any (leads_to d) network.links)) (range_with_len 0 (length network.devices))))
