-- Where a router's flows go: by its tables, and in its network to the ports of the links by which they leave it.
use Rattle.std.specs.Prelude.{ℕ, List, [], Option, None, slice_index_or, ◌≡◌, ◌<◌, ◌==◌, Bool, if◌then◌else◌}
use Rattle.std.specs.List.{position_from}
use Rattle.std.specs.Option.{option_and_then}
use Rattle.sb_router.specs.Lanes.{Route}
use Rattle.sb_packet.specs.Networks.{Network}
use Rattle.sb_link.specs.RingPlans.{NetFlow}
use Rattle.sb_flow.specs.Ways.{link_down, link_up}

-- Where each flow goes, by a table.

-- what stands in the row of the flow's host, at its device
abbrev pub route_of : List (List (Option ℕ)) → Route
route_of rows f = slice_index_or (slice_index_or rows f.host []) f.device None

-- the link by which a flow leaves a router: towards its host, or towards its device
abbrev pub link_on : Network → Bool → ℕ → NetFlow → Option ℕ
link_on network up r f = if up then link_up network r f else link_down network r f

-- the place of a link among these
abbrev pub place_of_link : List ℕ → ℕ → Option ℕ
place_of_link links k = position_from (λ link. link == k) 0 links

-- the place to which a flow goes
abbrev pub place_on : Network → Bool → ℕ → List ℕ → NetFlow → Option ℕ
place_on network up r links f = option_and_then (place_of_link links) (link_on network up r f)

-- A table says for each host's id and each device where their flow goes.
abbrev pub IsTableOf : Network → Bool → ℕ → List ℕ → List (List (Option ℕ)) → Type 0
IsTableOf network up r links rows = (f : NetFlow) → f.host < 32 → f.device < 32 → route_of rows f ≡ place_on network up r links f
