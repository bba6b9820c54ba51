-- What goes over each ring of a network: which flows, how many words at most, and which words in the end. This project's own.
use Rattle.std.specs.Prelude.{◌≡◌, ℕ, ◌/◌, ◌%◌, Bool, true, false, ◌&&◌, ◌==◌, nat_lt, List, [], length, filter, map, sum_by, All, IsTrue, Option, Some, None, option_and_then, slice_get, if◌then◌else◌}
use Rattle.std.specs.List.{list_any, range_with_len}
use Rattle.std.specs.Option.{option_map_or}
use Rattle.sb_word.specs.declared.command.Op.{Op}
use Rattle.sb_word.specs.declared.command.Op.TheVariants.{ReqAtomic, ReqRd, ReqWr, ReqWrPosted, RespRd, RespWr}
use Rattle.sb_packet.specs.Accesses.{Access}
use Rattle.sb_packet.specs.Networks.{NetDevice, NetLink, Network, device_size, has_address}
use Rattle.sb_packet.specs.Scripts.{request_of, script_accesses}
use Rattle.sb_packet.specs.Journals.{flow_part, is_at}
use Rattle.sb_link.specs.RingPlans.{AddressRange, RingFlows, RingPlan}
use Rattle.sb_packet.specs.Answers.{flow_answers}
use Rattle.sb_flow.specs.Ways.{NetWay, network_ways}
use Rattle.sb_packet.specs.declared.entry.Entry.{Entry}
use Rattle.sb_packet.specs.declared.transaction.Kind.{Kind}
use Rattle.sb_packet.specs.declared.transaction.Txn.{Txn}

-- Link k has ring 2k for requests and ring 2k + 1 for answers. Behind those of all links, the far ends of the wire have two more.
abbrev pub ring_link : Network → ℕ → Option ℕ
ring_link network ring = if nat_lt (ring / 2) (length network.links) then Some (ring / 2) else (if ring / 2 == length network.links then network.wire else None)

-- a ring carries answers
abbrev pub is_upward : ℕ → Bool
is_upward ring = ring % 2 == 1

-- a way has link k among its links
abbrev pub has_link : ℕ → NetWay → Bool
has_link k way = list_any (λ j. j == k) way.links

-- the ways that have link k among their links
abbrev pub link_ways : Network → ℕ → List NetWay
link_ways network k = filter (has_link k) (network_ways network)

-- The ways of the flows that go over a ring: those with the ring's link.
abbrev pub ring_ways : Network → ℕ → List NetWay
ring_ways network ring = option_map_or (link_ways network) (ring_link network ring) []

-- the words that a flow's host asks of its device, in order
abbrev pub way_accesses : Network → NetWay → List Access
way_accesses network way = flow_part network way.host way.device (script_accesses way.host)

-- all words but posted ones are answered
abbrev pub is_answered : Op → Bool
is_answered ReqWrPosted = false
is_answered ReqRd = true
is_answered ReqWr = true
is_answered ReqAtomic = true
is_answered RespRd = true
is_answered RespWr = true

-- the words of a flow that count on a ring: all of them on a ring of requests, and the answered ones on a ring of answers
abbrev pub counted_accesses : Network → ℕ → NetWay → List Access
counted_accesses network ring way = if is_upward ring then filter (λ a. is_answered a.op) (way_accesses network way) else way_accesses network way

-- A ring's budget: the number of the words of its flows.
abbrev pub ring_budget : Network → ℕ → ℕ
ring_budget network ring = sum_by (λ way. length (counted_accesses network ring way)) (ring_ways network ring)

-- a device's range
abbrev pub range_of : NetDevice → AddressRange
range_of d = record { base = d.base; bytes = device_size d }

-- 32 places for the ranges of the devices, with zeros in the unused ones
abbrev pub network_ranges : Network → List AddressRange
network_ranges network = map (λ d. option_map_or range_of (slice_get network.devices d) (record { base = 0; bytes = 0 })) (range_with_len 0 32)

-- for each id of a host and each place of a device, 32 of both: their flow is among these ways
abbrev pub flow_table : List NetWay → List (List Bool)
flow_table ways = map (λ id. map (λ d. list_any (λ way. (way.host.id == id) && (way.device == d)) ways) (range_with_len 0 32)) (range_with_len 0 32)

-- the flows of a ring, beside the ranges of all devices
abbrev pub ring_flows : Network → ℕ → RingFlows
ring_flows network ring = record { devices = length network.devices; ranges = network_ranges network; through = flow_table (ring_ways network ring) }

-- a number of the ring's link, 0 where there is none
abbrev pub of_link : (NetLink → ℕ) → Network → ℕ → ℕ
of_link number network ring = option_map_or number (option_and_then (slice_get network.links) (ring_link network ring)) 0

-- A ring's plan.
abbrev pub ring_plan : Network → ℕ → RingPlan
ring_plan network ring = record {
  ring = ring;
  up = is_upward ring;
  width = of_link (λ link. link.width) network ring;
  capacity = of_link (λ link. link.capacity) network ring;
  budget = ring_budget network ring;
  flows = ring_flows network ring;
}

-- what a flow's words come to on a ring: themselves on a ring of requests, their answers on a ring of answers
abbrev pub carried_accesses : Network → List Entry → ℕ → NetWay → List Access
carried_accesses network journal ring way = if is_upward ring then flow_answers network journal way.host way.device else way_accesses network way

-- an access is of the flow of a way
abbrev pub is_on_way : Network → Access → NetWay → Bool
is_on_way network a way = (a.host == way.host.id) && is_at network way.device a

-- A list of accesses is what a ring carried in a run with that journal. The order among flows is free.
pub record IsCarried (network : Network) (journal : List Entry) (ring : ℕ) (list : List Access) : Type 0 where
  -- each flow of the ring has its part of the list
  pub parts : All (λ way. flow_part network way.host way.device list ≡ carried_accesses network journal ring way) (ring_ways network ring)
  -- and all that was carried is of these flows
  pub no_others : All (λ a. IsTrue (list_any (is_on_way network a) (ring_ways network ring))) list

-- The words of a transaction, where it is at a device.

-- the words of a transaction at a device; 0 where it is elsewhere
abbrev pub words_at : NetDevice → Txn → ℕ
words_at device t = if has_address t.addr device then t.count else 0

-- a device answers transactions of that kind
abbrev pub is_answered_kind : Kind → Bool
is_answered_kind kind = is_answered (request_of kind)

-- the same of those that the device answers
abbrev pub answered_at : NetDevice → Txn → ℕ
answered_at device t = if is_answered_kind t.kind then words_at device t else 0
