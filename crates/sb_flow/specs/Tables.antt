-- What a value of `Paths` holds: for each host and device the way between them, and for each link what goes over it.
use Rattle.std.specs.Prelude.{ℕ, Bool, ◌==◌, List, [], length, filter, map, sum_by, if◌then◌else◌}
use Rattle.std.specs.List.{enumerate_from, list_any, range_with_len}
use Rattle.sb_packet.specs.Networks.{NetHost, Network}
use Rattle.sb_flow.specs.Ways.{NetWay, aims_at, router_after, router_before, way_links}
use Rattle.sb_flow.specs.Rings.{flow_table, is_answered, link_ways, way_accesses}
use Rattle.sb_flow.specs.declared.leg.Leg.{Leg}

-- the way between a host and a device: its links with the routers that they join, for each link whether it is among them, and the words that go over it and are answered
pub record FlowTable : Type 0 where
  pub legs : List Leg
  pub on : List Bool
  pub words : ℕ
  pub answered : ℕ

-- the ways from a host with that id, one for each device
pub record HostTable : Type 0 where
  pub id : ℕ
  pub flows : List FlowTable

-- what goes over a link: the words, those that are answered, and for each id of a host and place of a device whether their flow does
pub record LinkTable : Type 0 where
  pub requests : ℕ
  pub answers : ℕ
  pub through : List (List Bool)

pub record PathTable : Type 0 where
  pub hosts : List HostTable
  pub links : List LinkTable

-- a link with the routers that it joins
abbrev pub leg_of : Network → ℕ → Leg
leg_of network k = record { link = k; from = router_before network k; to = router_after network k }

-- the links from host h to device d, where the host aims at the device
abbrev pub aimed_links : Network → ℕ → NetHost → ℕ → List ℕ
aimed_links network h host d = if aims_at network host d then way_links network h d else []

-- what one host asks of one device
abbrev pub way_of : Network → ℕ → NetHost → ℕ → NetWay
way_of network h host d = record { host = host; device = d; links = aimed_links network h host d }

-- which links a way has
abbrev pub marks_of : Network → List ℕ → List Bool
marks_of network links = map (λ k. list_any (λ j. j == k) links) (range_with_len 0 (length network.links))

-- the table of host h and device d
abbrev pub flow_table_of : Network → ℕ → NetHost → ℕ → FlowTable
flow_table_of network h host d = record {
  legs = map (leg_of network) (aimed_links network h host d);
  on = marks_of network (aimed_links network h host d);
  words = length (way_accesses network (way_of network h host d));
  answered = length (filter (λ a. is_answered a.op) (way_accesses network (way_of network h host d)));
}

-- the table of host h
abbrev pub host_table_of : Network → ℕ → NetHost → HostTable
host_table_of network h host = record { id = host.id; flows = map (flow_table_of network h host) (range_with_len 0 (length network.devices)) }

-- the table of link k
abbrev pub link_table_of : Network → ℕ → LinkTable
link_table_of network k = record {
  requests = sum_by (λ way. length (way_accesses network way)) (link_ways network k);
  answers = sum_by (λ way. length (filter (λ a. is_answered a.op) (way_accesses network way))) (link_ways network k);
  through = flow_table (link_ways network k);
}

-- The paths of a network.
abbrev pub paths_of : Network → PathTable
paths_of network = record {
  hosts = map (λ p. host_table_of network p.0 p.1) (enumerate_from 0 network.hosts);
  links = map (link_table_of network) (range_with_len 0 (length network.links));
}
