-- Ports, rings, hosts and devices as they stand in a network, at a moment of a run and after a round.
use Rattle.std.specs.Prelude.{◌≡◌, ℕ, is_some, All, Contains, Some, slice_get, List}
use Rattle.sb_port.specs.Ports.{PortSide, offered_words, owes}
use Rattle.sb_node.specs.Sides.{RingSide, is_drained, is_full}
use Rattle.sb_laws.specs.Moments.{Moment}
use Rattle.sb_laws.specs.Standstills.{RoundEnd}
use Rattle.sb_packet.specs.Networks.{NetHost, Network, opening_memory}
use Rattle.sb_flow.specs.Ways.{first_link}
use Rattle.sb_host.specs.Asked.{asked_by}
use Rattle.sb_host.specs.Hosts.{HostSide, IsWholeHost}
use Rattle.sb_laws.specs.Layouts.{Layout, ring_home}
use Rattle.sb_laws.specs.NetworkLayouts.{answer_ring, answer_rings, first_ring, last_ring, link_into, request_ring, request_rings}
use Rattle.sb_packet.specs.Journals.{journal_accesses}
use Rattle.sb_flow.specs.Rings.{ring_plan}
use Rattle.sb_packet.specs.declared.entry.Entry.{Entry}
use Rattle.sb_device.specs.Served.{HasServed, entry_accesses}
use Rattle.sb_device.specs.Sides.{DeviceSide}

-- A moment of a run, and what there is after a round, as ports and rings stand in their nodes.

-- the lists of a ring are those of the port in front of it, and of the end behind it
pub record HasPort (m : Moment) (r : ℕ) (port : PortSide) : Type 0 where
  pub sent : m.sent r ≡ port.state.sent
  pub offered : m.offered r ≡ offered_words port

pub record HasRing (m : Moment) (r : ℕ) (ring : RingSide) : Type 0 where
  pub received : m.received r ≡ ring.received

-- and so is what there is after a round
pub record ShowsPort (s : RoundEnd) (r : ℕ) (port : PortSide) : Type 0 where
  pub lists : HasPort s.at r port
  pub full : s.full r ≡ is_full port
  pub owes : s.owes r ≡ owes port.state
  pub merges : s.merges r ≡ is_some port.state.waiting.held
  pub told : s.told r ≡ port.state.close_requested

pub record ShowsRing (s : RoundEnd) (r : ℕ) (ring : RingSide) : Type 0 where
  pub lists : HasRing s.at r ring
  pub empty : s.empty r ≡ is_drained ring

-- A host as it stands in a network: whose script it asks for, and by which rings it asks and is answered.

-- A host asks for the script of one of the network's hosts. All its flows begin at its one ring, and all their answers come by its other.
pub record IsHostOf (network : Network) (layout : Layout) (host : NetHost) (h : HostSide) : Type 0 where
  pub listed : Contains network.hosts host
  pub asked : h.transactions.asked ≡ asked_by network host
  pub asks : All (λ f. f.host ≡ host.id → layout.requests.first f ≡ h.requests.plan.ring) layout.requests.flows
  pub answered : All (λ f. f.host ≡ host.id → ring_home layout f ≡ h.answers.plan.ring) layout.requests.flows

-- A host is built for that place of a network: it asks for the script there, by the first ring of the link from there, and its answers come by
-- the link's last ring.
pub record IsHostBuiltFor (network : Network) (place : ℕ) (h : HostSide) : Type 0 where
  pub asked : (host : NetHost) → slice_get network.hosts place ≡ Some host → h.transactions.asked ≡ asked_by network host
  pub asks_by : (k : ℕ) → first_link network place ≡ Some k → h.requests.plan.ring ≡ first_ring (request_rings network k)
  pub answered_by : (k : ℕ) → first_link network place ≡ Some k → h.answers.plan.ring ≡ last_ring (answer_rings network k)

-- A host stands in a network at a moment of a run: it is built for its place, and is whole.
pub record IsHostAt (network : Network) (m : Moment) (place : ℕ) (h : HostSide) : Type 0 where
  pub built : IsHostBuiltFor network place h
  pub whole : IsWholeHost h
  pub has : HasPort m h.requests.plan.ring h.requests

-- A device as it stands in a network: at which rings, and what it has served.

-- A device stands in a network at a moment of a run: at the two rings of the link that leads to its place, it has served what came since its
-- opening memory, and the journal has its entries.
pub record IsDeviceAt (network : Network) (journal : List Entry) (m : Moment) (place : ℕ) (d : DeviceSide) : Type 0 where
  pub into : HasRing m (request_ring (link_into network place)) d.requests
  pub back : HasPort m (answer_ring (link_into network place)) d.answers
  pub plan : d.answers.plan ≡ ring_plan network (answer_ring (link_into network place))
  pub journalled : journal_accesses journal place ≡ entry_accesses d.journal.entries
  pub serves : HasServed (opening_memory network place) d
