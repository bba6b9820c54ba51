-- How a network is laid out: which rings its flows take, there and back. Each accepted network has such a layout.
use Rattle.std.specs.Prelude.{◌≡◌, ◌≢◌, ◌≤◌, ◌<◌, ℕ, true, false, [], length, map, All, AllPairs, Contains}
use Rattle.sb_packet.specs.Networks.{Network}
use Rattle.sb_packet.specs.Scripts.{IsTransaction}
use Rattle.sb_link.specs.RingPlans.{NetFlow}
use Rattle.sb_laws.specs.Flows.{Course, IsOneWay, answered_of, asked_words, flows_over, goes_over, is_among_flows, last_of}
use Rattle.sb_host.specs.Places.{asked_of}

-- both directions, and the ring into each device by the device's place
pub record Layout : Type 0 where
  pub requests : Course
  pub answers : Course
  pub into : ℕ → ℕ

-- the ring by which a flow's answers come to its host
abbrev pub ring_home : Layout → NetFlow → ℕ
ring_home layout f = last_of (layout.answers.first f) (layout.answers.rest f)

-- The scripts are as they can be written, none too long, and no two hosts have one id.
pub record HasScripts (network : Network) : Type 0 where
  pub transactions : All (λ host. All IsTransaction host.script) network.hosts
  pub few : All (λ host. length host.script ≤ 65536) network.hosts
  pub ids : AllPairs (λ a b. a.id ≢ b.id) network.hosts

-- Each flow has a way to its device and one back, and may bring as many words as its script has for it.
pub record IsLayout (network : Network) (layout : Layout) : Type 0 where
  pub scripts : HasScripts network
  -- the flows are of hosts and at devices; no host asks a device for anything where there is no flow
  pub same_flows : layout.answers.flows ≡ layout.requests.flows
  pub hosts : All (λ f. Contains (map (λ h. h.id) network.hosts) f.host) layout.requests.flows
  pub devices : All (λ f. f.device < length network.devices) layout.requests.flows
  pub all_flows : (f : NetFlow) → is_among_flows f layout.requests.flows ≡ false → asked_words network f ≡ []
  -- what a flow may bring, there and back
  pub asked : All (λ f. length (asked_words network f) ≤ layout.requests.allowance f) layout.requests.flows
  pub answered : All (λ f. length (answered_of network f) ≤ layout.answers.allowance f) layout.requests.flows
  pub one_way : (r : ℕ) → IsOneWay layout.requests r
  pub one_way_back : (r : ℕ) → IsOneWay layout.answers r
  -- the ring into a device is on the way of each flow to that device, and of no other
  pub into_has : (d : ℕ) → d < length network.devices → layout.requests.has (layout.into d) ≡ true
  pub into_flows : (d : ℕ) → d < length network.devices → All (λ f. f.device ≡ d) (flows_over layout.requests (layout.into d))
  pub leads : All (λ f. goes_over layout.requests (layout.into f.device) f ≡ true) layout.requests.flows
  -- the ring out of a device is on the way back of the same flows; the ring into a host is of answers
  pub back_flows : All (λ f. flows_over layout.answers (layout.answers.first f) ≡ flows_over layout.requests (layout.into f.device)) layout.requests.flows
  pub back_has : All (λ f. layout.answers.has (ring_home layout f) ≡ true) layout.requests.flows
