-- What a settled network tells as results: where the outcomes of its hosts stand, and that all is of the network's size.
use Rattle.std.proofs.Common.{◌≡◌, ◌<◌, ℕ, zero, suc, List, [], ◌∷◌, length, refl, sym, ap, ◌∙◌, subst, arith, false}
use Rattle.std.specs.Prelude.{Option, Some, get_or, map, slice_get, slice_index_or}
use Rattle.std.specs.List.{enumerate_from, range_with_len}
use Rattle.std.proofs.lemmas.List.{ext_get_or, get_or-map, length-map}
use Rattle.std.proofs.lemmas.List.FromFn.{get_or-map-range_with_len, length-enumerate_from, length-map-range_with_len}
use Rattle.std.proofs.lemmas.Option.{slice_get-get_or, slice_get_within}
use Rattle.sb_packet.specs.Answers.{Outcome, RunResults, final_memory, host_outcomes, outcome_of, run_results, transaction_answers}
use Rattle.sb_packet.specs.Memories.{MemoryState}
use Rattle.sb_packet.specs.Networks.{NetDevice, NetHost, Network, device_size, opening_memory}
use Rattle.sb_packet.specs.declared.entry.Entry.{Entry}
use Rattle.sb_packet.specs.declared.transaction.Txn.{Txn}
use Rattle.sb_link.specs.RingPlans.{AddressRange, RingPlan, device_ranges}
use Rattle.sb_flow.specs.Accepted.{IsAccepted}
use Rattle.sb_flow.specs.Rings.{ring_flows, ring_plan}
use Rattle.sb_device.specs.Sides.{held_bytes}
use Rattle.sb_host.specs.Asked.{Asked, asked_by, line_in}
use Rattle.sb_text.specs.Told.{FitsNetwork, HasOutcome, told_outcome}
use Rattle.sb_node.specs.Sides.{RingSide}
use Rattle.sb_member.specs.Ends.{ring_at, rings_of}
use Rattle.sb_member.specs.Joints.{joint_at, no_node, node_at, receiver_of}
use Rattle.sb_member.specs.Members.{IsWholeMember}
use Rattle.sb_member.specs.declared.joint.Joint.{Joint}
use Rattle.sb_member.specs.declared.member.Member.{Member}
use Rattle.sb_member.specs.declared.member.Member.TheVariants.{Device, Host, Router}
use Rattle.sb_net.specs.Over.{HasFinalMemory}
use Rattle.sb_net.specs.Running.{HasRun}
use Rattle.sb_net.specs.Settled.{SettledSide, TellsRun, outcome_at, transactions_at}
use Rattle.sb_net.specs.Standing.{IsDeviceNode, StandsFor, device_number}
use Rattle.sb_net.proofs.DeviceMemories.{opening_held, opening_range}

-- the place of a host with an outcome of that number, among the outcomes of all hosts
pub record IsToldHost {A : Type 0} (f : NetHost → List A) (hosts : List NetHost) (host : ℕ) : Type 0 where
  pub whose : NetHost
  pub there : slice_get hosts host ≡ Some whose
  pub list : slice_index_or (map f hosts) host [] ≡ f whose

pub host_told : {A : Type 0} (f : NetHost → List A) (hosts : List NetHost) (host index : ℕ) → index < length (slice_index_or (map f hosts) host []) → IsToldHost f hosts host
host_told f [] host index lt = absurd (omega (arith, lt))
host_told f (h ∷ hosts) zero index lt = record { whose = h; there = refl; list = refl }
host_told f (h ∷ hosts) (suc k) index lt = let rest = host_told f hosts k index lt in record { whose = rest.whose; there = rest.there; list = rest.list }

-- a host has an outcome for each transaction
pub outcomes_each : (network : Network) (journal : List Entry) (host : NetHost) → length (host_outcomes network journal host) ≡ length host.script
outcomes_each network journal host =
    length-map (enumerate_from 0 host.script) (λ (p : ℕ × Txn). outcome_of p.1.kind (transaction_answers network journal host p.0 p.1)) ∙ length-enumerate_from 0 host.script

outcomes_fit : (network : Network) (journal : List Entry) (hosts : List NetHost) → map length (map (host_outcomes network journal) hosts) ≡ map (λ h. length h.script) hosts
outcomes_fit network journal [] = refl
outcomes_fit network journal (h ∷ hosts) =
    ap (λ n. n ∷ map length (map (host_outcomes network journal) hosts)) (outcomes_each network journal h) ∙ ap (λ list. length h.script ∷ list) (outcomes_fit network journal hosts)

-- The outcome of that number of that host stands in what the settled network tells.
pub record IsOutcomeTold (network : Network) (journal : List Entry) (settled : SettledSide) (results : RunResults) (host index : ℕ) : Type 0 where
  pub whose : NetHost
  pub there : slice_get network.hosts host ≡ Some whose
  pub host_in : host < length settled.hosts
  pub index_in : index < length (transactions_at settled host).asked.lines
  pub outcome : (none : Outcome) → told_outcome results host index none ≡ outcome_at network journal whose index none

pub outcome_told : (network : Network) (journal : List Entry) (settled : SettledSide) (results : RunResults) (host index : ℕ) → TellsRun network journal settled → results ≡ run_results network journal
    → HasOutcome results host index → IsOutcomeTold network journal settled results host index
outcome_told network journal settled results host index tells same has =
    let told = host_told (host_outcomes network journal) network.hosts host index (subst (λ r. HasOutcome r host index) same has) in
    let hosts = tells.hosts_count in
    let many : length (transactions_at settled host).asked.lines ≡ length told.whose.script = lines_each network told.whose (tells.outcomes host told.whose told.there).asked in
    let lt : index < length (host_outcomes network journal told.whose) = subst (λ list. index < length list) told.list (subst (λ r. HasOutcome r host index) same has) in record {
      whose = told.whose;
      there = told.there;
      host_in = let within = slice_get_within network.hosts host told.whose told.there in omega (arith, within, hosts);
      index_in = omega (arith, lt, many, outcomes_each network journal told.whose);
      outcome = λ none. ap (λ r. told_outcome r host index none) same ∙ ap (λ list. slice_index_or list index none) told.list;
    }
  where
    lines_each : (network : Network) (whose : NetHost) {asked : Asked} → asked ≡ asked_by network whose → length asked.lines ≡ length whose.script
    lines_each network whose is = ap (λ (a : Asked). length a.lines) is ∙ length-map whose.script (line_in network)

module _ {F T U : Type 0} where
  -- the end of a ring has the plan of its ring
  ring_planned : (network : Network) (joints : List Joint) (nodes : List (Member F T U)) → StandsFor network joints nodes → (k i : ℕ) → k < length nodes → i < length (rings_of (node_at nodes k))
      → (ring_at (node_at nodes k) i).plan ≡ ring_plan network (ring_at (node_at nodes k) i).plan.ring
  ring_planned network joints nodes s k i node place =
      let ring = (ring_at (node_at nodes k) i).plan.ring in
      let by = s.covered.rings k i node place in
      let there : receiver_of nodes (joint_at joints ring) ≡ ring_at (node_at nodes k) i =
      ap (λ n. ring_at (node_at nodes n) (joint_at joints ring).into) by.to ∙ ap (λ n. ring_at (node_at nodes k) n) by.into in
      ap (λ (x : RingSide). x.plan) (sym there) ∙ s.receives_by ring by.ring

  -- a device's memory has as many bytes as its device
  memory_sized : (network : Network) (journal : List Entry) (d : ℕ) (dev : NetDevice) (m : Member F T U) → IsAccepted network → d < length network.devices → slice_get network.devices d ≡ Some dev
      → IsDeviceNode network d m → IsWholeMember m → (ring_at m 0).plan ≡ ring_plan network (ring_at m 0).plan.ring → HasFinalMemory network journal d m
      → length (final_memory network journal d).bytes ≡ device_size dev
  memory_sized network journal d dev (Host x) good lt got is whole planned final = absurd is
  memory_sized network journal d dev (Router x) good lt got is whole planned final = absurd is
  memory_sized network journal d dev (Device x) good lt got is whole planned final =
      let ring = x.requests.plan.ring in
      let range : slice_get (device_ranges (ring_flows network ring)) d ≡ Some (record { base = x.memory.base; bytes = held_bytes x.memory }) =
      ap (λ n. slice_get (device_ranges (ring_flows network ring)) n) (sym is.number)
      ∙ ap (λ (p : RingPlan). slice_get (device_ranges p.flows) x.number) (sym planned) ∙ whole.in_order.planned.range in
      let same : held_bytes x.memory ≡ held_bytes (opening_memory network d) = of_ranges range (opening_range network ring d dev good lt got) in
      ap (λ (m : MemoryState). length m.bytes) (sym final) ∙ same ∙ opening_held network d dev good lt got
    where
      of_ranges : {a b : AddressRange} {x : Option AddressRange} → x ≡ Some a → x ≡ Some b → a.bytes ≡ b.bytes
      of_ranges {a = a} {b = b} one other = let some : Some a ≡ Some b = sym one ∙ other in let same : a ≡ b = cc in ap (λ (r : AddressRange). r.bytes) same

  -- a device has a ring that comes in
  one_ring : (network : Network) (d : ℕ) (m : Member F T U) → IsDeviceNode network d m → 0 < length (rings_of m)
  one_ring network d (Host x) is = absurd is
  one_ring network d (Router x) is = absurd is
  one_ring network d (Device x) is = omega arith

-- What a journal comes to is of the size of the network that has run with it.
pub results_fit : {F T U : Type 0} (network : Network) (journal : List Entry) (joints : List Joint) (nodes : List (Member F T U)) → IsAccepted network → HasRun network journal joints nodes
    → FitsNetwork network (run_results network journal)
results_fit network journal joints nodes good run =
    let s = run.stands in
    let count = length network.devices in
    let image : ℕ → List ℕ = λ d. (final_memory network journal d).bytes in
    let images_long : length (map length (map image (range_with_len 0 count))) ≡ length (map device_size network.devices) =
    length-map (map image (range_with_len 0 count)) (λ (list : List ℕ). length list) ∙ length-map-range_with_len image 0 count ∙ sym (length-map network.devices device_size) in record {
      outcomes = outcomes_fit network journal network.hosts;
      images = ext_get_or 0 (map length (map image (range_with_len 0 count))) (map device_size network.devices) images_long (λ d below. sized d (omega (arith, below, images_long, length-map network.devices device_size)));
    }
  where
    sized : (d : ℕ) → d < length network.devices
        → get_or (map length (map (λ d. (final_memory network journal d).bytes) (range_with_len 0 (length network.devices)))) d 0 ≡ get_or (map device_size network.devices) d 0
    sized d lt =
        let s = run.stands in
        let all = s.nodes_count in
        let image : ℕ → List ℕ = λ d. (final_memory network journal d).bytes in
        let none : NetDevice = record { name = []; base = 0; pages = 0; readonly = false; image = [] } in
        let dev = get_or network.devices d none in
        let number = device_number network d in
        let m = node_at nodes number in
        let below : number < length nodes = omega (arith, lt, all) in
        let is = s.devices d lt in
        get_or-map (λ (list : List ℕ). length list) (map image (range_with_len 0 (length network.devices))) d [] 0 (omega (arith, lt, length-map-range_with_len image 0 (length network.devices)))
        ∙ ap (λ (list : List ℕ). length list) (get_or-map-range_with_len image 0 (length network.devices) d d [] lt (omega arith))
        ∙ memory_sized network journal d dev m good lt (slice_get-get_or network.devices d none lt) is (s.joined.whole number no_node below)
        (ring_planned network joints nodes s number 0 below (one_ring network d m is)) (run.over.memories d lt)
        ∙ sym (get_or-map device_size network.devices d none 0 lt)
