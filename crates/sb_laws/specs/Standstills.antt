-- A standstill: the order of stages, what rings and nodes promise after a round in which no node moved, and what follows.
use Rattle.std.specs.Prelude.{◌≤◌, ◌<◌, ℕ, Bool, ◌≡◌, true, false, ◌⊎◌, Option, Some, None, [], length, List, All, Contains}
use Rattle.std.specs.List.{find}
use Rattle.sb_link.specs.Traffic.{has_close, item_accesses}
use Rattle.sb_laws.specs.Moments.{Moment, arrived}
use Rattle.sb_laws.specs.Runs.{IsLink, IsMomentOf}
use Rattle.sb_packet.specs.Accesses.{Access}
use Rattle.sb_packet.specs.Networks.{Network}
use Rattle.sb_link.specs.RingPlans.{NetFlow}
use Rattle.sb_packet.specs.declared.entry.Entry.{Entry}
use Rattle.sb_flow.specs.Rings.{is_answered}
use Rattle.sb_laws.specs.Flows.{is_among_flows, way_rings, words_of_flow}
use Rattle.sb_laws.specs.Layouts.{Layout, ring_home}
use Rattle.sb_host.specs.Outcomes.{is_answer_to}

-- The order in which rings are taken: each leads from one stage of a network to a later one.

-- The rings of a network, or of one side of it, by number. The stages are, from 0: what hosts send; each router for requests, in an
-- order that no request goes against; the devices; each router for answers, the other way round; what hosts receive.
pub record Stages : Type 0 where
  -- the rings have the numbers below this
  pub rings : ℕ
  pub last : ℕ
  -- the stage that sends over a ring, and the one that receives by it
  pub from : ℕ → ℕ
  pub to : ℕ → ℕ
  -- what a wire brings counts as a ring that has only its receiving end here, and what goes into a wire as one that has only its sending end
  pub comes_in : ℕ → Bool
  pub goes_out : ℕ → Bool
  -- a host sends over the ring
  pub leaves_host : ℕ → Bool

-- A ring leads to a later stage.
pub record Rises (stages : Stages) (r : ℕ) : Type 0 where
  pub rises : stages.from r < stages.to r
  pub within : stages.to r ≤ stages.last

-- what there is after a round, by the number of a ring
pub record RoundEnd : Type 0 where
  pub at : Moment
  -- by what the sender knows the ring is full; by what the receiver knows it is empty
  pub full : ℕ → Bool
  pub empty : ℕ → Bool
  -- the port in front of the ring owes an item, holds a packet for merging, was told to close
  pub owes : ℕ → Bool
  pub merges : ℕ → Bool
  pub told : ℕ → Bool
  -- a router holds a packet that came by the ring, for the port in front of this other ring
  pub holds : ℕ → Option ℕ
  -- the host that sends over the ring waits for a slot of its window
  pub waits : ℕ → Bool

-- the Close was sent over a ring; it came by the ring
abbrev pub is_closed : RoundEnd → ℕ → Bool
is_closed s r = has_close (s.at.sent r)

abbrev pub is_ended : RoundEnd → ℕ → Bool
is_ended s r = has_close (s.at.received r)

-- A ring whose two ends are here, and knew enough of each other: where its sender finds it full something wasn't received,
-- and where its receiver finds it empty all was.
pub record IsTrueRing (s : RoundEnd) (r : ℕ) : Type 0 where
  pub link : IsLink s.at r
  pub full : s.full r ≡ true → length (s.at.received r) < length (s.at.sent r)
  pub empty : s.empty r ≡ true → length (s.at.sent r) ≤ length (s.at.received r)

-- A wire that had something to give and took what it was given: neither its read nor its write waited.
pub record IsOpenWire (stages : Stages) (s : RoundEnd) (r : ℕ) : Type 0 where
  pub in_not_empty : stages.comes_in r ≡ true → s.empty r ≡ false
  pub in_not_full : stages.comes_in r ≡ true → s.full r ≡ false
  pub out_not_full : stages.goes_out r ≡ true → s.full r ≡ false

-- The port in front of a ring.
pub record IsIdlePort (s : RoundEnd) (r : ℕ) : Type 0 where
  -- it keeps an item or a packet only where the ring is full
  pub owes : s.owes r ≡ true → s.full r ≡ true
  pub merges : s.merges r ≡ true → s.full r ≡ true
  -- where it keeps nothing it has sent all that it was offered, and its Close once it was told to
  pub settled : s.owes r ≡ false → s.merges r ≡ false → item_accesses (s.at.sent r) ≡ s.at.offered r
  pub closed : s.told r ≡ true → s.owes r ≡ false → s.merges r ≡ false → is_closed s r ≡ true

-- The node that sends over a ring.
pub record IsIdleSender (stages : Stages) (s : RoundEnd) (r : ℕ) : Type 0 where
  pub port : IsIdlePort s r
  -- a host that hasn't told its port to close waits for a slot, or its ring is full
  pub host : stages.leaves_host r ≡ true → s.told r ≡ false → (s.waits r ≡ true) ⊎ (s.full r ≡ true)
  -- any other node has told it, where each ring into the node's stage has ended and nothing that came by it is held
  pub node : stages.leaves_host r ≡ false →
      ((q : ℕ) → q < stages.rings → stages.goes_out q ≡ false → stages.to q ≡ stages.from r → (is_ended s q ≡ true) × (s.holds q ≡ None)) → s.told r ≡ true

-- A ring of the stage that receives by ring r is full.
pub record IsReceiverBlocked (stages : Stages) (s : RoundEnd) (r : ℕ) : Type 0 where
  pub by : ℕ
  pub is_ring : by < stages.rings
  pub here : stages.from by ≡ stages.to r
  pub full : s.full by ≡ true

-- The node that receives by a ring.
pub record IsIdleReceiver (stages : Stages) (s : RoundEnd) (r : ℕ) : Type 0 where
  -- what it holds is for a full ring of its stage
  pub held : (p : ℕ) → s.holds r ≡ Some p → (p < stages.rings) × (stages.from p ≡ stages.to r) × (s.full p ≡ true)
  pub none_held : s.holds r ≡ None → s.at.held r ≡ []
  -- a ring that hasn't ended was empty, or there was a cause to leave it alone: what came by it is held, or a ring of the stage is full
  pub drained : is_ended s r ≡ false → (s.empty r ≡ true) ⊎ (((p : ℕ) × (s.holds r ≡ Some p)) ⊎ IsReceiverBlocked stages s r)

-- All promises, after a round in which no node moved.
pub record IsStandstill (stages : Stages) (s : RoundEnd) : Type 0 where
  pub rising : (r : ℕ) → r < stages.rings → Rises stages r
  pub wires : (r : ℕ) → r < stages.rings → IsOpenWire stages s r
  pub rings : (r : ℕ) → r < stages.rings → stages.comes_in r ≡ false → stages.goes_out r ≡ false → IsTrueRing s r
  pub senders : (r : ℕ) → r < stages.rings → stages.comes_in r ≡ false → IsIdleSender stages s r
  pub receivers : (r : ℕ) → r < stages.rings → stages.goes_out r ≡ false → IsIdleReceiver stages s r

-- What follows of a standstill.

-- The numbers of a ring whose ends have met, and over which nothing went since: what was sent and received, and what the sender knows of
-- the other end and the receiver of this one.
pub record HasLearnt (capacity sent received taken known : ℕ) : Type 0 where
  pub some : 0 < capacity
  pub met_taken : received ≤ taken
  pub met_known : sent ≤ known

-- nothing is kept in front of a ring
pub record IsQuietSender (s : RoundEnd) (r : ℕ) : Type 0 where
  pub room : s.full r ≡ false
  pub owes : s.owes r ≡ false
  pub merges : s.merges r ≡ false
  pub sent : item_accesses (s.at.sent r) ≡ s.at.offered r

-- nothing is kept behind a ring, and all that was sent over it was received
pub record IsQuietReceiver (stages : Stages) (s : RoundEnd) (r : ℕ) : Type 0 where
  pub holds : s.holds r ≡ None
  pub received : stages.comes_in r ≡ false → s.at.received r ≡ s.at.sent r
  pub ended : stages.comes_in r ≡ true → is_ended s r ≡ true

-- A ring is done: its Close was sent, and was received, as far as its ends are here.
pub record IsFinished (stages : Stages) (s : RoundEnd) (r : ℕ) : Type 0 where
  pub closed : stages.comes_in r ≡ false → is_closed s r ≡ true
  pub ended : stages.goes_out r ≡ false → is_ended s r ≡ true

-- A host waits for a slot.
pub record IsHostWaiting (stages : Stages) (s : RoundEnd) : Type 0 where
  pub at : ℕ
  pub is_ring : at < stages.rings
  pub waits : s.waits at ≡ true

-- The ways of a flow are made of rings that have both ends here.
pub record IsWithin (stages : Stages) (layout : Layout) (f : NetFlow) : Type 0 where
  pub there : All (λ r. r < stages.rings) (way_rings layout.requests f)
  pub back : All (λ r. r < stages.rings) (way_rings layout.answers f)

-- The host that sends over a ring misses an answer: it has offered a word that is answered, and nothing that looks like the answer has come.
pub record MissesAnswer (network : Network) (layout : Layout) (m : Moment) (r : ℕ) : Type 0 where
  pub flow : NetFlow
  pub word : Access
  pub is_flow : is_among_flows flow layout.requests.flows ≡ true
  pub leaves : layout.requests.first flow ≡ r
  pub offered : Contains (words_of_flow network flow (m.offered r)) word
  pub answered : is_answered word.op ≡ true
  pub missing : find (is_answer_to word) (arrived m (ring_home layout flow)) ≡ None

-- A whole network after a round in which no node moved.
pub record IsWholeStandstill (network : Network) (layout : Layout) (journal : List Entry) (stages : Stages) (s : RoundEnd) : Type 0 where
  pub still : IsStandstill stages s
  pub moment : IsMomentOf network layout journal s.at
  -- each ring has both ends here, and all ways are made of such rings
  pub inside : (r : ℕ) → r < stages.rings → (stages.comes_in r ≡ false) × (stages.goes_out r ≡ false)
  pub within : All (IsWithin stages layout) layout.requests.flows
  -- a host waits only while it misses an answer
  pub windows : (r : ℕ) → r < stages.rings → s.waits r ≡ true → MissesAnswer network layout s.at r
