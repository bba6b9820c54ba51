-- What is promised of a device: when it is whole, what its turns keep, and what one turn does.
use Rattle.std.specs.Prelude.{◌≡◌, ◌≢◌, ℕ, List, [], ◌++◌, ◌∷◌, false, All}
use Rattle.std.proofs.Common.{refl, sym, ap, ◌∙◌, subst, append_assoc, append-nil}
use Rattle.std.proofs.lemmas.List.Elements.{All-nil, All-append}
use Rattle.sb_link.specs.declared.answers.Turn.{Turn}
use Rattle.sb_link.specs.declared.answers.Turn.TheVariants.{Moved}
use Rattle.sb_packet.specs.Memories.{MemoryState}
use Rattle.sb_packet.specs.declared.entry.Entry.{Entry}
use Rattle.sb_port.specs.Ports.{IsFit, owes}
use Rattle.sb_node.specs.Sides.{is_done, node_moves}
use Rattle.sb_node.specs.Kept.{IsKeptPort, IsKeptRing, kept_port_same, kept_port_then, kept_ring_same, kept_ring_then}
use Rattle.sb_node.specs.Turns.{IsAnswered, idle_causes}
use Rattle.sb_node.specs.Idle.{IsIdleAt}
use Rattle.sb_node.specs.Steps.{HasFewMore, IsBlockedPort, IsPortServed, IsRingServed}
use Rattle.sb_device.specs.Sides.{DeviceSide, held_bytes}
use Rattle.sb_device.specs.Served.{HasServed}
use Rattle.sb_device.specs.Requests.{DeviceSteps, no_step, steps_joined}
use Rattle.sb_device.specs.Plans.{IsDeviceInOrder}

-- A device is whole: its port is fit, and it is in order.
pub record IsWholeDevice (d : DeviceSide) : Type 0 where
  pub fit : IsFit d.answers.plan d.answers.state
  pub in_order : IsDeviceInOrder d

-- entries came behind a journal, all of that round and that device
pub record IsJournalled (round device : ℕ) (before after : List Entry) : Type 0 where
  pub added : List Entry
  pub joined : before ++ added ≡ after
  pub rounds : All (λ e. e.round ≡ round) added
  pub devices : All (λ e. e.device ≡ device) added

-- What turns of a round keep of a device: nothing is taken back, it serves one request after another, and goes on with what it served.
pub record IsKeptDevice (round : ℕ) (before after : DeviceSide) : Type 0 where
  pub number : after.number ≡ before.number
  pub base : after.memory.base ≡ before.memory.base
  pub size : held_bytes after.memory ≡ held_bytes before.memory
  pub readonly : after.memory.readonly ≡ before.memory.readonly
  pub requests : IsKeptRing before.requests after.requests
  pub answers : IsKeptPort before.answers after.answers
  pub journalled : IsJournalled round before.number before.journal.entries after.journal.entries
  pub steps : DeviceSteps round before after
  pub serves : (opening : MemoryState) → HasServed opening before → HasServed opening after

-- how much went through a device so far
abbrev pub device_moves : DeviceSide → ℕ
device_moves d = node_moves (d.answers ∷ []) (d.requests ∷ [])

-- What one turn of a device does, and answers.
pub record IsDeviceTurn (before : DeviceSide) (answer : Turn) (after : DeviceSide) : Type 0 where
  pub answered : IsAnswered (device_moves before) (device_moves after) (is_done (after.answers ∷ []) (after.requests ∷ []))
      (idle_causes (after.answers ∷ []) [] (after.requests ∷ [])) answer
  pub idle : answer ≢ Moved → IsIdleAt (λ ring. IsBlockedPort after.answers) (after.answers ∷ []) (after.requests ∷ [])
  pub few_more : HasFewMore before.requests after.requests
  -- the port had its turn, and the ring too where the port owed nothing
  pub port_served : IsPortServed before.answers after.answers
  pub ring_served : owes before.answers.state ≡ false → IsRingServed before.requests after.requests

-- nothing happened to a device
pub kept_device_same : (round : ℕ) (d : DeviceSide) → IsKeptDevice round d d
kept_device_same round d = record {
  number = refl;
  base = refl;
  size = refl;
  readonly = refl;
  requests = kept_ring_same d.requests;
  answers = kept_port_same d.answers;
  journalled = record {
    added = [];
    joined = append-nil d.journal.entries;
    rounds = All-nil (λ e. e.round ≡ round);
    devices = All-nil (λ e. e.device ≡ d.number);
  };
  steps = no_step;
  serves = λ opening h. h;
}

-- one thing after another happened to a device
pub kept_device_then : (round : ℕ) (x y z : DeviceSide) → IsKeptDevice round x y → IsKeptDevice round y z → IsKeptDevice round x z
kept_device_then round x y z a b = record {
  number = b.number ∙ a.number;
  base = b.base ∙ a.base;
  size = b.size ∙ a.size;
  readonly = b.readonly ∙ a.readonly;
  requests = kept_ring_then a.requests b.requests;
  answers = kept_port_then a.answers b.answers;
  journalled = record {
    added = a.journalled.added ++ b.journalled.added;
    joined = sym (append_assoc x.journal.entries a.journalled.added b.journalled.added)
        ∙ ap (λ list. list ++ b.journalled.added) a.journalled.joined ∙ b.journalled.joined;
    rounds = All-append (λ e. e.round ≡ round) a.journalled.added b.journalled.added a.journalled.rounds b.journalled.rounds;
    devices = All-append (λ e. e.device ≡ x.number) a.journalled.added b.journalled.added a.journalled.devices
        (subst (λ n. All (λ e. e.device ≡ n) b.journalled.added) a.number b.journalled.devices);
  };
  steps = steps_joined a.steps b.steps;
  serves = λ opening h. b.serves opening (a.serves opening h);
}
