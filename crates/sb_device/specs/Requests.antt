-- How a device serves requests, one after another.
use Rattle.std.specs.Prelude.{◌≡◌, ◌⊎◌, ℕ, [], ◌∷◌, ◌++◌}
use Rattle.sb_word.specs.declared.command.Op.TheVariants.{ReqWrPosted}
use Rattle.sb_packet.specs.Accesses.{accesses_of}
use Rattle.sb_packet.specs.Memories.{MemoryState, memory_after, answers_to}
use Rattle.sb_packet.specs.declared.packet.Packet.{Packet}
use Rattle.sb_packet.specs.declared.item.Item.TheVariants as items
use Rattle.sb_mem.specs.AnswerPackets.{IsAnswerTo}
use Rattle.sb_port.specs.Ports.{PortSide, offered_words}
use Rattle.sb_node.specs.Steps.{IsHandedOn}
use Rattle.sb_device.specs.Sides.{DeviceSide}
use Rattle.sb_device.specs.Served.{item_packets}

-- nothing answers a posted write, and nothing happened to the port
pub record IsUnanswered (m : MemoryState) (before after : PortSide) (request : Packet) : Type 0 where
  pub posted : request.cmd.op ≡ ReqWrPosted
  pub none : answers_to m (accesses_of request) ≡ []
  pub same : after ≡ before

-- a packet answers a request, and was handed on: offered where it passes, and dropped elsewhere
pub record IsReplied (m : MemoryState) (before after : PortSide) (request : Packet) : Type 0 where
  pub answer : Packet
  pub answers : answers_to m (accesses_of request) ≡ accesses_of answer
  pub fields : IsAnswerTo request answer
  pub handed : IsHandedOn before after answer

-- A request was answered by a memory.
abbrev pub IsServedBy : MemoryState → PortSide → PortSide → Packet → Type 0
IsServedBy m before after request = IsUnanswered m before after request ⊎ IsReplied m before after request

-- A request came in and was served: it was journalled, the memory was stepped by its words, and it was answered by the memory before.
pub record ServesRequest (round : ℕ) (before after : DeviceSide) : Type 0 where
  pub request : Packet
  pub came : after.requests.received ≡ before.requests.received ++ items.Packet request ∷ []
  pub entered : after.journal.entries ≡ before.journal.entries ++ record { round = round; device = before.number; packet = request } ∷ []
  pub stepped : after.memory ≡ memory_after before.memory (accesses_of request)
  pub answered : IsServedBy before.memory before.answers after.answers request
  pub number : after.number ≡ before.number
  pub plan : after.answers.plan ≡ before.answers.plan

-- No request came in, and nothing was offered.
pub record ServesNone (before after : DeviceSide) : Type 0 where
  pub came : item_packets after.requests.received ≡ item_packets before.requests.received
  pub entered : after.journal.entries ≡ before.journal.entries
  pub memory : after.memory ≡ before.memory
  pub offered : offered_words after.answers ≡ offered_words before.answers
  pub number : after.number ≡ before.number
  pub plan : after.answers.plan ≡ before.answers.plan

-- One step of a device: it serves a request, or does something else.
pub data DeviceStep (round : ℕ) (before after : DeviceSide) : Type 0 where
  serves : ServesRequest round before after → DeviceStep round before after
  serves_none : ServesNone before after → DeviceStep round before after

-- One step after another.
pub data DeviceSteps (round : ℕ) : DeviceSide → DeviceSide → Type 0 where
  no_step : {x : DeviceSide} → DeviceSteps round x x
  then_step : {x y z : DeviceSide} → DeviceSteps round x y → DeviceStep round y z → DeviceSteps round x z

-- steps of a device, and then others
pub steps_joined : {round : ℕ} {x y z : DeviceSide} → DeviceSteps round x y → DeviceSteps round y z → DeviceSteps round x z
steps_joined before no_step = before
steps_joined before (then_step more step) = then_step (steps_joined before more) step
