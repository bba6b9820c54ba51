-- A journal says which packets the devices stepped. When is it one legal history of a network's scripts?
use Rattle.std.specs.Prelude.{ℕ, ◌≡◌, ◌≤◌, ◌<◌, Bool, true, false, ◌-◌, ◌++◌, ◌&&◌, ◌||◌, ◌==◌, nat_le, nat_lt, List, [], ◌∷◌, map, flat_map, filter, length, All, Contains, IsTrue, if◌then◌else◌}
use Rattle.std.specs.Option.{option_map_or}
use Rattle.sb_word.specs.declared.command.Op.{Op}
use Rattle.sb_word.specs.declared.command.Op.TheVariants.{ReqRd, ReqWr, ReqWrPosted, ReqAtomic, RespRd, RespWr}
use Rattle.sb_packet.specs.Spans.{span_of}
use Rattle.sb_packet.specs.Accesses.{Access, accesses_of}
use Rattle.sb_packet.specs.Networks.{NetHost, Network, device_at, width_to}
use Rattle.sb_packet.specs.Scripts.{script_accesses}
use Rattle.sb_packet.specs.declared.entry.Entry.{Entry}

-- what contracts see of a journal: the entries in order, and how many more it takes without memory
pub record Ledger : Type 0 where
  pub entries : List Entry
  pub spare : ℕ

-- a journal with one entry more, which takes a place that was reserved
abbrev pub with_entry : Ledger → Entry → Ledger
with_entry journal e = record { entries = journal.entries ++ e ∷ []; spare = journal.spare - 1 }

-- the words that a journal has at a device, in order
abbrev pub journal_accesses : List Entry → ℕ → List Access
journal_accesses journal d = flat_map (λ e. accesses_of e.packet) (filter (λ e. e.device == d) journal)

-- an opcode that asks, where the others answer
abbrev pub is_request : Op → Bool
is_request ReqRd = true
is_request ReqWr = true
is_request ReqWrPosted = true
is_request ReqAtomic = true
is_request RespRd = false
is_request RespWr = false

-- the address at the device, of where something goes and where it comes from: a request goes to it, and an answer comes from it
abbrev pub address_at_device : Op → ℕ → ℕ → ℕ
address_at_device op dst src = if is_request op then dst else src

-- the address at the device of an access
abbrev pub device_address : Access → ℕ
device_address a = address_at_device a.op a.dst a.src

-- an access is at that device
abbrev pub is_at : Network → ℕ → Access → Bool
is_at network d a = option_map_or (λ k. k == d) (device_at network (device_address a)) false

-- The accesses of one host at one device, in order.
abbrev pub flow_part : Network → NetHost → ℕ → List Access → List Access
flow_part network host d list = filter (λ a. (a.host == host.id) && is_at network d a) list

-- an entry doesn't stand before another: the round rises, or it stays and the device doesn't fall
abbrev pub may_follow : Entry → Entry → Bool
may_follow a b = nat_lt a.round b.round || ((a.round == b.round) && nat_le a.device b.device)

-- each entry may follow the one before it
abbrev pub is_in_round_order : List Entry → Bool
is_in_round_order (a ∷ b ∷ rest) = may_follow a b && is_in_round_order (b ∷ rest)
is_in_round_order _ = true

-- an entry is of a host, at a device that all its words aim at, and no wider than the link that leads there
pub record IsPlaced (network : Network) (e : Entry) : Type 0 where
  pub host : Contains (map (λ h. h.id) network.hosts) e.packet.cmd.host
  pub device : e.device < length network.devices
  pub aimed : All (λ a. IsTrue (is_at network e.device a)) (accesses_of e.packet)
  pub narrow : span_of e.packet.cmd ≤ width_to network e.device

-- A journal is one legal history: each host's words stand at each device once, in the order of its script, and nothing else does.
pub record IsLawful (network : Network) (journal : List Entry) : Type 0 where
  pub in_script_order : All (λ host. (d : ℕ) → flow_part network host d (journal_accesses journal d) ≡ flow_part network host d (script_accesses host)) network.hosts
  pub at_target : All (IsPlaced network) journal
  pub in_round_order : IsTrue (is_in_round_order journal)
