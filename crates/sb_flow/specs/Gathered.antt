-- What the tables of hosts say of one link, and what the code holds of it.
use Rattle.std.specs.Prelude.{map, ℕ, ◌+◌, ◌*◌, Bool, false, ◌==◌, List, [], ◌∷◌, sum_by, slice_get, slice_index_or, if◌then◌else◌, true}
use Rattle.std.specs.List.{find, range_with_len}
use Rattle.std.specs.Option.{option_map_or}
use Rattle.sb_link.specs.Plans.{bits_of}
use Rattle.sb_flow.specs.Tables.{FlowTable, HostTable, LinkTable}
use Rattle.sb_flow.specs.declared.load.Load.{Load}
use Rattle.sb_flow.specs.declared.leg.Leg.{Leg}

-- What the code holds of a link, as its table.

-- what goes over a link
abbrev pub load_of : Load → LinkTable
load_of l = record { requests = l.requests; answers = l.answers; through = map bits_of l.through }

-- link k is on a way
abbrev pub is_on : ℕ → FlowTable → Bool
is_on k flow = slice_index_or flow.on k false

-- the words of a way that count where requests go, and where answers go
abbrev pub counted_words : Bool → FlowTable → ℕ
counted_words up flow = if up then flow.answered else flow.words

-- those that go over link k
abbrev pub words_on : ℕ → Bool → FlowTable → ℕ
words_on k up flow = if is_on k flow then counted_words up flow else 0

-- the words over link k, from one host and from all
abbrev pub host_words_on : ℕ → Bool → List FlowTable → ℕ
host_words_on k up flows = sum_by (words_on k up) flows

abbrev pub all_words_on : ℕ → Bool → List HostTable → ℕ
all_words_on k up hosts = sum_by (λ h. host_words_on k up h.flows) hosts

-- for each device whether the way to it has link k, as the binary digits of a number, the lowest first
abbrev pub mask_of : ℕ → List FlowTable → ℕ
mask_of k [] = 0
mask_of k (f ∷ flows) = (if is_on k f then 1 else 0) + 2 * mask_of k flows

-- the way to device d, if there is such a device, has link k
abbrev pub is_device_on : ℕ → List FlowTable → ℕ → Bool
is_device_on k flows d = option_map_or (is_on k) (slice_get flows d) false

-- the same for each of 32 devices
abbrev pub devices_on : ℕ → List FlowTable → List Bool
devices_on k flows = map (is_device_on k flows) (range_with_len 0 32)

-- the ways from the host with an id; none where no host has it
abbrev pub flows_from : List HostTable → ℕ → List FlowTable
flows_from hosts id = option_map_or (λ h. h.flows) (find (λ h. h.id == id) hosts) []

-- the links of the way from the host with an id to device d; none where there is no such host or device
abbrev pub legs_at : List HostTable → ℕ → ℕ → List Leg
legs_at hosts id d = option_map_or (λ f. f.legs) (slice_get (flows_from hosts id) d) []

-- what goes over link k
abbrev pub gathered : ℕ → List HostTable → LinkTable
gathered k hosts = record {
  requests = all_words_on k false hosts;
  answers = all_words_on k true hosts;
  through = map (λ id. devices_on k (flows_from hosts id)) (range_with_len 0 32);
}
