-- The text of a run, and the parts of it. This project's own.
use Rattle.std.specs.Prelude.{ℕ, zero, suc, ◌*◌, ◌/◌, ◌==◌, Bool, true, false, List, [], ◌∷◌, ◌++◌, map, filter, flat_map, take, drop, length, codes, decimal, Option, Some, None, if◌then◌else◌, slice_index_or}
use Rattle.std.specs.List.{enumerate_from, list_all}
use Rattle.hex.specs.Hex.{encode_lower}
use Rattle.sb_word.specs.Words.{word_of}
use Rattle.sb_packet.specs.Messages.{message_of}
use Rattle.sb_packet.specs.Networks.{NetDevice, NetHost, Network, device_side, host_side}
use Rattle.sb_text.specs.TextLines.{body_text, hex_number, text_line}
use Rattle.sb_packet.specs.Answers.{Outcome, RunResults, run_results}
use Rattle.sb_packet.specs.declared.entry.Entry.{Entry}
use Rattle.sb_packet.specs.declared.transaction.Code.{Code}
use Rattle.sb_packet.specs.declared.transaction.TxnState.{TxnState}
use Rattle.sb_packet.specs.declared.transaction.TxnState.TheVariants.{Answered, Posted, Waiting}
use Rattle.sb_text.specs.Told.{told_image, told_outcomes}
use Rattle.sb_packet.specs.declared.packet.Packet.{Packet}
use Rattle.sb_packet.specs.declared.transaction.Code.TheVariants as the_codes

-- the word for a code
abbrev pub code_text : Code → List ℕ
code_text the_codes.Ok = codes "ok"
code_text the_codes.ExOk = codes "exok"
code_text the_codes.DevErr = codes "deverr"
code_text the_codes.NetErr = codes "neterr"

-- a transaction that waits is never printed
abbrev pub state_text : TxnState → List ℕ
state_text Waiting = codes "waiting"
state_text Posted = codes "posted"
state_text (Answered code) = code_text code

-- the line of transaction i
abbrev pub outcome_line : ℕ → Outcome → List ℕ
outcome_line i o = text_line (codes "t" ∷ decimal i ∷ state_text o.state ∷ body_text o.body ∷ [])

-- the lines of transactions, in order
abbrev pub outcome_lines : List Outcome → List ℕ
outcome_lines outcomes = flat_map (λ p. outcome_line p.0 p.1) (enumerate_from 0 outcomes)

-- a host, and its transactions
abbrev pub host_lines : NetHost → List Outcome → List ℕ
host_lines host outcomes =
    text_line (codes "host" ∷ host.name ∷ decimal (length outcomes) ∷ []) ++ outcome_lines outcomes

-- the first so many rows of 32 bytes
abbrev pub image_rows : ℕ → List ℕ → List (List ℕ)
image_rows zero bytes = []
image_rows (suc n) bytes = take 32 bytes ∷ image_rows n (drop 32 bytes)

-- row k, by its offset in five digits; a row of zeros is left out
abbrev pub row_line : ℕ → List ℕ → List ℕ
row_line k row = if list_all (λ b. b == 0) row then [] else text_line (codes "m" ∷ hex_number 5 (k * 32) ∷ encode_lower row ∷ [])

-- the lines of a memory's rows, in order
abbrev pub image_lines : List ℕ → List ℕ
image_lines bytes = flat_map (λ p. row_line p.0 p.1) (enumerate_from 0 (image_rows (length bytes / 32) bytes))

-- a device, and the rows of its memory
abbrev pub device_lines : NetDevice → List ℕ → List ℕ
device_lines d bytes = text_line (codes "device" ∷ d.name ∷ decimal d.pages ∷ []) ++ image_lines bytes

-- an entry: its round, its device's name, its command word, both addresses, and the bytes that it carries
abbrev pub entry_line : Network → Entry → List ℕ
entry_line network e = text_line (
    codes "e" ∷ decimal e.round ∷ device_name (network.devices) e.device ∷ hex_number 8 (word_of e.packet.cmd)
    ∷ hex_number 14 e.packet.dst ∷ hex_number 14 e.packet.src ∷ body_text (message_of e.packet).bytes ∷ [])
  where
    device_name : List NetDevice → ℕ → List ℕ
    device_name devices d = slice_index_or (map (λ x. x.name) devices) d []

-- the side that is printed is that one; without a side all is
abbrev pub is_printed : Option ℕ → ℕ → Bool
is_printed None k = true
is_printed (Some side) k = k == side

-- the first line: the format's version, and the side where only one is printed
abbrev pub first_line : Option ℕ → List ℕ
first_line None = text_line (codes "sb" ∷ codes "1" ∷ [])
first_line (Some side) = text_line (codes "sb" ∷ codes "1" ∷ codes "side" ∷ decimal side ∷ [])

-- the history where it is asked for: how many entries are printed, and a line for each
abbrev pub history_lines : Network → List Entry → Option ℕ → Bool → List ℕ
history_lines network journal side false = []
history_lines network journal side true =
    let shown = filter (λ e. is_printed side (device_side network e.device)) journal in
    text_line (codes "history" ∷ decimal (length shown) ∷ []) ++ flat_map (entry_line network) shown

-- The text of a run with these results: its history where it is asked for, its hosts, and its devices.
abbrev pub report_text : Network → RunResults → List Entry → Bool → Option ℕ → List ℕ
report_text network results journal history side =
    first_line side
    ++ history_lines network journal side history
    ++ flat_map (λ p. if is_printed side (host_side network p.0) then host_lines p.1 (slice_index_or results.outcomes p.0 []) else []) (enumerate_from 0 network.hosts)
    ++ flat_map (λ p. if is_printed side (device_side network p.0) then device_lines p.1 (slice_index_or results.images p.0 []) else []) (enumerate_from 0 network.devices)
    ++ text_line (codes "end" ∷ [])

-- The text of a journal: what it answers to each transaction, and what it leaves in each memory.
abbrev pub run_report : Network → List Entry → Bool → Option ℕ → List ℕ
run_report network journal history side = report_text network (run_results network journal) journal history side

-- The parts of a report's lines, and of the report.

-- a transaction's line up to its body
unfoldable pub state_front : ℕ → TxnState → List ℕ
state_front i state = codes "t" ++ 32 ∷ (decimal i ++ 32 ∷ (state_text state ++ 32 ∷ []))

-- an entry's line up to its device's name
unfoldable pub entry_front : ℕ → List ℕ
entry_front round = codes "e" ++ 32 ∷ (decimal round ++ 32 ∷ [])

-- what stands between that name and the body
unfoldable pub entry_middle : ℕ → ℕ → ℕ → List ℕ
entry_middle word dst src = 32 ∷ (hex_number 8 word ++ 32 ∷ (hex_number 14 dst ++ 32 ∷ (hex_number 14 src ++ 32 ∷ [])))

-- what stands behind that name
abbrev pub packet_text : Packet → List ℕ
packet_text p = entry_middle (word_of p.cmd) p.dst p.src ++ (body_text (message_of p).bytes ++ 10 ∷ [])

-- an entry is of a device that is printed, by a table of the devices
abbrev pub is_shown : List Bool → Entry → Bool
is_shown shown e = slice_index_or shown e.device false

-- the line of an entry that is printed
abbrev pub entry_part : Network → List Bool → Entry → List ℕ
entry_part network shown e = if is_shown shown e then entry_line network e else []

-- the lines of the host at a place, where it is printed
abbrev pub host_part : Network → RunResults → Option ℕ → ℕ → NetHost → List ℕ
host_part network told side h host = if is_printed side (host_side network h) then host_lines host (told_outcomes told h) else []

-- those of the device at a place
abbrev pub device_part : Network → RunResults → Option ℕ → ℕ → NetDevice → List ℕ
device_part network told side d device = if is_printed side (device_side network d) then device_lines device (told_image told d) else []

-- the lines of all hosts
abbrev pub hosts_text : Network → RunResults → Option ℕ → List ℕ
hosts_text network told side = flat_map (λ p. host_part network told side p.0 p.1) (enumerate_from 0 network.hosts)

-- the lines of all devices
abbrev pub devices_text : Network → RunResults → Option ℕ → List ℕ
devices_text network told side = flat_map (λ p. device_part network told side p.0 p.1) (enumerate_from 0 network.devices)
