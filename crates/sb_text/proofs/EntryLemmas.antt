-- The lines of entries.
use Rattle.std.proofs.Common.{◌≡◌, ◌<◌, ℕ, Bool, true, false, cond, List, [], ◌∷◌, ◌++◌, ap, sym, ◌∙◌, refl, append_assoc, arith, get_or, length, map}
use Rattle.std.specs.Prelude.{All, Option, codes, decimal, filter, flat_map, if◌then◌else◌}
use Rattle.std.proofs.lemmas.List.{get_or-map, length-map}
use Rattle.std.proofs.lemmas.List.Elements.{All-head, All-tail}
use Rattle.sb_word.specs.Words.{word_of}
use Rattle.sb_packet.specs.Messages.{message_of}
use Rattle.sb_packet.specs.Networks.{NetDevice, device_side}
use Rattle.sb_packet.specs.declared.entry.Entry.{Entry}
use Rattle.sb_flow.specs.NetworkOf.{network_of}
use Rattle.sb_flow.specs.Rows.{device_of}
use Rattle.sb_flow.specs.declared.bundle.Bundle.{Bundle}
use Rattle.sb_flow.specs.declared.device_plan.DevicePlan.{DevicePlan}
use Rattle.sb_flow.proofs.Bundles.{device_there, few_devices}
use Rattle.sb_text.specs.TextLines.{body_text, hex_number, text_line}
use Rattle.sb_text.specs.Reports.{entry_front, entry_line, entry_middle, entry_part, is_printed, is_shown, packet_text}

-- seven words
in_seven : (a b c d e f g : List ℕ) → a ++ 32 ∷ (b ++ 32 ∷ []) ++ (c ++ (32 ∷ (d ++ 32 ∷ (e ++ 32 ∷ (f ++ 32 ∷ []))) ++ (g ++ 10 ∷ []))) ≡ text_line (a ∷ b ∷ c ∷ d ∷ e ∷ f ∷ g ∷ [])
in_seven a b c d e f g = simp append_assoc refl

-- the parts of an entry's line, with the name of the device that was read
pub entry_parts : (b : Bundle) (e : Entry) (row : DevicePlan) → e.device < length b.devices.items → row ≡ get_or b.devices.items e.device row → entry_front e.round ++ (row.name ++ packet_text e.packet) ≡ entry_line (network_of b) e
unfolding entry_front entry_middle
entry_parts b e row there at =
    let p = e.packet in
    let line : List ℕ → List ℕ = λ name. text_line (codes "e" ∷ decimal e.round ∷ name ∷ hex_number 8 (word_of p.cmd) ∷ hex_number 14 p.dst ∷ hex_number 14 p.src ∷ body_text (message_of p).bytes ∷ []) in
    let name : get_or (map (λ (x : NetDevice). x.name) (network_of b).devices) e.device [] ≡ row.name =
    get_or-map (λ (x : NetDevice). x.name) (network_of b).devices e.device (device_of row) [] (omega (arith, there, length-map b.devices.items device_of)) ∙ ap (λ (x : NetDevice). x.name) (device_there b e.device row (device_of row) there at) in
    in_seven (codes "e") (decimal e.round) row.name (hex_number 8 (word_of p.cmd)) (hex_number 14 p.dst) (hex_number 14 p.src) (body_text (message_of p).bytes) ∙ ap line (sym name)

-- the entries that are printed, by the table of the devices
shown_entries : (b : Bundle) (side : Option ℕ) (shown : List Bool) (es : List Entry) → ((d : ℕ) → d < 32 → get_or shown d false ≡ is_printed side (device_side (network_of b) d)) → All (λ e. e.device < length b.devices.items) es
    → filter (is_shown shown) es ≡ filter (λ e. is_printed side (device_side (network_of b) e.device)) es
shown_entries b side shown [] known placed = refl
shown_entries b side shown (e ∷ es) known placed =
    let there : e.device < length b.devices.items = All-head (λ (x : Entry). x.device < length b.devices.items) e es placed in
    let few : e.device < 32 = omega (arith, there, few_devices b, length-map b.devices.items device_of) in
    let rest = shown_entries b side shown es known (All-tail (λ (x : Entry). x.device < length b.devices.items) e es placed) in
    let test = λ (x : Entry). is_printed side (device_side (network_of b) x.device) in
    ap (λ (s : Bool). cond s (e ∷ filter (is_shown shown) es) (filter (is_shown shown) es)) (known e.device few)
    ∙ ap (λ (kept : List Entry). cond (test e) (e ∷ kept) kept) rest

-- the lines of those that are printed
filter_lines : (f : Entry → List ℕ) (p : Entry → Bool) (es : List Entry) → flat_map (λ e. if p e then f e else []) es ≡ flat_map f (filter p es)
filter_lines f p [] = refl
filter_lines f p (e ∷ es) = by (p e) (filter_lines f p es)
  where
    by : (b : Bool) → flat_map (λ x. if p x then f x else []) es ≡ flat_map f (filter p es) → (if b then f e else []) ++ flat_map (λ x. if p x then f x else []) es ≡ flat_map f (cond b (e ∷ filter p es) (filter p es))
    by true h = ap (λ (t : List ℕ). f e ++ t) h
    by false h = h

-- how many are printed, and their lines, by the table of the devices
pub shown_many : (b : Bundle) (side : Option ℕ) (shown : List Bool) (es : List Entry) → ((d : ℕ) → d < 32 → get_or shown d false ≡ is_printed side (device_side (network_of b) d)) → All (λ e. e.device < length b.devices.items) es
    → length (filter (is_shown shown) es) ≡ length (filter (λ e. is_printed side (device_side (network_of b) e.device)) es)
shown_many b side shown es known placed = ap length (shown_entries b side shown es known placed)

pub shown_lines : (b : Bundle) (side : Option ℕ) (shown : List Bool) (es : List Entry) → ((d : ℕ) → d < 32 → get_or shown d false ≡ is_printed side (device_side (network_of b) d)) → All (λ e. e.device < length b.devices.items) es
    → flat_map (entry_part (network_of b) shown) es ≡ flat_map (entry_line (network_of b)) (filter (λ e. is_printed side (device_side (network_of b) e.device)) es)
shown_lines b side shown es known placed = filter_lines (entry_line (network_of b)) (is_shown shown) es ∙ ap (flat_map (entry_line (network_of b))) (shown_entries b side shown es known placed)
