-- The line that is printed for an entry is read as that entry.
use Rattle.std.proofs.Common.{◌≡◌, ◌∙◌, ◌∷◌, ◌++◌, sym, refl}
use Rattle.sb_flow.specs.NetworkOf.{network_of}
use Rattle.sb_check.specs.Spelling.{packet_words}
use Rattle.sb_check.proofs.EntryLemmas.{device_name_at, entry_words, not_both, one_number, option_same}
use Rattle.sb_check.proofs.entry_line.entry_in.Goals as goal

pub returns-in_err-round-clause-only : goal.returns-in_err-round-clause-only
returns-in_err-round-clause-only c = λ e s.
    let network = network_of c.args.bundle.now in
    let round = c.round.ensures.only e.round (device_name_at network e.device ++ 32 ∷ packet_words e.packet) s.range.round (s.text ∙ entry_words network e) in
    absurd (not_both c.round.result _ c.in_err-round.was round.0)

pub returns-in_err-packet-clause-only : goal.returns-in_err-packet-clause-only
returns-in_err-packet-clause-only c = λ e s.
    let network = network_of c.args.bundle.now in
    let round = c.round.ensures.only e.round (device_name_at network e.device ++ 32 ∷ packet_words e.packet) s.range.round (s.text ∙ entry_words network e) in
    let packet = c.packet_in.ensures.only e.packet (device_name_at network e.device) s.range.bytes round.1 in
    absurd (not_both c.packet_in.result _ c.in_err-packet.was packet.0)

pub returns-in_err-device-clause-only : goal.returns-in_err-device-clause-only
returns-in_err-device-clause-only c = λ e s.
    let network = network_of c.args.bundle.now in
    let round = c.round.ensures.only e.round (device_name_at network e.device ++ 32 ∷ packet_words e.packet) s.range.round (s.text ∙ entry_words network e) in
    let packet = c.packet_in.ensures.only e.packet (device_name_at network e.device) s.range.bytes round.1 in
    let device = c.device_named.ensures.only e.device s.range.device (sym packet.1) in
    absurd (not_both c.device_named.result _ c.in_err-device.was device)

pub returns-clause-only : goal.returns-clause-only
returns-clause-only c = λ e s.
    let network = network_of c.args.bundle.now in
    let round = c.round.ensures.only e.round (device_name_at network e.device ++ 32 ∷ packet_words e.packet) s.range.round (s.text ∙ entry_words network e) in
    let packet = c.packet_in.ensures.only e.packet (device_name_at network e.device) s.range.bytes round.1 in
    let device = c.device_named.ensures.only e.device s.range.device (sym packet.1) in
    let a : c.in_ok-round.round ≡ e.round = one_number c.round.result _ _ c.in_ok-round.was round.0 in
    let b : c.in_ok-packet.packet ≡ e.packet = option_same _ _ (sym c.in_ok-packet.was ∙ packet.0) in
    let d : c.in_ok-device.device ≡ e.device = one_number c.device_named.result _ _ c.in_ok-device.was device in
    rw (a, b, d) refl
