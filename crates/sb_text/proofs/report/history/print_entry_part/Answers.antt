-- The entry's line, since its device is printed.
use Rattle.std.proofs.Common.{◌∙◌, ◌++◌, ℕ, Bool, List, [], ap, sym}
use Rattle.std.specs.Prelude.{if◌then◌else◌}
use Rattle.sb_flow.specs.NetworkOf.{network_of}
use Rattle.sb_text.specs.Reports.{entry_front, entry_line, packet_text}
use Rattle.sb_text.proofs.EntryLemmas.{entry_parts}
use Rattle.sb_text.proofs.PrintLemmas.{printed_as}
use Rattle.sb_text.proofs.ToldLemmas.{read_at}
use Rattle.sb_text.proofs.report.history.print_entry_part.Goals as goal

pub returns : goal.returns
returns g c =
    let b = c.args.bundle.now in
    let e = c.args.entry.now in
    let row = c.index-device.result.now in
    let at = read_at b.devices.items c.from.result e.device row c.index-device.ensures c.from.ensures in
    let named = ap (λ (name : List ℕ). entry_front e.round ++ (name ++ packet_text e.packet)) c.as_slice.ensures.text in
    let shown = ap (λ (s : Bool). if s then entry_line (network_of b) e else []) (sym c.if-not-is_shown.false ∙ c.is_shown.ensures) in
    record { printed = printed_as g.K.Sink c.print_entry.result _ _ _ _ _ _ (named ∙ entry_parts b e row c.requires at ∙ shown) c.print_entry.ensures.printed }
