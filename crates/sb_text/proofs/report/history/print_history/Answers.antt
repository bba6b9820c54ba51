-- How many entries are printed, and their lines.
use Rattle.std.proofs.Common.{◌≡◌, ◌∙◌, [], ◌∷◌, ℕ, List, Err, Ok, ap, length}
use Rattle.std.specs.Prelude.{codes, decimal, filter, flat_map}
use Rattle.sb_packet.specs.Networks.{device_side}
use Rattle.sb_packet.specs.declared.entry.Entry.{Entry}
use Rattle.sb_flow.specs.NetworkOf.{network_of}
use Rattle.sb_text.specs.Reports.{entry_line, is_printed}
use Rattle.sb_text.specs.TextLines.{text_line}
use Rattle.sb_text.proofs.EntryLemmas.{shown_lines, shown_many}
use Rattle.sb_text.proofs.PrintLemmas.{printed_as, printed_before, printed_then}
use Rattle.sb_text.proofs.report.history.print_history.Goals as goal

abbrev heading : ℕ → List ℕ
heading count = text_line (codes "history" ∷ decimal count ∷ [])

pub returns-in_err-print_words : goal.returns-in_err-print_words
returns-in_err-print_words g c =
    let b = c.args.bundle.now in
    let entries = c.args.entries.now in
    let kept = filter (λ (e : Entry). is_printed c.args.side (device_side (network_of b) e.device)) entries in
    let same : heading c.shown_count-count.result ≡ heading (length kept) = ap heading (c.shown_count-count.ensures ∙ shown_many b c.args.side c.shown_devices-shown.result entries c.shown_devices-shown.ensures c.requires.placed) in
    record {
      printed = printed_before g.K.Sink c.from_residual.result c.in_err-print_words.field-0.0 _ _ _ _ (heading (length kept)) (flat_map (entry_line (network_of b)) kept) c.from_residual.ensures.0
          (printed_as g.K.Sink (Err c.in_err-print_words.field-0.0) _ _ _ _ _ _ same c.in_err-print_words.ensures.printed);
    }

pub returns : goal.returns
returns g c =
    let b = c.args.bundle.now in
    let entries = c.args.entries.now in
    let kept = filter (λ (e : Entry). is_printed c.args.side (device_side (network_of b) e.device)) entries in
    let same : heading c.shown_count-count.result ≡ heading (length kept) = ap heading (c.shown_count-count.ensures ∙ shown_many b c.args.side c.shown_devices-shown.result entries c.shown_devices-shown.ensures c.requires.placed) in
    let first = printed_as g.K.Sink (Ok c.in_ok-print_words.field-0) _ _ _ _ _ _ same c.in_ok-print_words.ensures.printed in
    let lines = printed_as g.K.Sink c.print_entries.result _ _ _ _ _ _ (shown_lines b c.args.side c.shown_devices-shown.result entries c.shown_devices-shown.ensures c.requires.placed) c.print_entries.ensures.printed in
    record { printed = printed_then g.K.Sink c.print_entries.result _ _ _ _ _ _ (heading (length kept)) (flat_map (entry_line (network_of b)) kept) first.done first.clean lines }
