-- Only the line of an entry spells it.
use Rattle.std.proofs.Common.{◌∙◌, ap, sym, arith}
use Rattle.std.proofs.lemmas.List.{length-map}
use Rattle.sb_packet.specs.declared.entry.Entry.{Entry}
use Rattle.sb_flow.specs.NetworkOf.{network_of}
use Rattle.sb_flow.specs.Rows.{device_of}
use Rattle.sb_text.specs.Reports.{entry_line}
use Rattle.sb_check.proofs.EntryLemmas.{option_same}
use Rattle.sb_check.proofs.entry_line.read_entry.Goals as goal

pub returns-then-not-is_line_of-clause-only : goal.returns-then-not-is_line_of-clause-only
returns-then-not-is_line_of-clause-only c = λ e s.
    let same = option_same _ _ (sym c.in_ok-entry.was ∙ c.entry_in.ensures.only e s) in
    absurd (c.if-not-is_line_of.ensures.no (s.text ∙ ap (λ (x : Entry). entry_line (network_of c.args.bundle.now) x) (sym same)))

pub returns-clause-spelled : goal.returns-clause-spelled
returns-clause-spelled c = record {
  range = record { round = c.fit_their_types.ensures.round; device = omega (arith, c.in_ok-entry.ensures.there, length-map c.args.bundle.now.devices.items device_of); bytes = c.fit_their_types.ensures.bytes };
  text = c.if-not-is_line_of.ensures.yes;
}
