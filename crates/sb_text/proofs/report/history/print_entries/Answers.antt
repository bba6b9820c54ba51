-- One entry more adds its line; where the sink fails, a first part of all lines was written.
use Rattle.std.proofs.Common.{◌≤◌, ◌<◌, ℕ, List, ap, length, arith}
use Rattle.std.specs.Prelude.{Bool}
use Rattle.sb_packet.specs.Networks.{Network}
use Rattle.sb_packet.specs.declared.entry.Entry.{Entry}
use Rattle.sb_flow.specs.NetworkOf.{network_of}
use Rattle.sb_text.specs.Reports.{entry_part}
use Rattle.sb_text.proofs.PrintLemmas.{printed_as}
use Rattle.sb_text.proofs.IndexedLemmas.{indexed_plain, lines_all, lines_failed, lines_more}
use Rattle.sb_text.proofs.report.history.print_entries.Goals as goal

abbrev line_at : Network → List Bool → ℕ → Entry → List ℕ
line_at network shown k e = entry_part network shown e

pub returns-in_err-print_entry_part : goal.returns-in_err-print_entry_part
returns-in_err-print_entry_part g c =
    let network = network_of c.args.bundle.now in
    let shown = c.args.shown.now in
    let entries = c.args.entries.now in
    let i = c.loop-index.index in
    let e = c.index-entries-index.result in
    let below : i < length entries = omega arith in
    record {
      printed = printed_as g.K.Sink c.from_residual.result _ _ _ _ _ _ (indexed_plain (entry_part network shown) 0 entries)
          (lines_failed (line_at network shown) g.K.Sink tt c.in_err-print_entry_part.field-0.0 c.from_residual.result _ _ _ _ _ _ _ entries i e c.from_residual.ensures.0 below
          (ap (entry_part network shown) c.index-entries-index.is) c.loop-index.invariant c.in_err-print_entry_part.ensures.printed);
    }

pub loop-index-preserved : goal.loop-index-preserved
loop-index-preserved g c =
    let network = network_of c.args.bundle.now in
    let shown = c.args.shown.now in
    let entries = c.args.entries.now in
    let i = c.loop-index.index in
    let e = c.index-entries-index.result in
    let below : i < length entries = omega arith in
    lines_more (line_at network shown) g.K.Sink tt tt tt _ _ _ _ _ _ _ entries i e below (ap (entry_part network shown) c.index-entries-index.is) c.loop-index.invariant c.in_ok-print_entry_part.ensures.printed

pub returns : goal.returns
returns g c =
    let network = network_of c.args.bundle.now in
    let shown = c.args.shown.now in
    let entries = c.args.entries.now in
    let all : length entries ≤ c.loop-index.index = omega arith in
    record {
      printed = printed_as g.K.Sink _ _ _ _ _ _ _ (indexed_plain (entry_part network shown) 0 entries)
          (lines_all (line_at network shown) g.K.Sink tt tt _ _ _ _ entries c.loop-index.index all c.loop-index.invariant);
    }
