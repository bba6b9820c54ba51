-- The entries so far were read and followed.
use Rattle.std.proofs.Common.{◌≡◌, List, length}
use Rattle.sb_packet.specs.declared.entry.Entry.{Entry}
use Rattle.sb_flow.specs.NetworkOf.{network_of}
use Rattle.sb_check.specs.Histories.{AreEntriesOf}
use Rattle.sb_check.specs.Gathering.{IsFollowed}
use Rattle.sb_check.specs.ReportLines.{report_lines}
use Rattle.sb_check.proofs.history.read_entries.Given as goal

abbrev pub invariant-loop-index : goal.invariant-loop-index
invariant-loop-index l = (journal : List Entry) × (length journal ≡ l.index)
    × AreEntriesOf (network_of l.bundle) (report_lines l.fn.lines.rest.now) (report_lines l.lines.rest.now) journal
    × IsFollowed (network_of l.bundle) journal l.course
