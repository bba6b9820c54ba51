-- What may be said of a report.
use Rattle.std.specs.Prelude.{ℕ, ◌≡◌, ◌<◌, ◌+◌, List, All, length, take, true, None}
use Rattle.sb_packet.specs.Journals.{IsLawful}
use Rattle.sb_packet.specs.Networks.{Network}
use Rattle.sb_text.specs.Reports.{run_report}
use Rattle.sb_check.specs.Beginnings.{IsLawfulSoFar}
use Rattle.sb_check.specs.Histories.{IsFormFault, SpellsJournal}
use Rattle.sb_check.specs.ReportLines.{IsFirstDifference}
use Rattle.sb_check.specs.Spelling.{IsEntryInRange}
use Rattle.sb_check.specs.declared.verdict.Reason.{Reason}
use Rattle.sb_packet.specs.declared.entry.Entry.{Entry}
use Rattle.sb_check.specs.declared.fault.Fault.{Fault}
use Rattle.sb_check.specs.declared.verdict.Reason.TheVariants as reasons

-- A report is that of a lawful run: the text, with history, of a lawful journal.
pub record IsLawfulReport (network : Network) (report : List ℕ) : Type 0 where
  pub journal : List Entry
  pub ranges : All (IsEntryInRange network) journal
  pub lawful : IsLawful network journal
  pub text : report ≡ run_report network journal true None

-- Line k has the first entry that isn't the next of its host at its device, isn't at its target, is too wide, or goes back.
pub record IsEntryFault (network : Network) (report : List ℕ) (k : ℕ) : Type 0 where
  pub journal : List Entry
  pub spelled : SpellsJournal network report journal
  pub place : ℕ
  pub line : k ≡ 2 + place
  pub there : place < length journal
  pub before : IsLawfulSoFar network (take place journal)
  pub here : ¬ IsLawfulSoFar network (take (place + 1) journal)

-- The entries are lawful as far as they go, and words of scripts are missing behind the last of them, whose line is line k; line k is the second where there is no entry.
pub record IsShort (network : Network) (report : List ℕ) (k : ℕ) : Type 0 where
  pub journal : List Entry
  pub spelled : SpellsJournal network report journal
  pub line : k ≡ 1 + length journal
  pub lawful : IsLawfulSoFar network journal
  pub short : ¬ IsLawful network journal

-- The entries are a lawful journal, and line k is the first that differs from its text.
pub record IsTextFault (network : Network) (report : List ℕ) (k : ℕ) : Type 0 where
  pub journal : List Entry
  pub spelled : SpellsJournal network report journal
  pub lawful : IsLawful network journal
  pub differs : IsFirstDifference report (run_report network journal true None) k

-- where a report goes wrong first, at line k counted from 0
abbrev pub IsFault : Network → List ℕ → Reason → ℕ → Type 0
IsFault network report reasons.Form k = IsFormFault network report k
IsFault network report reasons.Entry k = IsEntryFault network report k
IsFault network report reasons.Short k = IsShort network report k
IsFault network report reasons.Text k = IsTextFault network report k

-- A fault that is found in a report.

-- A report goes wrong first there, and it isn't lawful.
pub record IsFaulty (network : Network) (report : List ℕ) (found : Fault) : Type 0 where
  pub fault : IsFault network report found.reason found.line
  pub unlawful : ¬ IsLawfulReport network report
