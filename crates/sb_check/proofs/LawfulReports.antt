-- No lawful report has a fault.
use Rattle.std.proofs.Common.{◌≡◌, ◌<◌, ◌+◌, ◌^◌, ℕ, List, length, take, true, ap, subst, ◌∙◌, None}
use Rattle.std.specs.Prelude.{slice_get}
use Rattle.sb_packet.specs.Journals.{IsLawful}
use Rattle.sb_packet.specs.declared.entry.Entry.{Entry}
use Rattle.sb_flow.specs.NetworkOf.{network_of}
use Rattle.sb_flow.specs.declared.bundle.Bundle.{Bundle}
use Rattle.sb_text.specs.Reports.{run_report}
use Rattle.sb_check.specs.Beginnings.{IsLawfulSoFar}
use Rattle.sb_check.specs.ReportLines.{report_lines}
use Rattle.sb_check.specs.Verdicts.{IsFault, IsLawfulReport}
use Rattle.sb_check.specs.declared.verdict.Reason.{Reason}
use Rattle.sb_check.specs.declared.verdict.Reason.TheVariants.{Form, Entry as EntryReason, Short, Text}
use Rattle.sb_check.proofs.HistoryLemmas.{AreNamed, form_not_lawful, lawful_spelled}
use Rattle.sb_check.proofs.OneJournal.{AreExact, journal_once}
use Rattle.sb_check.proofs.ReadingLemmas.{lawful_front}

pub fault_not_lawful : AreExact → (b : Bundle) → AreNamed (network_of b) → (report : List ℕ) (reason : Reason) (k : ℕ) → length report < 2 ^ 32 → IsFault (network_of b) report reason k → ¬ IsLawfulReport (network_of b) report
fault_not_lawful exact b named report Form k short fault l = form_not_lawful (network_of b) report k named short fault l
fault_not_lawful exact b named report EntryReason k short fault l =
    let same : l.journal ≡ fault.journal = journal_once exact b report l.journal fault.journal (lawful_spelled (network_of b) report named short l) fault.spelled in
    fault.here (subst (λ (j : List Entry). IsLawfulSoFar (network_of b) (take (fault.place + 1) j)) same (lawful_front (network_of b) l.journal (fault.place + 1) l.lawful))
fault_not_lawful exact b named report Short k short fault l =
    let same : l.journal ≡ fault.journal = journal_once exact b report l.journal fault.journal (lawful_spelled (network_of b) report named short l) fault.spelled in
    fault.short (subst (λ (j : List Entry). IsLawful (network_of b) j) same l.lawful)
fault_not_lawful exact b named report Text k short fault l =
    let same : l.journal ≡ fault.journal = journal_once exact b report l.journal fault.journal (lawful_spelled (network_of b) report named short l) fault.spelled in
    fault.differs.here (ap (λ (t : List ℕ). slice_get (report_lines t) k) (l.text ∙ ap (λ (j : List Entry). run_report (network_of b) j true None) same))
