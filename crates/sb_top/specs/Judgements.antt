-- What `check` reads, and what it says of it. This project's own.
use Rattle.std.specs.Prelude.{ℕ, ◌≡◌, ◌+◌, ◌||◌, Bool, List, take, drop, codes, bytes_eq, Option, Some, option_map, position, Ok, ◌⊎◌, [], ◌∷◌, decimal, None}
use Rattle.std.specs.List.{concat}
use Rattle.sb_packet.specs.Networks.{Network}
use Rattle.sb_topology.specs.Bundles.{bundle_of}
use Rattle.sb_check.specs.ReportLines.{report_lines}
use Rattle.sb_flow.specs.Accepted.{IsAccepted}
use Rattle.sb_text.specs.TextLines.{text_line}
use Rattle.sb_check.specs.Verdicts.{IsFault, IsLawfulReport}
use Rattle.sb_check.specs.declared.verdict.Reason.{Reason}
use Rattle.sb_top.specs.Refusals.{RefusedBundle, refusal_text}
use Rattle.sb_check.specs.declared.verdict.Reason.TheVariants as reasons

-- The input of `check`: the text of a bundle, the line `%report`, and a report. This project's own.

-- the line before a report; at the end of an input it may lack its line feed
abbrev pub is_divider : List ℕ → Bool
is_divider line = bytes_eq line (codes "%report\n") || bytes_eq line (codes "%report")

-- What stands before the first such line, and what stands behind it: the text of a bundle, and a report. None where there is no such line.
abbrev pub report_split : List ℕ → Option (List ℕ × List ℕ)
report_split input =
    let lines = report_lines input in
    option_map (λ k. (concat (take k lines), concat (drop (k + 1) lines))) (position is_divider lines)

-- An input has the text of a bundle, which spells that network, and that report.
pub record IsEvidence (input : List ℕ) (network : Network) (report : List ℕ) : Type 0 where
  pub bundle : List ℕ
  pub parts : report_split input ≡ Some (bundle, report)
  pub spelled : bundle_of bundle ≡ Ok network

-- why a report isn't that of a lawful run
abbrev pub reason_text : Reason → List ℕ
reason_text reasons.Form = codes "form"
reason_text reasons.Entry = codes "entry"
reason_text reasons.Short = codes "short"
reason_text reasons.Text = codes "text"

-- the line that says so: `no`, the number of the line that is wrong, counted from 1, and the reason
abbrev pub rejection_text : ℕ → Reason → List ℕ
rejection_text line reason = text_line (codes "no" ∷ decimal line ∷ reason_text reason ∷ [])

-- The report is that of a lawful run of the bundle's network, and the text says so.
pub record ApprovedReport (input text : List ℕ) : Type 0 where
  pub network : Network
  pub report : List ℕ
  pub evidence : IsEvidence input network report
  pub accepted : IsAccepted network
  pub lawful : IsLawfulReport network report
  pub printed : text ≡ codes "yes\n"

-- The report isn't that of a lawful run of the bundle's network: it goes wrong first in line k, counted from 0, and the text says so.
pub record RejectedReport (input text : List ℕ) : Type 0 where
  pub network : Network
  pub report : List ℕ
  pub evidence : IsEvidence input network report
  pub accepted : IsAccepted network
  pub unlawful : ¬ IsLawfulReport network report
  pub k : ℕ
  pub reason : Reason
  pub fault : IsFault network report reason k
  pub printed : text ≡ rejection_text (k + 1) reason

-- The input has no line before a report, and the text says so.
pub record LacksReport (input text : List ℕ) : Type 0 where
  pub none : report_split input ≡ None
  pub printed : text ≡ refusal_text (codes "noreport" ∷ [])

-- What stands before that line is no bundle that is accepted, and the text names its first fault.
pub record HasRefusedBundle (input text : List ℕ) : Type 0 where
  pub bundle : List ℕ
  pub report : List ℕ
  pub parts : report_split input ≡ Some (bundle, report)
  pub refused : RefusedBundle bundle text

-- The input is no bundle that is accepted with a report, and the text names its first fault.
abbrev pub RefusedReport : List ℕ → List ℕ → Type 0
RefusedReport input text = LacksReport input text ⊎ HasRefusedBundle input text

-- The input has a bundle without a fault, and a report.
abbrev pub HasReport : List ℕ → Type 0
HasReport input = (network : Network) × (report : List ℕ) × IsEvidence input network report
