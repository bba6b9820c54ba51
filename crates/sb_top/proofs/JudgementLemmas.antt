-- What a verdict says of a report.
use Rattle.std.proofs.Common.{◌≡◌, ◌∙◌, ◌+◌, ◌⊎◌, ℕ, List, inl, inr, sym, ap, arith}
use Rattle.sb_packet.specs.Networks.{Network}
use Rattle.sb_flow.specs.Accepted.{IsAccepted}
use Rattle.sb_check.specs.Verdicts.{IsFault, IsLawfulReport}
use Rattle.sb_check.specs.declared.verdict.Reason.{Reason}
use Rattle.sb_check.specs.declared.verdict.Verdict.{Verdict}
use Rattle.sb_check.specs.declared.verdict.Verdict.TheVariants as verdicts
use Rattle.sb_top.specs.Judgements.{IsEvidence, RejectedReport, rejection_text}

-- verdicts, told apart by a number
abbrev place_of : Verdict → ℕ
place_of verdicts.Yes = 0
place_of (verdicts.No line reason) = 1
place_of verdicts.Memory = 2

-- a report that is found wrong isn't found lawful, and memory isn't missing
is_other : (verdict : Verdict) (line : ℕ) (reason : Reason) → verdict ≡ verdicts.No line reason → (verdict ≡ verdicts.Yes) ⊎ (verdict ≡ verdicts.Memory) → ⊥
is_other verdict line reason wrong (inl approved) =
    let same : 0 ≡ 1 = ap place_of (sym approved ∙ wrong) in omega (arith, same)
is_other verdict line reason wrong (inr memory) =
    let same : 2 ≡ 1 = ap place_of (sym memory ∙ wrong) in omega (arith, same)

-- what is said of a report that is found wrong
pub rejected : {input report : List ℕ} {network : Network} (verdict : Verdict) (line : ℕ) (reason : Reason)
    → IsEvidence input network report → IsAccepted network
    → (IsLawfulReport network report → (verdict ≡ verdicts.Yes) ⊎ (verdict ≡ verdicts.Memory))
    → verdict ≡ verdicts.No line reason → ((k : ℕ) × (line ≡ k + 1) × IsFault network report reason k)
    → RejectedReport input (rejection_text line reason)
rejected {input} {report} {network} verdict line reason evidence accepted only wrong fault = record {
  network = network;
  report = report;
  evidence = evidence;
  accepted = accepted;
  unlawful = λ lawful. is_other verdict line reason wrong (only lawful);
  k = fault.0;
  reason = reason;
  fault = fault.2;
  printed = ap (λ (n : ℕ). rejection_text n reason) fault.1;
}
