pub mod StatusLemmas
pub mod InputLemmas
pub mod ReadLemmas
pub mod EvidenceLemmas
pub mod EvidenceExamples
pub mod JudgementLemmas
