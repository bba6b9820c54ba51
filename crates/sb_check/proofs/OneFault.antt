-- A report goes wrong first in one way, and in one line.
use Rattle.std.proofs.Common.{◌≡◌, ◌<◌, ◌+◌, ℕ, List, length, take, drop, true, ap, sym, subst, refl, ◌∙◌, arith, append_assoc, None}
use Rattle.std.specs.Prelude.{◌++◌}
use Rattle.sb_text.specs.Reports.{run_report}
use Rattle.std.proofs.lemmas.Bool.{cases_lt}
use Rattle.std.proofs.lemmas.List.{take-append-drop, take-take}
use Rattle.std.proofs.lemmas.List.Elements.{All-take, All-weaker}
use Rattle.sb_packet.specs.Journals.{IsLawful, IsPlaced, flow_part, journal_accesses}
use Rattle.sb_packet.specs.Networks.{NetHost, Network}
use Rattle.sb_packet.specs.Scripts.{script_accesses}
use Rattle.sb_packet.specs.declared.entry.Entry.{Entry}
use Rattle.sb_flow.specs.NetworkOf.{network_of}
use Rattle.sb_flow.specs.declared.bundle.Bundle.{Bundle}
use Rattle.sb_check.specs.Beginnings.{IsLawfulSoFar}
use Rattle.sb_link.specs.Prefixes.{IsPrefix}
use Rattle.sb_check.specs.Histories.{IsFormFault, SpellsJournal}
use Rattle.sb_check.specs.ReportLines.{IsFirstDifference}
use Rattle.sb_check.specs.Verdicts.{IsEntryFault, IsFault, IsShort, IsTextFault}
use Rattle.sb_check.specs.declared.verdict.Reason.{Reason}
use Rattle.sb_check.specs.declared.verdict.Reason.TheVariants.{Form, Entry as EntryReason, Short, Text}
use Rattle.sb_check.proofs.HistoryLemmas.{spelled_no_form_fault}
use Rattle.sb_check.proofs.OneJournal.{AreExact, journal_once}
use Rattle.sb_check.proofs.ReadingLemmas.{flow-append, lawful_front, order_front}
use mathlib.Core.Logic.{inl, inr}

-- entries that are lawful so far were so before
front_begins : (network : Network) (host : NetHost) (d k : ℕ) (journal : List Entry) → IsPrefix (flow_part network host d (journal_accesses journal d)) (flow_part network host d (script_accesses host))
    → IsPrefix (flow_part network host d (journal_accesses (take k journal) d)) (flow_part network host d (script_accesses host))
front_begins network host d k journal b =
    let front = flow_part network host d (journal_accesses (take k journal) d) in
    let rest = flow_part network host d (journal_accesses (drop k journal) d) in
    let parts : flow_part network host d (journal_accesses journal d) ≡ front ++ rest = ap (λ (j : List Entry). flow_part network host d (journal_accesses j d)) (sym (take-append-drop k journal)) ∙ flow-append network host d (take k journal) (drop k journal) in
    record { rest = rest ++ b.rest; joined = sym (append_assoc front rest b.rest) ∙ ap (λ l. l ++ b.rest) (sym parts) ∙ b.joined }

so_far_front : (network : Network) (journal : List Entry) (k : ℕ) → IsLawfulSoFar network journal → IsLawfulSoFar network (take k journal)
so_far_front network journal k l = record {
  in_script_order = All-weaker (λ (host : NetHost). (d : ℕ) → IsPrefix (flow_part network host d (journal_accesses journal d)) (flow_part network host d (script_accesses host)))
      (λ (host : NetHost). (d : ℕ) → IsPrefix (flow_part network host d (journal_accesses (take k journal) d)) (flow_part network host d (script_accesses host)))
      (λ host begins d. front_begins network host d k journal (begins d)) network.hosts l.in_script_order;
  at_target = All-take (IsPlaced network) k journal l.at_target;
  in_round_order = order_front k journal l.in_round_order;
}

-- of two numbers neither of which is below the other
neither_below : (a b : ℕ) → ¬ (a < b) → ¬ (b < a) → a ≡ b
neither_below a b x y = elim (cases_lt a b) [
  | inl low ↦ absurd (x low)
  | inr high ↦ elim (cases_lt b a) [
    | inl low ↦ absurd (y low)
    | inr other ↦ omega arith
  ]
]

form_once : (network : Network) (report : List ℕ) (k m : ℕ) → IsFormFault network report k → IsFormFault network report m → k ≡ m
form_once network report k m a b = neither_below k m (λ low. a.here (b.before k low)) (λ low. b.here (a.before m low))

difference_once : (x y : List ℕ) (k m : ℕ) → IsFirstDifference x y k → IsFirstDifference x y m → k ≡ m
difference_once x y k m a b = neither_below k m (λ low. a.here (b.before k low)) (λ low. b.here (a.before m low))

-- no entry before the first wrong one is wrong
not_before : (network : Network) (journal : List Entry) (p q : ℕ) → ¬ IsLawfulSoFar network (take (p + 1) journal) → IsLawfulSoFar network (take q journal) → ¬ (p < q)
not_before network journal p q wrong so_far low = wrong (subst (λ (j : List Entry). IsLawfulSoFar network j) (take-take (p + 1) q journal (omega arith)) (so_far_front network (take q journal) (p + 1) so_far))

module _ (exact : AreExact) (b : Bundle) (report : List ℕ) where
  same_journal : (js ks : List Entry) → SpellsJournal (network_of b) report js → SpellsJournal (network_of b) report ks → js ≡ ks
  same_journal js ks s t = journal_once exact b report js ks s t

  entry_places : (js ks : List Entry) (p q : ℕ) → js ≡ ks → IsLawfulSoFar (network_of b) (take p js) → ¬ IsLawfulSoFar (network_of b) (take (p + 1) js) → IsLawfulSoFar (network_of b) (take q ks) → ¬ IsLawfulSoFar (network_of b) (take (q + 1) ks) → p ≡ q
  entry_places js ks p q same lawful-p wrong-p lawful-q wrong-q =
      neither_below p q (not_before (network_of b) ks p q (λ l. wrong-p (subst (λ (j : List Entry). IsLawfulSoFar (network_of b) (take (p + 1) j)) (sym same) l)) lawful-q)
      (not_before (network_of b) js q p (λ l. wrong-q (subst (λ (j : List Entry). IsLawfulSoFar (network_of b) (take (q + 1) j)) same l)) lawful-p)

  entry_once : (k m : ℕ) → IsEntryFault (network_of b) report k → IsEntryFault (network_of b) report m → k ≡ m
  entry_once k m x y =
      let places : x.place ≡ y.place = entry_places x.journal y.journal x.place y.place (same_journal x.journal y.journal x.spelled y.spelled) x.before x.here y.before y.here in
      x.line ∙ ap (λ (n : ℕ). 2 + n) places ∙ sym y.line

  short_once : (k m : ℕ) → IsShort (network_of b) report k → IsShort (network_of b) report m → k ≡ m
  short_once k m x y = x.line ∙ ap (λ (j : List Entry). 1 + length j) (same_journal x.journal y.journal x.spelled y.spelled) ∙ sym y.line

  text_once : (k m : ℕ) → IsTextFault (network_of b) report k → IsTextFault (network_of b) report m → k ≡ m
  text_once k m x y =
      let same = same_journal x.journal y.journal x.spelled y.spelled in
      difference_once report (run_report (network_of b) y.journal true None) k m (subst (λ (j : List Entry). IsFirstDifference report (run_report (network_of b) j true None) k) same x.differs) y.differs

  entry_or_short : (k m : ℕ) → IsEntryFault (network_of b) report k → IsShort (network_of b) report m → ⊥
  entry_or_short k m x y =
      let same = same_journal x.journal y.journal x.spelled y.spelled in
      x.here (subst (λ (j : List Entry). IsLawfulSoFar (network_of b) (take (x.place + 1) j)) (sym same) (so_far_front (network_of b) y.journal (x.place + 1) y.lawful))

  entry_or_text : (k m : ℕ) → IsEntryFault (network_of b) report k → IsTextFault (network_of b) report m → ⊥
  entry_or_text k m x y =
      let same = same_journal x.journal y.journal x.spelled y.spelled in
      x.here (subst (λ (j : List Entry). IsLawfulSoFar (network_of b) (take (x.place + 1) j)) (sym same) (lawful_front (network_of b) y.journal (x.place + 1) y.lawful))

  short_or_text : (k m : ℕ) → IsShort (network_of b) report k → IsTextFault (network_of b) report m → ⊥
  short_or_text k m x y = x.short (subst (λ (j : List Entry). IsLawful (network_of b) j) (sym (same_journal x.journal y.journal x.spelled y.spelled)) y.lawful)

  pub fault_once : (r s : Reason) (k m : ℕ) → IsFault (network_of b) report r k → IsFault (network_of b) report s m → (r ≡ s) × (k ≡ m)
  fault_once Form Form k m x y = (refl, form_once (network_of b) report k m x y)
  fault_once Form EntryReason k m x y = absurd (spelled_no_form_fault (network_of b) report y.journal k y.spelled x)
  fault_once Form Short k m x y = absurd (spelled_no_form_fault (network_of b) report y.journal k y.spelled x)
  fault_once Form Text k m x y = absurd (spelled_no_form_fault (network_of b) report y.journal k y.spelled x)
  fault_once EntryReason Form k m x y = absurd (spelled_no_form_fault (network_of b) report x.journal m x.spelled y)
  fault_once EntryReason EntryReason k m x y = (refl, entry_once k m x y)
  fault_once EntryReason Short k m x y = absurd (entry_or_short k m x y)
  fault_once EntryReason Text k m x y = absurd (entry_or_text k m x y)
  fault_once Short Form k m x y = absurd (spelled_no_form_fault (network_of b) report x.journal m x.spelled y)
  fault_once Short EntryReason k m x y = absurd (entry_or_short m k y x)
  fault_once Short Short k m x y = (refl, short_once k m x y)
  fault_once Short Text k m x y = absurd (short_or_text k m x y)
  fault_once Text Form k m x y = absurd (spelled_no_form_fault (network_of b) report x.journal m x.spelled y)
  fault_once Text EntryReason k m x y = absurd (entry_or_text m k y x)
  fault_once Text Short k m x y = absurd (short_or_text m k y x)
  fault_once Text Text k m x y = (refl, text_once k m x y)
