-- A journal that is followed, with one entry more.
use Rattle.std.proofs.Common.{◌≡◌, ◌≤◌, ◌+◌, ◌^◌, ℕ, List, [], ◌∷◌, ◌++◌, length, take, ap, sym, subst, refl, ◌∙◌, arith, Option, Some, None}
use Rattle.std.proofs.lemmas.List.{length_push, take-append-le, take_all}
use Rattle.std.proofs.Math.Seq.{take-append_seam}
use Rattle.sb_packet.specs.Journals.{IsLawful}
use Rattle.sb_packet.specs.Networks.{Network}
use Rattle.sb_packet.specs.declared.entry.Entry.{Entry}
use Rattle.sb_check.specs.Beginnings.{IsLawfulSoFar}
use Rattle.sb_check.specs.Histories.{IsFirstWrong, IsFormFault, IsHistoryRead, SpellsJournal}
use Rattle.sb_check.specs.Comparing.{closing_text}
use Rattle.sb_check.specs.Verdicts.{IsEntryFault, IsFault, IsFaulty, IsShort}
use Rattle.sb_check.specs.Gathering.{Gathers, IsFollowedTo}
use Rattle.sb_check.specs.ReportLines.{IsFirstDifference}
use Rattle.sb_check.specs.Progresses.{HasReached}
use Rattle.sb_check.specs.declared.gathered.Gathered.{Gathered}
use Rattle.sb_check.specs.declared.progress.Progress.{Progress}
use Rattle.sb_check.specs.declared.fault.Fault.{Fault}
use Rattle.sb_check.specs.declared.verdict.Reason.{Reason}
use Rattle.sb_check.specs.declared.verdict.Reason.TheVariants as reasons
use Rattle.sb_packet.specs.Answers.{run_results}
use Rattle.sb_check.proofs.HistoryLemmas.{AreNamed, differs_read, form_not_lawful, lawful_is_read, text_differs}
use Rattle.sb_check.proofs.ReadingLemmas.{lawful_front}

-- the first wrong entry stays the first
pub still_wrong : (network : Network) (journal : List Entry) (e : Entry) (place : ℕ) → IsFirstWrong network journal place → IsFirstWrong network (journal ++ e ∷ []) place
still_wrong network journal e place w =
    let there = w.there in
    record {
      there = omega (arith, there, length_push journal e);
      before = subst (λ (j : List Entry). IsLawfulSoFar network j) (sym (take-append-le place journal (e ∷ []) (omega arith))) w.before;
      here = λ lawful. w.here (subst (λ (j : List Entry). IsLawfulSoFar network j) (take-append-le (place + 1) journal (e ∷ []) (omega arith)) lawful);
    }

-- the one behind some that come rightly is the first
pub now_wrong : (network : Network) (journal : List Entry) (e : Entry) (place : ℕ) → place ≡ length journal → IsLawfulSoFar network journal → ¬ IsLawfulSoFar network (journal ++ e ∷ []) → IsFirstWrong network (journal ++ e ∷ []) place
now_wrong network journal e place at lawful wrong = record {
  there = omega (arith, length_push journal e);
  before = subst (λ (j : List Entry). IsLawfulSoFar network j) (sym (ap (λ (n : ℕ). take n (journal ++ e ∷ [])) at ∙ take-append_seam journal (e ∷ []))) lawful;
  here = λ so. wrong (subst (λ (j : List Entry). IsLawfulSoFar network j) (take_all (place + 1) (journal ++ e ∷ []) (omega (arith, length_push journal e))) so);
}

-- where the first wrong entry is, a report goes wrong
pub wrong_entry : (network : Network) (report : List ℕ) (journal : List Entry) (place : ℕ) → SpellsJournal network report journal → IsFirstWrong network journal place → IsEntryFault network report (2 + place)
wrong_entry network report journal place s w = record { journal = journal; spelled = s; place = place; line = refl; there = w.there; before = w.before; here = w.here }

pub short_entries : (network : Network) (report : List ℕ) (journal : List Entry) (count : ℕ) → SpellsJournal network report journal → length journal ≡ count → IsLawfulSoFar network journal → ¬ IsLawful network journal → IsShort network report (1 + count)
short_entries network report journal count s many so short = record { journal = journal; spelled = s; line = ap (λ (n : ℕ). 1 + n) (sym many); lawful = so; short = short }

-- no lawful journal has a wrong entry
pub none_wrong : (network : Network) (journal : List Entry) (place : ℕ) → IsFirstWrong network journal place → ¬ IsLawful network journal
none_wrong network journal place w lawful = w.here (lawful_front network journal (place + 1) lawful)

-- a journal that is followed, by what is known of it
pub wrong_followed : (network : Network) (journal : List Entry) (wrong : Option ℕ) (place : ℕ) (progress : Progress) (gathered : Gathered) → wrong ≡ Some place → IsFollowedTo wrong network journal progress gathered → IsFirstWrong network journal place
wrong_followed network journal wrong place progress gathered is f = subst (λ (w : Option ℕ). IsFollowedTo w network journal progress gathered) is f

pub right_followed : (network : Network) (journal : List Entry) (wrong : Option ℕ) (progress : Progress) (gathered : Gathered) → wrong ≡ None → IsFollowedTo wrong network journal progress gathered → HasReached network progress journal × Gathers network journal gathered
right_followed network journal wrong progress gathered is f = subst (λ (w : Option ℕ). IsFollowedTo w network journal progress gathered) is f

pub followed_wrong : (network : Network) (journal : List Entry) (wrong : Option ℕ) (place : ℕ) (progress : Progress) (gathered : Gathered) → wrong ≡ Some place → IsFirstWrong network journal place → IsFollowedTo wrong network journal progress gathered
followed_wrong network journal wrong place progress gathered is w = subst (λ (o : Option ℕ). IsFollowedTo o network journal progress gathered) (sym is) w

pub followed_right : (network : Network) (journal : List Entry) (wrong : Option ℕ) (progress : Progress) (gathered : Gathered) → wrong ≡ None → HasReached network progress journal → Gathers network journal gathered → IsFollowedTo wrong network journal progress gathered
followed_right network journal wrong progress gathered is r g = subst (λ (o : Option ℕ). IsFollowedTo o network journal progress gathered) (sym is) (r, g)

-- a fault by what it is
pub fault_is : (network : Network) (report : List ℕ) (reason r : Reason) (line k : ℕ) → reason ≡ r → line ≡ k → IsFault network report r k → IsFault network report reason line
fault_is network report reason r line k is at fault = subst (λ (x : Reason). IsFault network report x line) (sym is) (subst (λ (n : ℕ). IsFault network report r n) (sym at) fault)

-- what is found in a report that isn't lawful
pub form_faulty : (network : Network) (report : List ℕ) (f : Fault) (k : ℕ) → f.reason ≡ reasons.Form → f.line ≡ k → AreNamed network → length report ≤ 2 ^ 26 → IsFormFault network report k → IsFaulty network report f
form_faulty network report f k is at named short fault = record {
  fault = fault_is network report f.reason reasons.Form f.line k is at fault;
  unlawful = form_not_lawful network report k named (omega arith) fault;
}

pub entries_faulty : (network : Network) (report left : List ℕ) (journal : List Entry) (f : Fault) → AreNamed network → length report ≤ 2 ^ 26 → IsHistoryRead network report left journal → IsFault network report f.reason f.line → ¬ IsLawful network journal → IsFaulty network report f
entries_faulty network report left journal f named short r fault unlawful = record {
  fault = fault;
  unlawful = λ l. unlawful (lawful_is_read network report left journal named (omega arith) r l).0;
}

pub text_faulty : (network : Network) (report left : List ℕ) (journal : List Entry) (f : Fault) (count k : ℕ) → f.reason ≡ reasons.Text → f.line ≡ 2 + count + k → AreNamed network → length report ≤ 2 ^ 26 → IsHistoryRead network report left journal → IsLawful network journal → length journal ≡ count
    → IsFirstDifference left (closing_text network (run_results network journal)) k → IsFaulty network report f
text_faulty network report left journal f count k is at named short r lawful many d =
    let differs = differs_read network report left journal k named r d in
    let line : f.line ≡ 2 + length journal + k = at ∙ ap (λ (n : ℕ). 2 + n + k) (sym many) in
    record {
      fault = fault_is network report f.reason reasons.Text f.line (2 + length journal + k) is line (record { journal = journal; spelled = r.spelled; lawful = lawful; differs = differs });
      unlawful = text_differs network report left journal (2 + length journal + k) named (omega arith) r differs;
    }
