-- The lines of a history.
use Rattle.std.proofs.Common.{◌≡◌, ◌<◌, ◌≤◌, ◌+◌, ◌^◌, ℕ, zero, suc, true, false, List, [], ◌∷◌, ◌++◌, length, get_or, take, drop, ap, sym, subst, refl, ◌∙◌, arith, append_assoc, Some, None}
use Rattle.std.specs.Prelude.{All, codes, decimal, filter, flat_map, map, slice_get}
use Rattle.std.proofs.lemmas.Fmt.{length-decimal-le}
use Rattle.std.proofs.lemmas.List.{append_cancel_right, length-append, length-map}
use Rattle.std.proofs.lemmas.List.Elements.{All-head, All-tail, filter-append}
use Rattle.std.proofs.Math.Seq.{take-append_seam}
use Rattle.sb_word.specs.Words.{word_of}
use Rattle.sb_packet.specs.Messages.{message_of}
use Rattle.sb_packet.specs.Names.{is_name}
use Rattle.sb_packet.specs.Networks.{NetDevice, Network}
use Rattle.sb_packet.specs.Answers.{run_results}
use Rattle.sb_packet.specs.declared.entry.Entry.{Entry}
use Rattle.sb_text.specs.Lines.{is_line_end}
use Rattle.sb_text.specs.Numerals.{digits_number}
use Rattle.sb_text.specs.Reports.{entry_line, first_line, run_report}
use Rattle.sb_text.specs.TextLines.{body_text, hex_number, text_line}
use Rattle.sb_check.specs.Comparing.{IsUnended, closing_text}
use Rattle.sb_check.specs.Histories.{IsFormFault, IsFormed, IsHistoryRead, SpellsJournal, history_of, history_text}
use Rattle.sb_check.specs.ReportLines.{IsFirstDifference, report_lines}
use Rattle.sb_check.specs.Spelling.{AnnouncesEntries, IsEntryInRange, SpellsEntry, count_line}
use Rattle.sb_packet.specs.Journals.{IsLawful}
use Rattle.sb_check.specs.Verdicts.{IsLawfulReport}
use Rattle.sb_check.proofs.CompareLemmas.{IsOneLine, differs_behind, line_ends, text_line-one}
use Rattle.sb_check.proofs.DigitLemmas.{decimal-read}
use Rattle.sb_check.proofs.EntryLemmas.{carried_bytes, device_name_at, option_same}
use Rattle.sb_check.proofs.LineLemmas.{report_lines-line}
use Rattle.sb_check.proofs.UnendedLemmas.{a_word, body_text_unended, decimal_unended, hex_number_unended, letters_unended, name_unended, no_words}
use mathlib.Core.Logic.{inl, inr}

-- the devices of a network have names
abbrev pub AreNamed : Network → Type 0
AreNamed network = All (λ (d : NetDevice). is_name d.name ≡ true) network.devices

-- what a line is made of
pub first_line_one : IsOneLine (first_line None)
first_line_one = text_line-one (codes "sb" ∷ codes "1" ∷ []) (a_word (codes "sb") (codes "1" ∷ []) (letters_unended (codes "sb") refl) (a_word (codes "1") [] (letters_unended (codes "1") refl) no_words))

pub count_line_one : (n : ℕ) → n < 2 ^ 32 → IsOneLine (count_line n)
count_line_one n few = text_line-one (codes "history" ∷ decimal n ∷ []) (a_word (codes "history") (decimal n ∷ []) (letters_unended (codes "history") refl) (a_word (decimal n) [] (decimal_unended n (omega arith)) no_words))

name_there : (ds : List NetDevice) (d : ℕ) → All (λ (x : NetDevice). is_name x.name ≡ true) ds → d < length ds → is_name (get_or (map (λ (x : NetDevice). x.name) ds) d []) ≡ true
name_there [] d named there = absurd (omega arith)
name_there (x ∷ ds) zero named there = All-head (λ (x : NetDevice). is_name x.name ≡ true) x ds named
name_there (x ∷ ds) (suc d) named there = name_there ds d (All-tail (λ (x : NetDevice). is_name x.name ≡ true) x ds named) (omega arith)

pub entry_line_one : (network : Network) (e : Entry) → AreNamed network → IsEntryInRange network e → IsOneLine (entry_line network e)
entry_line_one network e named range =
    let name = device_name_at network e.device in
    let word = hex_number 8 (word_of e.packet.cmd) in
    let dst = hex_number 14 e.packet.dst in
    let src = hex_number 14 e.packet.src in
    let body = body_text (message_of e.packet).bytes in
    let round : e.round < 2 ^ 64 = let small = range.round in omega arith in
    text_line-one (codes "e" ∷ decimal e.round ∷ name ∷ word ∷ dst ∷ src ∷ body ∷ [])
    (a_word (codes "e") (decimal e.round ∷ name ∷ word ∷ dst ∷ src ∷ body ∷ []) (letters_unended (codes "e") refl)
    (a_word (decimal e.round) (name ∷ word ∷ dst ∷ src ∷ body ∷ []) (decimal_unended e.round round)
    (a_word name (word ∷ dst ∷ src ∷ body ∷ []) (name_unended name (name_there network.devices e.device named range.device))
    (a_word word (dst ∷ src ∷ body ∷ []) (hex_number_unended 8 (word_of e.packet.cmd))
    (a_word dst (src ∷ body ∷ []) (hex_number_unended 14 e.packet.dst)
    (a_word src (body ∷ []) (hex_number_unended 14 e.packet.src)
    (a_word body [] (body_text_unended (message_of e.packet).bytes (carried_bytes e.packet range.bytes)) no_words)))))))

-- the lines behind one
one_then : (line rest : List ℕ) → IsOneLine line → report_lines (line ++ rest) ≡ line ∷ report_lines rest
one_then line rest one =
    ap (λ (t : List ℕ). report_lines (t ++ rest)) one.ends ∙ ap report_lines (append_assoc one.line (10 ∷ []) rest)
    ∙ report_lines-line one.line rest one.unended ∙ ap (λ (t : List ℕ). t ∷ report_lines rest) (sym one.ends)

-- it has one line feed
unended_none : (line : List ℕ) → IsUnended line → line_ends line ≡ 0
unended_none [] all = refl
unended_none (b ∷ line) all = rw (All-head (λ b. is_line_end b ≡ false) b line all) (unended_none line (All-tail (λ b. is_line_end b ≡ false) b line all))

line_ends-append : (s t : List ℕ) → line_ends (s ++ t) ≡ line_ends s + line_ends t
line_ends-append s t = ap length (filter-append is_line_end s t) ∙ length-append (filter is_line_end s) (filter is_line_end t)

one_ends : (line : List ℕ) → IsOneLine line → line_ends line ≡ 1
one_ends line one =
    let none = unended_none one.line one.unended in
    let last : line_ends (10 ∷ []) ≡ 1 = refl in
    omega (arith, ap line_ends one.ends, line_ends-append one.line (10 ∷ []), none, last)

-- the lines of entries
entries_lines : (network : Network) (journal : List Entry) (rest : List ℕ) → AreNamed network → All (IsEntryInRange network) journal
    → report_lines (flat_map (entry_line network) journal ++ rest) ≡ map (entry_line network) journal ++ report_lines rest
entries_lines network [] rest named ranges = refl
entries_lines network (e ∷ journal) rest named ranges =
    ap report_lines (append_assoc (entry_line network e) (flat_map (entry_line network) journal) rest)
    ∙ one_then (entry_line network e) (flat_map (entry_line network) journal ++ rest) (entry_line_one network e named (All-head (IsEntryInRange network) e journal ranges))
    ∙ ap (λ (ls : List (List ℕ)). entry_line network e ∷ ls) (entries_lines network journal rest named (All-tail (IsEntryInRange network) e journal ranges))

entries_ends : (network : Network) (journal : List Entry) → AreNamed network → All (IsEntryInRange network) journal → line_ends (flat_map (entry_line network) journal) ≡ length journal
entries_ends network [] named ranges = refl
entries_ends network (e ∷ journal) named ranges =
    let here = one_ends (entry_line network e) (entry_line_one network e named (All-head (IsEntryInRange network) e journal ranges)) in
    let rest = entries_ends network journal named (All-tail (IsEntryInRange network) e journal ranges) in
    omega (arith, line_ends-append (entry_line network e) (flat_map (entry_line network) journal), here, rest)

pub history_lines_are : (network : Network) (journal : List Entry) (rest : List ℕ) → AreNamed network → All (IsEntryInRange network) journal → length journal < 2 ^ 32
    → report_lines (history_text network journal ++ rest) ≡ history_of network journal ++ report_lines rest
history_lines_are network journal rest named ranges few =
    let count = count_line (length journal) in
    let entries = flat_map (entry_line network) journal in
    ap report_lines (append_assoc (first_line None) (count ++ entries) rest) ∙ one_then (first_line None) ((count ++ entries) ++ rest) first_line_one
    ∙ ap (λ (ls : List (List ℕ)). first_line None ∷ ls)
    (ap report_lines (append_assoc count entries rest) ∙ one_then count (entries ++ rest) (count_line_one (length journal) few)
    ∙ ap (λ (ls : List (List ℕ)). count ∷ ls) (entries_lines network journal rest named ranges))

pub history_ends : (network : Network) (journal : List Entry) → AreNamed network → All (IsEntryInRange network) journal → length journal < 2 ^ 32 → line_ends (history_text network journal) ≡ 2 + length journal
history_ends network journal named ranges few =
    let count = count_line (length journal) in
    let entries = flat_map (entry_line network) journal in
    omega (arith, line_ends-append (first_line None) (count ++ entries), line_ends-append count entries, one_ends (first_line None) first_line_one, one_ends count (count_line_one (length journal) few), entries_ends network journal named ranges)

-- the report of a run is its history and what stands behind it
filter_all : (journal : List Entry) → filter (λ (e : Entry). true) journal ≡ journal
filter_all [] = refl
filter_all (e ∷ journal) = ap (λ (l : List Entry). e ∷ l) (filter_all journal)

pub report_parts : (network : Network) (journal : List Entry) → run_report network journal true None ≡ history_text network journal ++ closing_text network (run_results network journal)
report_parts network journal =
    let told = run_results network journal in
    let history : List Entry → List ℕ = λ shown. text_line (codes "history" ∷ decimal (length shown) ∷ []) ++ flat_map (entry_line network) shown in
    let behind : List ℕ → List ℕ = λ t. (first_line None ++ t) ++ closing_text network told in
    regroup network journal ∙ ap (λ (shown : List Entry). behind (history shown)) (filter_all journal)
  where
    regroup : (network : Network) (journal : List Entry) → run_report network journal true None ≡ (first_line None ++ (text_line (codes "history" ∷ decimal (length (filter (λ (e : Entry). true) journal)) ∷ []) ++ flat_map (entry_line network) (filter (λ (e : Entry). true) journal))) ++ closing_text network (run_results network journal)
    regroup network journal = simp append_assoc refl

-- a journal has no more entries than its history has bytes
entries_few : (network : Network) (journal : List Entry) → length journal ≤ length (flat_map (entry_line network) journal)
entries_few network [] = omega arith
entries_few network (e ∷ journal) =
    let some : 1 ≤ length (entry_line network e) = some_line network e in
    omega (arith, some, length-append (entry_line network e) (flat_map (entry_line network) journal), entries_few network journal)
  where
    some_line : (network : Network) (e : Entry) → 1 ≤ length (entry_line network e)
    some_line network e = omega arith

pub history_few : (network : Network) (journal : List Entry) (rest : List ℕ) → length journal ≤ length (history_text network journal ++ rest)
history_few network journal rest =
    let entries = flat_map (entry_line network) journal in
    omega (arith, entries_few network journal, length-append (history_text network journal) rest, length-append (first_line None) (count_line (length journal) ++ entries), length-append (count_line (length journal)) entries)

-- a lawful report spells its journal
pub lawful_spelled : (network : Network) (report : List ℕ) → AreNamed network → length report < 2 ^ 32 → (l : IsLawfulReport network report) → SpellsJournal network report l.journal
lawful_spelled network report named short l =
    let told = run_results network l.journal in
    let text : report ≡ history_text network l.journal ++ closing_text network told = l.text ∙ report_parts network l.journal in
    let few : length l.journal < 2 ^ 32 = omega (arith, short, ap length text, history_few network l.journal (closing_text network told)) in
    let lines : report_lines report ≡ history_of network l.journal ++ report_lines (closing_text network told) = ap report_lines text ∙ history_lines_are network l.journal (closing_text network told) named l.ranges few in
    let count : 2 + length l.journal ≡ length (history_of network l.journal) = omega (arith, length-map l.journal (entry_line network)) in
    record {
      few = few;
      ranges = l.ranges;
      lines = ap (take (2 + length l.journal)) lines ∙ ap (λ (n : ℕ). take n (history_of network l.journal ++ report_lines (closing_text network told))) count ∙ take-append_seam (history_of network l.journal) (report_lines (closing_text network told));
    }

-- a line announces one number of entries
pub announced_once : (line : List ℕ) (n m : ℕ) → AnnouncesEntries line n → AnnouncesEntries line m → n ≡ m
announced_once line n m a b =
    let same : count_line n ≡ count_line m = sym a.text ∙ b.text in
    let digits : decimal n ≡ decimal m = append_cancel_right (decimal n) (decimal m) (10 ∷ []) (ap (drop 8) same) in
    option_same n m (sym (read n a.range) ∙ ap (digits_number 10 10) digits ∙ read m b.range)
  where
    read : (n : ℕ) → n < 2 ^ 32 → digits_number 10 10 (decimal n) ≡ Some n
    read n small = decimal-read n small (length-decimal-le 10 n (omega arith) (omega arith) (omega arith))

-- a line of the first so many, and of all
get_taken : {A : Type 0} (xs : List A) (n k : ℕ) → k < n → slice_get (take n xs) k ≡ slice_get xs k
get_taken xs zero k below = absurd (omega arith)
get_taken [] (suc n) k below = refl
get_taken (x ∷ xs) (suc n) zero below = refl
get_taken (x ∷ xs) (suc n) (suc k) below = get_taken xs n k (omega arith)

-- an entry's line is formed
pub entry_there : (network : Network) (journal : List Entry) (i : ℕ) → All (IsEntryInRange network) journal → i < length journal
    → (line : List ℕ) × (slice_get (map (entry_line network) journal) i ≡ Some line) × ((e : Entry) × SpellsEntry network line e)
entry_there network [] i ranges below = absurd (omega arith)
entry_there network (e ∷ journal) zero ranges below = (entry_line network e, refl, (e, record { range = All-head (IsEntryInRange network) e journal ranges; text = refl }))
entry_there network (e ∷ journal) (suc i) ranges below = entry_there network journal i (All-tail (IsEntryInRange network) e journal ranges) (omega arith)

pub spelled_formed : (network : Network) (report : List ℕ) (journal : List Entry) (k : ℕ) → SpellsJournal network report journal → k < 2 + length journal → IsFormed network report k
spelled_formed network report journal zero s below = record { line = first_line None; there = sym (get_taken (report_lines report) (2 + length journal) 0 (omega arith)) ∙ ap (λ (ls : List (List ℕ)). slice_get ls 0) s.lines; form = refl }
spelled_formed network report journal (suc zero) s below = record {
  line = count_line (length journal);
  there = sym (get_taken (report_lines report) (2 + length journal) 1 (omega arith)) ∙ ap (λ (ls : List (List ℕ)). slice_get ls 1) s.lines;
  form = (length journal, record { range = s.few; text = refl });
}
spelled_formed network report journal (suc (suc i)) s below =
    let entry = entry_there network journal i s.ranges (omega arith) in
    record {
      line = entry.0;
      there = sym (get_taken (report_lines report) (2 + length journal) (suc (suc i)) below) ∙ ap (λ (ls : List (List ℕ)). slice_get ls (suc (suc i))) s.lines ∙ entry.1;
      form = entry.2;
    }

-- the second line announces as many entries as it has
pub spelled_count : (network : Network) (report : List ℕ) (journal : List Entry) → SpellsJournal network report journal → slice_get (report_lines report) 1 ≡ Some (count_line (length journal))
spelled_count network report journal s = sym (get_taken (report_lines report) (2 + length journal) 1 (omega arith)) ∙ ap (λ (ls : List (List ℕ)). slice_get ls 1) s.lines

-- what spells a journal has no fault of form
pub spelled_no_form_fault : (network : Network) (report : List ℕ) (journal : List Entry) (k : ℕ) → SpellsJournal network report journal → ¬ IsFormFault network report k
spelled_no_form_fault network report journal k s fault = fault.here (spelled_formed network report journal k s (elim fault.announced [
  | inl low ↦ omega arith
  | inr a ↦
      let second = spelled_formed network report journal 1 s (omega arith) in
      let same : second.line ≡ a.line = option_same second.line a.line (sym second.there ∙ a.there) in
      let count : a.count ≡ length journal = announced_once a.line a.count (length journal) a.announced
      (record { range = s.few; text = sym same ∙ (option_same second.line (count_line (length journal)) (sym second.there ∙ sym (get_taken (report_lines report) (2 + length journal) 1 (omega arith)) ∙ ap (λ (ls : List (List ℕ)). slice_get ls 1) s.lines)) }) in
      let within = a.within in
      omega arith
]))

-- a lawful journal whose history was read, and the text behind that
pub lawful_read : (network : Network) (report left : List ℕ) (journal : List Entry) → IsHistoryRead network report left journal → IsLawful network journal → left ≡ closing_text network (run_results network journal) → IsLawfulReport network report
lawful_read network report left journal r lawful same = record {
  journal = journal;
  ranges = r.spelled.ranges;
  lawful = lawful;
  text = r.text ∙ ap (λ (t : List ℕ). history_text network journal ++ t) same ∙ sym (report_parts network journal);
}

pub differs_read : (network : Network) (report left : List ℕ) (journal : List Entry) (k : ℕ) → AreNamed network → IsHistoryRead network report left journal → IsFirstDifference left (closing_text network (run_results network journal)) k
    → IsFirstDifference report (run_report network journal true None) (2 + length journal + k)
differs_read network report left journal k named r d =
    let text = history_text network journal in
    let closing = closing_text network (run_results network journal) in
    let ends : line_ends text + k ≡ 2 + length journal + k = ap (λ (n : ℕ). n + k) (history_ends network journal named r.spelled.ranges r.spelled.few) in
    subst (λ (n : ℕ). IsFirstDifference report (run_report network journal true None) n) ends
    (subst (λ (t : List ℕ). IsFirstDifference t (run_report network journal true None) (line_ends text + k)) (sym r.text)
    (subst (λ (t : List ℕ). IsFirstDifference (text ++ left) t (line_ends text + k)) (sym (report_parts network journal)) (differs_behind text left closing k d)))

-- the journal of a lawful report is the one that was read
pub lawful_is_read : (network : Network) (report left : List ℕ) (journal : List Entry) → AreNamed network → length report < 2 ^ 32 → IsHistoryRead network report left journal → (l : IsLawfulReport network report) → IsLawful network journal × (report ≡ run_report network journal true None)
lawful_is_read network report left journal named short r l =
    let same : l.journal ≡ journal = r.only l.journal (lawful_spelled network report named short l) in
    (subst (λ (j : List Entry). IsLawful network j) same l.lawful, l.text ∙ ap (λ (j : List Entry). run_report network j true None) same)

pub text_differs : (network : Network) (report left : List ℕ) (journal : List Entry) (k : ℕ) → AreNamed network → length report < 2 ^ 32 → IsHistoryRead network report left journal → IsFirstDifference report (run_report network journal true None) k → ¬ IsLawfulReport network report
text_differs network report left journal k named short r d l = d.here (ap (λ (t : List ℕ). slice_get (report_lines t) k) (lawful_is_read network report left journal named short r l).1)

-- no lawful report has a fault of form
pub form_not_lawful : (network : Network) (report : List ℕ) (k : ℕ) → AreNamed network → length report < 2 ^ 32 → IsFormFault network report k → ¬ IsLawfulReport network report
form_not_lawful network report k named short fault l = spelled_no_form_fault network report l.journal k (lawful_spelled network report named short l) fault
