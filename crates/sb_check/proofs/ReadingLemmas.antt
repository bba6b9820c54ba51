-- What was read of a history, entry by entry.
use Rattle.std.proofs.Common.{◌≡◌, ◌<◌, ◌≤◌, ◌+◌, ◌^◌, ℕ, zero, suc, Bool, true, false, List, [], ◌∷◌, ◌++◌, length, take, drop, ap, sym, subst, refl, ◌∙◌, arith, append_assoc, Option, Some, None}
use Rattle.std.specs.Prelude.{All, ◌==◌, ◌&&◌, flat_map, filter, map, slice_get, IfSome, MatchOption}
use Rattle.std.proofs.lemmas.Bool.{and_parts}
use Rattle.std.proofs.lemmas.List.{append_cancel_left, length-append, length-drop, length-map, length-take, map-append, nil_from_length, take-append-drop}
use Rattle.std.proofs.lemmas.List.Concat.{flat_map-append}
use Rattle.std.proofs.lemmas.List.Elements.{All-append, All-cons, All-drop, All-head, All-nil, All-take, All-weaker, filter-append}
use Rattle.std.proofs.Math.Seq.{take-append_seam}
use Rattle.sb_packet.specs.Accesses.{Access, accesses_of}
use Rattle.sb_packet.specs.Journals.{IsLawful, IsPlaced, flow_part, is_at, is_in_round_order, journal_accesses, may_follow}
use Rattle.sb_packet.specs.Networks.{NetHost, Network}
use Rattle.sb_packet.specs.Scripts.{script_accesses}
use Rattle.sb_packet.specs.declared.entry.Entry.{Entry}
use Rattle.sb_text.specs.Lines.{is_line_end}
use Rattle.sb_text.specs.Reports.{entry_line, first_line}
use Rattle.sb_check.specs.Beginnings.{IsLawfulSoFar}
use Rattle.sb_link.specs.Prefixes.{IsPrefix}
use Rattle.sb_check.specs.Histories.{AreEntriesOf, HasForm, IsEntryNext, IsFormFault, IsFormed, IsHeaded, IsHistoryRead, SpellsJournal, history_of, history_text}
use Rattle.sb_check.specs.ReportLines.{begun_by, report_lines}
use Rattle.sb_check.specs.Spelling.{AnnouncesEntries, IsEntryInRange, SpellsEntry, count_line}
use Rattle.sb_check.proofs.CompareLemmas.{joined_lines, lines_joined}
use Rattle.sb_check.proofs.EntryLemmas.{option_same}
use Rattle.sb_check.proofs.HistoryLemmas.{announced_once, entry_there}
use mathlib.Core.Logic.{inl, inr}

-- the front of a lawful journal is lawful so far
pub flow-append : (network : Network) (host : NetHost) (d : ℕ) (a b : List Entry)
    → flow_part network host d (journal_accesses (a ++ b) d) ≡ flow_part network host d (journal_accesses a d) ++ flow_part network host d (journal_accesses b d)
flow-append network host d a b =
    ap (flow_part network host d) (ap (flat_map (λ (e : Entry). accesses_of e.packet)) (filter-append (λ (e : Entry). e.device == d) a b)
    ∙ flat_map-append (λ (e : Entry). accesses_of e.packet) (filter (λ (e : Entry). e.device == d) a) (filter (λ (e : Entry). e.device == d) b))
    ∙ filter-append (λ (x : Access). (x.host == host.id) && is_at network d x) (journal_accesses a d) (journal_accesses b d)

flow_begins : (network : Network) (host : NetHost) (d k : ℕ) (journal : List Entry) → flow_part network host d (journal_accesses journal d) ≡ flow_part network host d (script_accesses host)
    → IsPrefix (flow_part network host d (journal_accesses (take k journal) d)) (flow_part network host d (script_accesses host))
flow_begins network host d k journal same = record {
  rest = flow_part network host d (journal_accesses (drop k journal) d);
  joined = sym (flow-append network host d (take k journal) (drop k journal)) ∙ ap (λ (j : List Entry). flow_part network host d (journal_accesses j d)) (take-append-drop k journal) ∙ same;
}

pub order_front : (k : ℕ) (journal : List Entry) → is_in_round_order journal ≡ true → is_in_round_order (take k journal) ≡ true
order_front zero journal order = refl
order_front (suc k) [] order = refl
order_front (suc zero) (a ∷ rest) order = refl
order_front (suc (suc k)) (a ∷ []) order = refl
order_front (suc (suc k)) (a ∷ b ∷ rest) order =
    let parts = and_parts (may_follow a b) (is_in_round_order (b ∷ rest)) order in
    rw parts.0 (order_front (suc k) (b ∷ rest) parts.1)

pub lawful_front : (network : Network) (journal : List Entry) (k : ℕ) → IsLawful network journal → IsLawfulSoFar network (take k journal)
lawful_front network journal k l = record {
  in_script_order = All-weaker (λ (host : NetHost). (d : ℕ) → flow_part network host d (journal_accesses journal d) ≡ flow_part network host d (script_accesses host))
      (λ (host : NetHost). (d : ℕ) → IsPrefix (flow_part network host d (journal_accesses (take k journal) d)) (flow_part network host d (script_accesses host)))
      (λ host same d. flow_begins network host d k journal (same d)) network.hosts l.in_script_order;
  at_target = All-take (IsPlaced network) k journal l.at_target;
  in_round_order = order_front k journal l.in_round_order;
}

-- no entry was read
pub none_read : (network : Network) (lines : List (List ℕ)) → AreEntriesOf network lines lines []
none_read network lines = record {
  ranges = All-nil (IsEntryInRange network);
  are = refl;
  only = λ others behind ranges none is. nil_from_length others none;
}

-- one was read, whose line spells no other
pub one_read : (network : Network) (lines left : List (List ℕ)) (line : List ℕ) (e : Entry) → lines ≡ line ∷ left → SpellsEntry network line e → ((o : Entry) → SpellsEntry network line o → o ≡ e) → AreEntriesOf network lines left (e ∷ [])
one_read network lines left line e are s once = record {
  ranges = All-cons (IsEntryInRange network) e [] s.range (All-nil (IsEntryInRange network));
  are = are ∙ ap (λ (l : List ℕ). l ∷ left) s.text;
  only = by;
}
  where
    by : (others : List Entry) (behind : List (List ℕ)) → All (IsEntryInRange network) others → length others ≡ length (e ∷ []) → lines ≡ map (entry_line network) others ++ behind → others ≡ e ∷ []
    by [] behind ranges many is = absurd (omega arith)
    by (o ∷ p ∷ others) behind ranges many is = absurd (omega arith)
    by (o ∷ []) behind ranges many is =
        let same : line ≡ entry_line network o = let a = are in let b = is in cc in
        ap (λ (x : Entry). x ∷ []) (once o (record { range = All-head (IsEntryInRange network) o [] ranges; text = same }))

-- some were read, and one more
pub more_read : (network : Network) (lines mid left : List (List ℕ)) (journal : List Entry) (e : Entry) → AreEntriesOf network lines mid journal → AreEntriesOf network mid left (e ∷ []) → AreEntriesOf network lines left (journal ++ e ∷ [])
more_read network lines mid left journal e a b = record {
  ranges = All-append (IsEntryInRange network) journal (e ∷ []) a.ranges b.ranges;
  are = a.are ∙ ap (λ (ls : List (List ℕ)). map (entry_line network) journal ++ ls) b.are ∙ sym (append_assoc (map (entry_line network) journal) (entry_line network e ∷ []) left)
      ∙ ap (λ (ls : List (List ℕ)). ls ++ left) (sym (map-append (entry_line network) journal (e ∷ [])));
  only = λ others behind ranges many is.
      let n = length journal in
      let f = entry_line network in
      let count : length others ≡ n + 1 = many ∙ length-append journal (e ∷ []) in
      let front = take n others in
      let last = drop n others in
      let parts : lines ≡ map f front ++ (map f last ++ behind) =
      is ∙ ap (λ (os : List Entry). map f os ++ behind) (sym (take-append-drop n others)) ∙ ap (λ (ls : List (List ℕ)). ls ++ behind) (map-append f front last) ∙ append_assoc (map f front) (map f last) behind in
      let first : front ≡ journal = a.only front (map f last ++ behind) (All-take (IsEntryInRange network) n others ranges) (omega (arith, length-take n others, count)) parts in
      let rest : mid ≡ map f last ++ behind = append_cancel_left (map f journal) mid (map f last ++ behind) (sym a.are ∙ parts ∙ ap (λ (os : List Entry). map f os ++ (map f last ++ behind)) first) in
      let end : last ≡ e ∷ [] = b.only last behind (All-drop (IsEntryInRange network) n others ranges) (omega (arith, length-drop n others, count)) rest in
      sym (take-append-drop n others) ∙ ap (λ (os : List Entry). os ++ last) first ∙ ap (λ (os : List Entry). journal ++ os) end;
}

-- the lines of a report whose entries were read
pub lines_read : (network : Network) (report mid : List ℕ) (left : List (List ℕ)) (journal : List Entry) (count : ℕ) → IsHeaded report mid count → AreEntriesOf network (report_lines mid) left journal
    → report_lines report ≡ first_line None ∷ count_line count ∷ (map (entry_line network) journal ++ left)
lines_read network report mid left journal count h a = h.lines ∙ ap (λ (ls : List (List ℕ)). first_line None ∷ count_line count ∷ ls) a.are

-- they spell the journal
pub spelled_read : (network : Network) (report mid : List ℕ) (left : List (List ℕ)) (journal : List Entry) (count : ℕ) → IsHeaded report mid count → AreEntriesOf network (report_lines mid) left journal → length journal ≡ count → SpellsJournal network report journal
spelled_read network report mid left journal count h a many =
    let lines : report_lines report ≡ history_of network journal ++ left = lines_read network report mid left journal count h a ∙ ap (λ (n : ℕ). first_line None ∷ count_line n ∷ (map (entry_line network) journal ++ left)) (sym many) in
    let size : 2 + length journal ≡ length (history_of network journal) = omega (arith, length-map journal (entry_line network)) in
    record {
      few = let few = h.few in omega arith;
      ranges = a.ranges;
      lines = ap (take (2 + length journal)) lines ∙ ap (λ (n : ℕ). take n (history_of network journal ++ left)) size ∙ take-append_seam (history_of network journal) left;
    }

-- and no other
pub spelled_once : (network : Network) (report mid : List ℕ) (left : List (List ℕ)) (journal other : List Entry) (count : ℕ) → IsHeaded report mid count → AreEntriesOf network (report_lines mid) left journal → length journal ≡ count
    → SpellsJournal network report other → other ≡ journal
spelled_once network report mid left journal other count h a many s =
    let n = 2 + length other in
    let parts : first_line None ∷ count_line count ∷ report_lines mid ≡ first_line None ∷ count_line (length other) ∷ (map (entry_line network) other ++ drop n (report_lines report)) =
    sym h.lines ∙ sym (take-append-drop n (report_lines report)) ∙ ap (λ (ls : List (List ℕ)). ls ++ drop n (report_lines report)) s.lines in
    let counted : count_line count ≡ count_line (length other) = cc in
    let rest : report_lines mid ≡ map (entry_line network) other ++ drop n (report_lines report) = cc in
    let same : count ≡ length other = announced_once (count_line count) count (length other) (record { range = h.few; text = refl }) (record { range = s.few; text = counted }) in
    a.only other (drop n (report_lines report)) s.ranges (omega arith) rest

-- the text behind the history
joined_map : (network : Network) (journal : List Entry) → joined_lines (map (entry_line network) journal) ≡ flat_map (entry_line network) journal
joined_map network [] = refl
joined_map network (e ∷ journal) = ap (λ (t : List ℕ). entry_line network e ++ t) (joined_map network journal)

pub text_read : (network : Network) (report mid rest : List ℕ) (journal : List Entry) (count : ℕ) → IsHeaded report mid count → AreEntriesOf network (report_lines mid) (report_lines rest) journal → length journal ≡ count → report ≡ history_text network journal ++ rest
text_read network report mid rest journal count h a many =
    let f = entry_line network in
    let entries = map f journal in
    sym (lines_joined report) ∙ ap joined_lines (lines_read network report mid (report_lines rest) journal count h a)
    ∙ ap (λ (t : List ℕ). first_line None ++ (count_line count ++ t)) (flat_map-append (λ (l : List ℕ). l) entries (report_lines rest) ∙ ap (λ (t : List ℕ). t ++ joined_lines (report_lines rest)) (joined_map network journal) ∙ ap (λ (t : List ℕ). flat_map f journal ++ t) (lines_joined rest))
    ∙ ap (λ (n : ℕ). first_line None ++ (count_line n ++ (flat_map f journal ++ rest))) (sym many)
    ∙ ap (λ (t : List ℕ). first_line None ++ t) (sym (append_assoc (count_line (length journal)) (flat_map f journal) rest))
    ∙ sym (append_assoc (first_line None) (count_line (length journal) ++ flat_map f journal) rest)

-- an item of the first of two lists, and the first of the second
get_first : {A : Type 0} (xs ys : List A) (k : ℕ) → k < length xs → slice_get (xs ++ ys) k ≡ slice_get xs k
get_first [] ys k below = absurd (omega arith)
get_first (x ∷ xs) ys zero below = refl
get_first (x ∷ xs) ys (suc k) below = get_first xs ys k (omega arith)

get_behind : {A : Type 0} (xs ys : List A) → slice_get (xs ++ ys) (length xs) ≡ slice_get ys 0
get_behind [] ys = refl
get_behind (x ∷ xs) ys = get_behind xs ys

-- a line that spells no entry is a fault of form
formed_before : (network : Network) (report : List ℕ) (left : List (List ℕ)) (journal : List Entry) (count : ℕ) → count < 2 ^ 32 → report_lines report ≡ first_line None ∷ count_line count ∷ (map (entry_line network) journal ++ left) → All (IsEntryInRange network) journal
    → (j : ℕ) → j < 2 + length journal → IsFormed network report j
formed_before network report left journal count few lines ranges zero below = record { line = first_line None; there = ap (λ (ls : List (List ℕ)). slice_get ls 0) lines; form = refl }
formed_before network report left journal count few lines ranges (suc zero) below = record { line = count_line count; there = ap (λ (ls : List (List ℕ)). slice_get ls 1) lines; form = (count, record { range = few; text = refl }) }
formed_before network report left journal count few lines ranges (suc (suc i)) below =
    let entry = entry_there network journal i ranges (omega arith) in
    let within : i < length (map (entry_line network) journal) = omega (arith, length-map journal (entry_line network)) in
    record {
      line = entry.0;
      there = ap (λ (ls : List (List ℕ)). slice_get ls (suc (suc i))) lines ∙ get_first (map (entry_line network) journal) left i within ∙ entry.1;
      form = entry.2;
    }

pub form_fault_read : (network : Network) (report mid : List ℕ) (left : List (List ℕ)) (journal : List Entry) (count place : ℕ) → IsHeaded report mid count → AreEntriesOf network (report_lines mid) left journal → length journal ≡ place → place < count → ¬ IsEntryNext network left
    → IsFormFault network report (2 + place)
form_fault_read network report mid left journal count place h a many below none =
    let lines = lines_read network report mid left journal count h a in
    let size : length (map (entry_line network) journal) ≡ place = length-map journal (entry_line network) ∙ many in
    record {
      announced = inr (record { line = count_line count; there = ap (λ (ls : List (List ℕ)). slice_get ls 1) lines; count = count; announced = record { range = h.few; text = refl }; within = omega arith });
      before = λ j less. formed_before network report left journal count h.few lines a.ranges j (omega arith);
      here = λ formed. none (next_of formed (sym (ap (λ (ls : List (List ℕ)). slice_get ls (2 + place)) lines ∙ two (map (entry_line network) journal ++ left) ∙ ap (slice_get (map (entry_line network) journal ++ left)) (sym size) ∙ get_behind (map (entry_line network) journal) left)));
    }
  where
    two : (ls : List (List ℕ)) → slice_get (first_line None ∷ count_line count ∷ ls) (2 + place) ≡ slice_get ls place
    two ls = let at : 2 + place ≡ suc (suc place) = omega arith in ap (slice_get (first_line None ∷ count_line count ∷ ls)) at

    spells : (line : List ℕ) → (k : ℕ) → k ≡ suc (suc place) → HasForm network k line → (e : Entry) × SpellsEntry network line e
    spells line k at form = subst (λ (n : ℕ). HasForm network n line) at form

    next_of : IsFormed network report (2 + place) → slice_get left 0 ≡ slice_get (report_lines report) (2 + place) → IsEntryNext network left
    next_of formed at =
        let entry = spells formed.line (2 + place) (omega arith) formed.form in
        record { line = formed.line; there = at ∙ formed.there; entry = entry.0; spelled = entry.1 }

-- the first of some lines, and of none
pub nothing_read : (lines : List (List ℕ)) (line : List ℕ) → lines ≡ [] → slice_get lines 0 ≡ Some line → ⊥
nothing_read lines line none there = let e : slice_get lines 0 ≡ None = ap (λ (ls : List (List ℕ)). slice_get ls 0) none in cc

pub first_read : (lines : List (List ℕ)) (line first : List ℕ) (left : List (List ℕ)) → lines ≡ first ∷ left → slice_get lines 0 ≡ Some line → line ≡ first
first_read lines line first left are there = option_same line first (sym there ∙ ap (λ (ls : List (List ℕ)). slice_get ls 0) are)

-- neither of the first two lines is missing
pub first_missing : (network : Network) (report : List ℕ) → ((line : List ℕ) → slice_get (report_lines report) 0 ≡ Some line → line ≡ first_line None → ⊥) → IsFormFault network report 0
first_missing network report none = record { announced = inl (omega arith); before = λ j below. absurd (omega arith); here = λ formed. none formed.line formed.there formed.form }

pub second_missing : (network : Network) (report : List ℕ) (left : List (List ℕ)) → report_lines report ≡ first_line None ∷ left → ((line : List ℕ) (n : ℕ) → slice_get left 0 ≡ Some line → AnnouncesEntries line n → ⊥) → IsFormFault network report 1
second_missing network report left are none = record {
  announced = inl (omega arith);
  before = by;
  here = λ formed. none formed.line formed.form.0 (sym (ap (λ (ls : List (List ℕ)). slice_get ls 1) are) ∙ formed.there) formed.form.1;
}
  where
    by : (j : ℕ) → j < 1 → IsFormed network report j
    by zero below = record { line = first_line None; there = ap (λ (ls : List (List ℕ)). slice_get ls 0) are; form = refl }
    by (suc j) below = absurd (omega arith)

-- what the next line announces
pub counted : (r : Option ℕ) (lines : List (List ℕ)) (line : List ℕ) (left : List (List ℕ)) → lines ≡ line ∷ left → IfSome r (AnnouncesEntries line) → ((n : ℕ) → AnnouncesEntries line n → r ≡ Some n)
    → MatchOption r ((l : List ℕ) (n : ℕ) → slice_get lines 0 ≡ Some l → AnnouncesEntries l n → ⊥) (λ count. (count < 2 ^ 32) × (lines ≡ count_line count ∷ left))
counted None lines line left are announced only = λ l n there a.
    let same : l ≡ line = first_read lines l line left are there in
    let some = only n (subst (λ (x : List ℕ). AnnouncesEntries x n) same a) in
    cc
counted (Some count) lines line left are announced only = (announced.range, are ∙ ap (λ (l : List ℕ). l ∷ left) announced.text)

-- the entry that the next line spells
pub spelled_next : (network : Network) (r : Option Entry) (lines left : List (List ℕ)) (line : List ℕ) → lines ≡ line ∷ left → IfSome r (SpellsEntry network line) → ((e : Entry) → SpellsEntry network line e → r ≡ Some e) → IfSome r (λ e. AreEntriesOf network lines left (e ∷ []))
spelled_next network None lines left line are spelled only = tt
spelled_next network (Some e) lines left line are spelled only = one_read network lines left line e are spelled (λ o s. sym (option_same e o (only o s)))

pub none_spelled : (network : Network) (r : Option Entry) (lines left : List (List ℕ)) (line : List ℕ) → lines ≡ line ∷ left → ((e : Entry) → SpellsEntry network line e → r ≡ Some e) → r ≡ None → IsEntryNext network lines → ⊥
none_spelled network r lines left line are only none n =
    let same : n.line ≡ line = first_read lines n.line line left are n.there in
    let some = only n.entry (subst (λ (x : List ℕ). SpellsEntry network x n.entry) same n.spelled) in
    cc

-- where no line is left none spells an entry
pub no_line_spells : (network : Network) (lines : List (List ℕ)) → lines ≡ [] → IsEntryNext network lines → ⊥
no_line_spells network lines none n = nothing_read lines n.line none n.there

-- nothing was read
pub missing : {T : Type 0} (r : Option T) (P : Type 0) (Q : T → Type 0) → r ≡ None → P → MatchOption r P Q
missing None P Q none so = so
missing (Some x) P Q none so = absurd (cc)

pub missing_so : {T : Type 0} (r : Option T) (Q : T → Type 0) → r ≡ None → IfSome r Q
missing_so None Q none = tt
missing_so (Some x) Q none = absurd (cc)

-- the whole history was read
pub history_read : (network : Network) (report mid rest : List ℕ) (journal : List Entry) (count : ℕ) → IsHeaded report mid count → AreEntriesOf network (report_lines mid) (report_lines rest) journal → length journal ≡ count → IsHistoryRead network report rest journal
history_read network report mid rest journal count h a many = record {
  spelled = spelled_read network report mid (report_lines rest) journal count h a many;
  only = λ other s. spelled_once network report mid (report_lines rest) journal other count h a many s;
  text = text_read network report mid rest journal count h a many;
}

-- a report has no more lines than bytes
begun_few : (b : ℕ) (ls : List (List ℕ)) → length (begun_by b ls) ≤ suc (length ls)
begun_few b [] = omega arith
begun_few b (l ∷ ls) = omega arith

lines_few : (text : List ℕ) → length (report_lines text) ≤ length text
lines_few [] = omega arith
lines_few (b ∷ text) = by (is_line_end b) refl (lines_few text)
  where
    by : (end : Bool) → is_line_end b ≡ end → length (report_lines text) ≤ length text → length (report_lines (b ∷ text)) ≤ length (b ∷ text)
    by true is few = rw is (omega arith)
    by false is few = rw is (omega (arith, few, begun_few b (report_lines text)))

pub entries_bounded : (network : Network) (report mid : List ℕ) (left : List (List ℕ)) (journal : List Entry) (count : ℕ) → IsHeaded report mid count → AreEntriesOf network (report_lines mid) left journal → length journal ≤ length report
entries_bounded network report mid left journal count h a =
    omega (arith, lines_few report, ap length h.lines, ap length a.are, length-append (map (entry_line network) journal) left, length-map journal (entry_line network))
