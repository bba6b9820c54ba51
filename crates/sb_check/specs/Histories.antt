-- The history with which a report begins, and how it is read, line by line.
use Rattle.std.specs.Prelude.{ℕ, zero, suc, ◌≡◌, ◌<◌, ◌+◌, ◌^◌, ◌⊎◌, List, ◌∷◌, All, length, map, take, slice_get, None, Some, ◌++◌, flat_map}
use Rattle.sb_packet.specs.Networks.{Network}
use Rattle.sb_text.specs.Reports.{entry_line, first_line}
use Rattle.sb_check.specs.ReportLines.{report_lines}
use Rattle.sb_check.specs.Spelling.{AnnouncesEntries, IsEntryInRange, SpellsEntry, count_line}
use Rattle.sb_packet.specs.declared.entry.Entry.{Entry}
use Rattle.sb_check.specs.Beginnings.{IsLawfulSoFar}

-- line k of a report, counted from 0, has its form: the first names the format, the second says how many entries follow, and each that follows spells one
abbrev pub HasForm : Network → ℕ → List ℕ → Type 0
HasForm network zero line = line ≡ first_line None
HasForm network (suc zero) line = (n : ℕ) × AnnouncesEntries line n
HasForm network (suc (suc k)) line = (e : Entry) × SpellsEntry network line e

-- a report has a line k, which has its form
pub record IsFormed (network : Network) (report : List ℕ) (k : ℕ) : Type 0 where
  pub line : List ℕ
  pub there : slice_get (report_lines report) k ≡ Some line
  pub form : HasForm network k line

-- the second line announces entries up to line k
pub record IsAnnounced (report : List ℕ) (k : ℕ) : Type 0 where
  pub line : List ℕ
  pub there : slice_get (report_lines report) 1 ≡ Some line
  pub count : ℕ
  pub announced : AnnouncesEntries line count
  pub within : k < 2 + count

-- Line k is the first of the history that is missing or hasn't its form.
pub record IsFormFault (network : Network) (report : List ℕ) (k : ℕ) : Type 0 where
  pub announced : (k < 2) ⊎ IsAnnounced report k
  pub before : (j : ℕ) → j < k → IsFormed network report j
  pub here : ¬ IsFormed network report k

-- the lines of a journal's history, from the report's first line on
abbrev pub history_of : Network → List Entry → List (List ℕ)
history_of network journal = first_line None ∷ count_line (length journal) ∷ map (entry_line network) journal

-- A report's own entry lines spell a journal: they all have their form, and these are their entries.
pub record SpellsJournal (network : Network) (report : List ℕ) (journal : List Entry) : Type 0 where
  pub few : length journal < 2 ^ 32
  pub ranges : All (IsEntryInRange network) journal
  pub lines : take (2 + length journal) (report_lines report) ≡ history_of network journal

-- Reading the entries of a history, line by line, and following them.

-- the first of these lines spells an entry
pub record IsEntryNext (network : Network) (lines : List (List ℕ)) : Type 0 where
  pub line : List ℕ
  pub there : slice_get lines 0 ≡ Some line
  pub entry : Entry
  pub spelled : SpellsEntry network line entry

-- Entries were read from lines, and others are left: they are in range, these are their lines, and those of no other entries.
pub record AreEntriesOf (network : Network) (lines left : List (List ℕ)) (entries : List Entry) : Type 0 where
  pub ranges : All (IsEntryInRange network) entries
  pub are : lines ≡ map (entry_line network) entries ++ left
  pub only : (others : List Entry) (behind : List (List ℕ)) → All (IsEntryInRange network) others → length others ≡ length entries
      → lines ≡ map (entry_line network) others ++ behind → others ≡ entries

-- the first two lines of a report were read, which announce so many entries, and these are left
pub record IsHeaded (report left : List ℕ) (count : ℕ) : Type 0 where
  pub few : count < 2 ^ 32
  pub lines : report_lines report ≡ first_line None ∷ count_line count ∷ report_lines left

-- the text of a history, from the report's first line on
abbrev pub history_text : Network → List Entry → List ℕ
history_text network journal = first_line None ++ (count_line (length journal) ++ flat_map (entry_line network) journal)

-- The history of a report was read: it spells this journal and no other, and this is left behind it.
pub record IsHistoryRead (network : Network) (report left : List ℕ) (journal : List Entry) : Type 0 where
  pub spelled : SpellsJournal network report journal
  pub only : (other : List Entry) → SpellsJournal network report other → other ≡ journal
  pub text : report ≡ history_text network journal ++ left

-- the entry at a place is the first that doesn't come rightly
pub record IsFirstWrong (network : Network) (journal : List Entry) (place : ℕ) : Type 0 where
  pub there : place < length journal
  pub before : IsLawfulSoFar network (take place journal)
  pub here : ¬ IsLawfulSoFar network (take (place + 1) journal)
