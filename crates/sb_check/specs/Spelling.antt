-- What a line of a report spells: it is the line that is printed for it, byte by byte.
use Rattle.std.specs.Prelude.{ℕ, ◌==◌, false, ◌≡◌, ◌<◌, ◌^◌, List, [], ◌∷◌, All, length, codes, decimal}
use Rattle.sb_packet.specs.Networks.{Network}
use Rattle.sb_text.specs.Reports.{entry_line}
use Rattle.sb_text.specs.TextLines.{body_text, hex_number, text_line}
use Rattle.sb_word.specs.Words.{word_of}
use Rattle.sb_packet.specs.Messages.{message_of}
use Rattle.sb_packet.specs.declared.packet.Packet.{Packet}
use Rattle.sb_packet.specs.declared.entry.Entry.{Entry}

-- an entry has a round of 32 bits and a device of the network, and its packet's body is of bytes; all else is as in each packet
pub record IsEntryInRange (network : Network) (e : Entry) : Type 0 where
  pub round : e.round < 2 ^ 32
  pub device : e.device < length network.devices
  pub bytes : All (λ b. b < 256) e.packet.body

-- A line spells an entry.
pub record SpellsEntry (network : Network) (line : List ℕ) (e : Entry) : Type 0 where
  pub range : IsEntryInRange network e
  pub text : line ≡ entry_line network e

-- the line that says how many entries follow
abbrev pub count_line : ℕ → List ℕ
count_line n = text_line (codes "history" ∷ decimal n ∷ [])

-- A line announces so many entries.
pub record AnnouncesEntries (line : List ℕ) (n : ℕ) : Type 0 where
  pub range : n < 2 ^ 32
  pub text : line ≡ count_line n

-- a word has no blank
abbrev pub IsPlain : List ℕ → Type 0
IsPlain word = All (λ b. (b == 32) ≡ false) word

-- what a line has of an entry's packet, up to its end
unfoldable pub packet_words : Packet → List ℕ
packet_words p = text_line (hex_number 8 (word_of p.cmd) ∷ hex_number 14 p.dst ∷ hex_number 14 p.src ∷ body_text (message_of p).bytes ∷ [])
