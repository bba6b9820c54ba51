-- What cutters and mergers are to contracts.
use Rattle.std.specs.Prelude.{ℕ, ◌≡◌, ◌≤◌, true, List, [], ◌∷◌, Option, Some, None}
use Rattle.sb_packet.specs.Messages.{Message, message_of}
use Rattle.sb_packet.specs.Spans.{span_of}
use Rattle.sb_packet.specs.Cuts.{cut_parts, is_indivisible}
use Rattle.sb_packet.specs.declared.packet.Packet.{Packet}
use Rattle.sb_cut.specs.declared.merger.Merged.{Merged}
use Rattle.sb_cut.specs.declared.merger.Merged.TheVariants as mergeds

-- a cutter: the width, and the parts that it has still to give, in order
pub record Cutting : Type 0 where
  pub width : ℕ
  pub left : List Message

-- a merger: the width, and the message that it holds
pub record Merging : Type 0 where
  pub width : ℕ
  pub held : Option Message

-- the parts of a packet, none where there is none
abbrev pub parts_of : ℕ → Option Packet → List Message
parts_of width None = []
parts_of width (Some p) = cut_parts width (message_of p)

-- an atomic or exclusive packet, which is never cut, fits the width
abbrev pub FitsIfIndivisible : ℕ → Packet → Type 0
FitsIfIndivisible width p = is_indivisible (message_of p) ≡ true → span_of p.cmd ≤ width

-- the messages that go out by an answer
abbrev pub out_by : Merged → List Message
out_by mergeds.Held = []
out_by (mergeds.Out p) = message_of p ∷ []
