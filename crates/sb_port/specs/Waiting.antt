-- What a port has to send: what it owes, and what it holds for merging.
use Rattle.std.specs.Prelude.{ℕ, Bool, true, false, List, [], ◌∷◌, ◌++◌, Option, Some, None}
use Rattle.sb_packet.specs.Cuts.{cut_parts}
use Rattle.sb_packet.specs.Messages.{Message, message_of}
use Rattle.sb_packet.specs.declared.packet.Packet.{Packet}
use Rattle.sb_cut.specs.Widths.{IsCutWidth}
use Rattle.sb_cut.specs.Folds.{fold_all, listed}
use Rattle.sb_cut.specs.Works.{Cutting, Merging}

-- the width of a ring that a port serves: one to which packets are cut
abbrev pub IsWidth : ℕ → Type 0
IsWidth width = IsCutWidth width

-- what a port has to send over a ring of that width
pub record Waiting : Type 0 where
  pub width : ℕ
  -- the messages that are to be sent, in order
  pub owed : List Message
  -- the message that waits to be joined with the next one
  pub held : Option Message

-- a port that has nothing to send
abbrev pub nothing_waits : ℕ → Waiting
nothing_waits width = record { width = width; owed = []; held = None }

-- a message is owed
abbrev pub some_owed : Waiting → Bool
some_owed w = has_any w.owed
  where
    has_any : List Message → Bool
    has_any [] = false
    has_any (m ∷ rest) = true

-- none, or what the one there is says
abbrev pub listed_packet : Option Packet → List Message
listed_packet None = []
listed_packet (Some p) = message_of p ∷ []

-- what a port has to send by its parts: the packet that is ready, and what comes of the parts that are left to cut, where a merger takes them
abbrev pub waiting_of : Option Packet → Cutting → Merging → Waiting
waiting_of ready cutter merger =
    let folded = fold_all merger.width merger.held cutter.left in
    record { width = merger.width; owed = listed_packet ready ++ folded.out; held = folded.held }

-- A message is offered. This alone says how what is offered is cut and joined: it is cut to the width, and a merger, which holds what is held, takes the parts.
abbrev pub offered : Waiting → Message → Waiting
offered w m =
    let folded = fold_all w.width w.held (cut_parts w.width m) in
    record w { owed = w.owed ++ folded.out; held = folded.held }

-- what is held is owed
abbrev pub released : Waiting → Waiting
released w = record w { owed = w.owed ++ listed w.held; held = None }
