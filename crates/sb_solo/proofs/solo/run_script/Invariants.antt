-- What the run came to so far, followed by what the transactions that are left come to, is what the whole script comes to; and the room is enough for these.
use Rattle.std.proofs.Common.{◌≡◌, ◌≤◌, ◌+◌, ◌++◌, [], drop, length}
use Rattle.std.specs.Prelude.{map, All}
use Rattle.sb_packet.specs.Messages.{message_of}
use Rattle.sb_solo.specs.Solo.{solo_packets_from}
use Rattle.sb_solo.specs.SoloRuns.{solo_memory_from, solo_opening, solo_outcomes_from}
use Rattle.sb_solo.specs.Steps.{answer_room_in, entries_in, IsFirstRound}
use Rattle.sb_solo.proofs.solo.run_script.Given as goal

abbrev pub invariant-loop-index : goal.invariant-loop-index
invariant-loop-index l = record {
  base : l.memory.base ≡ 0;
  size : length l.memory.bytes ≡ 65536;
  first : All IsFirstRound l.journal.entries;
  spare : entries_in (drop l.index l.script) ≤ l.journal.spare;
  rows : length l.script ≤ l.index + l.outcomes.spare_rows;
  room : answer_room_in (drop l.index l.script) ≤ l.outcomes.spare_bytes;
  next : l.outcomes.next ≡ [];
  memory : solo_memory_from l.script l.index l.memory (drop l.index l.script) ≡ solo_memory_from l.script 0 solo_opening l.script;
  outcomes : l.outcomes.outcomes ++ solo_outcomes_from l.script l.index l.memory (drop l.index l.script) ≡ solo_outcomes_from l.script 0 solo_opening l.script;
  packets : map (λ e. message_of e.packet) l.journal.entries ++ solo_packets_from l.script l.index (drop l.index l.script) ≡ solo_packets_from l.script 0 l.script;
}
