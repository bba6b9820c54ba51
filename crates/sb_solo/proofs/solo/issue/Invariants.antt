-- The memory, the journal and the answers are those of the packets so far.
use Rattle.std.proofs.Common.{◌≡◌, ◌≤◌, ◌+◌, ◌*◌, ◌++◌, [], take, length}
use Rattle.std.specs.Prelude.{map, flat_map, All}
use Rattle.sb_packet.specs.Messages.{message_of}
use Rattle.sb_packet.specs.Accesses.{message_accesses}
use Rattle.sb_packet.specs.Answers.{answer_body, answer_code}
use Rattle.sb_packet.specs.Cuts.{transaction_packets}
use Rattle.sb_packet.specs.Memories.{answers_to, memory_after}
use Rattle.sb_solo.specs.Solo.{solo_host}
use Rattle.sb_solo.specs.Steps.{IsFirstRound}
use Rattle.sb_solo.proofs.solo.issue.Given as goal

abbrev pub invariant-loop-k : goal.invariant-loop-k
invariant-loop-k l = record {
  memory : l.memory ≡ memory_after l.fn.memory (flat_map message_accesses (take l.k (transaction_packets (solo_host []) l.index l.txn)));
  base : l.memory.base ≡ 0;
  size : length l.memory.bytes ≡ 65536;
  packets : map (λ e. message_of e.packet) l.journal.entries ≡ map (λ e. message_of e.packet) l.fn.journal.entries ++ take l.k (transaction_packets (solo_host []) l.index l.txn);
  first : All IsFirstRound l.journal.entries;
  spare : l.fn.journal.spare ≡ l.journal.spare + l.k;
  outcomes : l.outcomes.outcomes ≡ l.fn.outcomes.outcomes;
  next : l.outcomes.next ≡ answer_body (answers_to l.fn.memory (flat_map message_accesses (take l.k (transaction_packets (solo_host []) l.index l.txn))));
  rows : l.outcomes.spare_rows ≡ l.fn.outcomes.spare_rows;
  room : l.fn.outcomes.spare_bytes ≤ l.outcomes.spare_bytes + 32 * l.k;
  code : l.code ≡ answer_code (answers_to l.fn.memory (flat_map message_accesses (take l.k (transaction_packets (solo_host []) l.index l.txn))));
}
