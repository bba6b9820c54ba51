-- Each transaction so far has its first note, and room for its bytes behind the others.
use Rattle.std.proofs.Common.{◌≡◌, ◌≤◌, ◌*◌, ℕ, length, map, replicate, take, vec_capacity, vec_len}
use Rattle.sb_flow.specs.NetworkOf.{network_of}
use Rattle.sb_check.specs.AnswerNotes.{AreBehind, first_noted, noted_in}
use Rattle.sb_check.proofs.answer_notes.AnswerNotes.new.Given as goal

abbrev pub invariant-loop-txn : goal.invariant-loop-txn
invariant-loop-txn l = record {
  len : vec_len l.notes ≡ l.txn-index;
  capacity : vec_capacity l.notes ≡ length l.script;
  short : l.end ≤ 2048 * l.txn-index;
  rooms : AreBehind 0 l.end l.notes.items;
  noted : (n : ℕ) → l.end ≤ n → map (noted_in (replicate n 0)) l.notes.items ≡ map (first_noted (network_of l.bundle)) (take l.txn-index l.script);
}
