-- The room so far, and that of the transactions that are left, is the whole room.
use Rattle.std.proofs.Common.{◌≡◌, ◌≤◌, ◌+◌, ◌*◌, drop}
use Rattle.sb_solo.specs.Steps.{entries_in, answer_room_in}
use Rattle.sb_solo.proofs.solo.room_in.Given as goal

abbrev pub invariant-loop-txn : goal.invariant-loop-txn
invariant-loop-txn l = record {
  entries : l.room.entries + entries_in (drop l.txn-index l.script) ≡ entries_in l.script;
  bytes : l.room.bytes + answer_room_in (drop l.txn-index l.script) ≡ answer_room_in l.script;
  few : l.room.entries ≤ 64 * l.txn-index;
  short : l.room.bytes ≤ 2048 * l.txn-index;
}
