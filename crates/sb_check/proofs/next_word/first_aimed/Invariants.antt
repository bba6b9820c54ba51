-- All transactions that were passed are aimed elsewhere.
use Rattle.std.proofs.Common.{length, ◌-◌, ◌≡◌, ◌≤◌, ◌<◌, ℕ, false, slice_get, Some}
use Rattle.sb_packet.specs.declared.transaction.Txn.{Txn}
use Rattle.sb_flow.specs.NetworkOf.{network_of}
use Rattle.sb_flow.specs.Ways.{is_aimed_at}
use Rattle.sb_check.proofs.next_word.first_aimed.Given as goal

abbrev pub invariant-loop-number : goal.invariant-loop-number
invariant-loop-number l = record {
  onward : l.fn.from ≤ l.number;
  within : l.number ≤ length l.script;
  passed : (i : ℕ) (t : Txn) → l.fn.from ≤ i → i < l.number → slice_get l.script i ≡ Some t → is_aimed_at (network_of l.bundle) l.device t ≡ false;
}

abbrev pub decreases-loop-number : goal.decreases-loop-number
decreases-loop-number l = length l.script - l.number
