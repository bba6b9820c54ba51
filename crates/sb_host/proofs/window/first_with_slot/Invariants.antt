-- What was passed over so far takes no slot.
use Rattle.std.proofs.Common.{◌≡◌, ◌≤◌, ◌-◌}
use Rattle.sb_host.specs.Windows.{slots_taken}
use Rattle.sb_host.proofs.window.first_with_slot.Given as goal

abbrev pub invariant-loop-place : goal.invariant-loop-place
invariant-loop-place l = record {
  within : l.place ≤ l.next;
  same : slots_taken l.script_plan.lines.items l.place ≡ slots_taken l.script_plan.lines.items l.from;
}

abbrev pub decreases-loop-place : goal.decreases-loop-place
decreases-loop-place l = l.next - l.place
