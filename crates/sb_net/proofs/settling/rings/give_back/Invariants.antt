-- The rings so far are given back, and the others lie there as before.
use Rattle.std.proofs.Common.{◌≡◌, ◌≤◌, ◌<◌, ℕ, false, length}
use Rattle.std.specs.Prelude.{None, Some, slice_index_or}
use Rattle.sb_node.specs.Sides.{received_words, ring_side}
use Rattle.sb_net.proofs.settling.rings.give_back.Given as goal

abbrev pub invariant-loop-ring : goal.invariant-loop-ring
invariant-loop-ring g l = record {
  ports_count : length l.ports.items ≡ length l.initial.ports.items;
  ends_count : length l.ends.items ≡ length l.initial.ends.items;
  ports_left : (r : ℕ) → l.ring ≤ r → slice_index_or l.ports.items r None ≡ slice_index_or l.initial.ports.items r None;
  ends_left : (r : ℕ) → l.ring ≤ r → slice_index_or l.ends.items r None ≡ slice_index_or l.initial.ends.items r None;
  made : g.F.Fabric.made l.fabric ≡ g.F.Fabric.made l.initial.fabric;
  unsettled : (r : ℕ) → l.ring ≤ r → r < length l.initial.ports.items → g.F.Fabric.settled l.fabric r ≡ false;
  carried : (r : ℕ) (end : g.row.F-Rx.Denot) → r < l.ring → slice_index_or l.initial.ends.items r None ≡ Some end → g.F.Fabric.carried l.fabric r ≡ received_words (ring_side g.F.Rx.RxEnd end);
}
