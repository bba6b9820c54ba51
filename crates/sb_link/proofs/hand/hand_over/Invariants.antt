-- hand_over: what stays while items are handed over, and why it ends.
use Rattle.std.specs.VecDeque.{deque_len}
use Rattle.sb_link.specs.Hands.{IsHanding}
use Rattle.sb_link.proofs.hand.hand_over.Given as goal

abbrev pub invariant-loop-item : goal.invariant-loop-item
invariant-loop-item l = IsHanding l.initial.tx l.initial.rx l.tx l.rx

abbrev pub decreases-loop-item : goal.decreases-loop-item
decreases-loop-item l = deque_len l.tx.kept
