-- Where 64 took a slot, the next one takes that of the oldest.
use Rattle.sb_host.proofs.Slots.{oldest_before}
use Rattle.sb_host.proofs.window.Window.slot_before.Goals as goal

pub returns-else-self-lt-WINDOW_SLOTS : goal.returns-else-self-lt-WINDOW_SLOTS
returns-else-self-lt-WINDOW_SLOTS c = record {
  before = λ lines n is. oldest_before lines n c.args.self.now.oldest c.args.self.now.taken is c.if-self-lt-WINDOW_SLOTS.false;
}
