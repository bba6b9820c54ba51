-- What was passed over so far is aimed at no device, and no packet went with it.
use Rattle.std.proofs.Common.{◌≡◌, ◌-◌, length}
use Rattle.sb_host.specs.Progress.{HasComeTo, HasPassedOver, packets_left}
use Rattle.sb_host.specs.Places.{asked_of}
use Rattle.sb_host.proofs.cursor.Cursor.pass_over.Given as goal

abbrev pub invariant-loop-self : goal.invariant-loop-self
invariant-loop-self l = record {
  passed : HasPassedOver (asked_of l.script_plan) l.fn.self.next l.self.next;
  part : l.self.part ≡ l.fn.self.part;
  come : HasComeTo (asked_of l.script_plan) l.self.next l.self.part;
  left : packets_left (asked_of l.script_plan) l.self.next l.self.part ≡ packets_left (asked_of l.script_plan) l.fn.self.next l.fn.self.part;
}

abbrev pub decreases-loop-self : goal.decreases-loop-self
decreases-loop-self l = length l.script_plan.lines.items - l.self.next
