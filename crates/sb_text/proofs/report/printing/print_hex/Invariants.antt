-- The digits of the bytes so far are printed or wait, and the sink has not failed.
use Rattle.std.proofs.Common.{◌≡◌, ◌≤◌, ◌-◌, length, take}
use Rattle.hex.specs.Hex.{encode_lower}
use Rattle.sb_text.specs.Printing.{Prints}
use Rattle.sb_text.proofs.report.printing.print_hex.Given as goal

abbrev pub invariant-loop-at : goal.invariant-loop-at
invariant-loop-at g l = record {
  within : l.at ≤ length l.bytes;
  printed : Prints (g.K.Sink.held l.fn.sink) l.fn.buffer (g.K.Sink.held l.sink) l.buffer (encode_lower (take l.at l.bytes));
  clean : g.K.Sink.faults l.sink ≡ g.K.Sink.faults l.fn.sink;
}

abbrev pub decreases-loop-at : goal.decreases-loop-at
decreases-loop-at g l = length l.bytes - l.at
