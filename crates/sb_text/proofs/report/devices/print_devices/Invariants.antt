-- The lines of the devices so far are printed or wait, and the sink has not failed.
use Rattle.std.proofs.Common.{take, Ok}
use Rattle.sb_packet.specs.Answers.{RunResults}
use Rattle.sb_flow.specs.NetworkOf.{network_of}
use Rattle.sb_io.specs.declared.output.WriteFailed.{WriteFailed}
use Rattle.sb_text.specs.Printing.{IsPrinted}
use Rattle.sb_text.specs.Reports.{device_part}
use Rattle.sb_text.specs.Telling.{Tells}
use Rattle.sb_text.proofs.IndexedLemmas.{indexed}
use Rattle.sb_text.proofs.report.devices.print_devices.Given as goal

abbrev pub invariant-loop-device : goal.invariant-loop-device
invariant-loop-device g l = (told : RunResults) → Tells g.R.Results l.results (network_of l.bundle) told
    → IsPrinted {T = Unit {0}} {E = WriteFailed} g.K.Sink (Ok tt) l.fn.sink l.sink l.fn.buffer l.buffer (indexed (device_part (network_of l.bundle) told l.side) 0 (take l.device (network_of l.bundle).devices))
