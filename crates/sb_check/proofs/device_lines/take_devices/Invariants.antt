-- The lines of the devices so far were there.
use Rattle.std.proofs.Common.{take, Ok}
use Rattle.std.specs.Prelude.{flat_map, None}
use Rattle.std.specs.List.{enumerate_from}
use Rattle.sb_packet.specs.Answers.{RunResults}
use Rattle.sb_flow.specs.NetworkOf.{network_of}
use Rattle.sb_text.specs.Reports.{device_part}
use Rattle.sb_text.specs.Telling.{Tells}
use Rattle.sb_check.specs.Comparing.{IsCompared}
use Rattle.sb_check.specs.declared.unread.Differs.{Differs}
use Rattle.sb_check.proofs.device_lines.take_devices.Given as goal

abbrev pub invariant-loop-device : goal.invariant-loop-device
invariant-loop-device g l = (told : RunResults) → Tells g.R.Results l.results (network_of l.bundle) told
    → IsCompared {T = Unit {0}} {E = Differs} (Ok tt) l.fn.text.rest.now l.text.rest.now (flat_map (λ p. device_part (network_of l.bundle) told None p.0 p.1) (take l.device (enumerate_from 0 (network_of l.bundle).devices)))
