-- The lines of the hosts so far were there.
use Rattle.std.proofs.Common.{take, Ok}
use Rattle.std.specs.Prelude.{flat_map, None}
use Rattle.std.specs.List.{enumerate_from}
use Rattle.sb_packet.specs.Answers.{RunResults}
use Rattle.sb_flow.specs.NetworkOf.{network_of}
use Rattle.sb_text.specs.Reports.{host_part}
use Rattle.sb_text.specs.Telling.{Tells}
use Rattle.sb_check.specs.Comparing.{IsCompared}
use Rattle.sb_check.specs.declared.unread.Differs.{Differs}
use Rattle.sb_check.proofs.host_lines.take_hosts.Given as goal

abbrev pub invariant-loop-host : goal.invariant-loop-host
invariant-loop-host g l = (told : RunResults) → Tells g.R.Results l.results (network_of l.bundle) told
    → IsCompared {T = Unit {0}} {E = Differs} (Ok tt) l.fn.text.rest.now l.text.rest.now (flat_map (λ p. host_part (network_of l.bundle) told None p.0 p.1) (take l.host (enumerate_from 0 (network_of l.bundle).hosts)))
