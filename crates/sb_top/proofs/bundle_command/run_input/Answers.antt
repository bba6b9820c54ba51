-- The bundle that was run is the one that the input spells.
use Rattle.std.proofs.Common.{inl, inr, refl}
use Rattle.sb_flow.specs.NetworkOf.{network_of}
use Rattle.sb_flow.proofs.Bundles.{accepted}
use Rattle.sb_top.proofs.bundle_command.run_input.Goals as goal

pub returns-in-Ok-clause-done : goal.returns-in-Ok-clause-done
returns-in-Ok-clause-done g c = λ zero. record {
  text = _;
  is = record { network = network_of c.in-Ok.bundle; spelled = c.in-Ok.ensures.ok; accepted = accepted c.in-Ok.bundle; ran = c.report.ensures.ran (inl zero); printed = refl };
  gained = c.report.ensures.done zero;
}

pub returns-in-Ok-clause-part : goal.returns-in-Ok-clause-part
returns-in-Ok-clause-part g c = λ five. record {
  text = _;
  is = inl (record { network = network_of c.in-Ok.bundle; spelled = c.in-Ok.ensures.ok; accepted = accepted c.in-Ok.bundle; ran = c.report.ensures.ran (inr five); printed = refl });
  part = c.report.ensures.part five;
}
