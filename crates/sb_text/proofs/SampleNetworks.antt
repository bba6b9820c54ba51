-- The network of the printer's tests is accepted.
use Rattle.std.proofs.Common.{refl}
use Rattle.sb_flow.specs.Accepted.{IsAccepted}
use Rattle.sb_flow.proofs.TestedNetworks.{accepted_by_test}
use Rattle.sb_text.specs.Samples.{two_sides}

pub two_sides_are_accepted : IsAccepted two_sides
two_sides_are_accepted = accepted_by_test two_sides refl
