-- The network of the tests is accepted.
use Rattle.std.proofs.Common.{refl}
use Rattle.sb_flow.specs.Accepted.{IsAccepted}
use Rattle.sb_flow.proofs.TestedNetworks.{accepted_by_test}
use Rattle.sb_router.specs.Samples.{crossing}

pub crossing_is_accepted : IsAccepted crossing
crossing_is_accepted = accepted_by_test crossing refl
