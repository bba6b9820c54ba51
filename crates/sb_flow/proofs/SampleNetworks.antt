-- The networks of the tests are accepted.
use Rattle.std.proofs.Common.{refl}
use Rattle.sb_flow.specs.Accepted.{IsAccepted}
use Rattle.sb_flow.specs.Samples.{chain, twins}
use Rattle.sb_flow.proofs.TestedNetworks.{accepted_by_test}

pub chain_is_accepted : IsAccepted chain
chain_is_accepted = accepted_by_test chain refl

pub twins_are_accepted : IsAccepted twins
twins_are_accepted = accepted_by_test twins refl
