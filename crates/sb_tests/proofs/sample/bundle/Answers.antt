-- The rows are those of the network, in which a test finds no fault.
use Rattle.std.proofs.Common.{refl}
use Rattle.sb_flow.proofs.RowNetworks.{rows_kept}
use Rattle.sb_flow.proofs.TestedNetworks.{accepted_by_test}
use Rattle.sb_tests.specs.Samples.{sample}
use Rattle.sb_tests.proofs.sample.bundle.Goals as goal

pub invariant_of-result : goal.invariant_of-result
invariant_of-result c = rows_kept sample c.in_ok-hosts.hosts.items c.in_ok-routers.routers.items c.in_ok-devices.devices.items c.in_ok-links.links.items
    c.in_ok-hosts.ensures c.in_ok-routers.ensures c.in_ok-devices.ensures c.in_ok-links.ensures (accepted_by_test sample refl)
