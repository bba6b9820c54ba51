-- The rows are the twins', which are accepted.
use Rattle.sb_flow.specs.Samples.{twins}
use Rattle.sb_flow.proofs.RowNetworks.{rows_kept}
use Rattle.sb_flow.proofs.SampleNetworks.{twins_are_accepted}
use Rattle.sb_flow.proofs.twin_tests.twins.Goals as goal

pub invariant_of-result : goal.invariant_of-result
invariant_of-result c = rows_kept twins c.in_ok-hosts.hosts.items c.in_ok-routers.routers.items c.in_ok-devices.devices.items c.in_ok-links.links.items
    c.in_ok-hosts.ensures c.in_ok-routers.ensures c.in_ok-devices.ensures c.in_ok-links.ensures twins_are_accepted
