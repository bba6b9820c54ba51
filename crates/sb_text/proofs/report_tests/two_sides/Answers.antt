-- The rows are those of the network, which is accepted.
use Rattle.sb_flow.proofs.RowNetworks.{rows_kept}
use Rattle.sb_text.specs.Samples.{two_sides}
use Rattle.sb_text.proofs.SampleNetworks.{two_sides_are_accepted}
use Rattle.sb_text.proofs.report_tests.two_sides.Goals as goal

pub invariant_of-result : goal.invariant_of-result
invariant_of-result c = rows_kept two_sides c.in_ok-hosts.hosts.items c.in_ok-routers.routers.items c.in_ok-devices.devices.items c.in_ok-links.links.items
    c.in_ok-hosts.ensures c.in_ok-routers.ensures c.in_ok-devices.ensures c.in_ok-links.ensures two_sides_are_accepted
