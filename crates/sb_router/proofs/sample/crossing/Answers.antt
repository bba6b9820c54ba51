-- The rows are those of the network.
use Rattle.sb_flow.proofs.RowNetworks.{rows_kept}
use Rattle.sb_router.specs.Samples.{crossing}
use Rattle.sb_router.proofs.SampleNetwork.{crossing_is_accepted}
use Rattle.sb_router.proofs.sample.crossing.Goals as goal

pub invariant_of-result : goal.invariant_of-result
invariant_of-result c = rows_kept crossing c.in_ok-hosts.hosts.items c.in_ok-routers.routers.items c.in_ok-devices.devices.items c.in_ok-links.links.items
    c.in_ok-hosts.ensures c.in_ok-routers.ensures c.in_ok-devices.ensures c.in_ok-links.ensures crossing_is_accepted
