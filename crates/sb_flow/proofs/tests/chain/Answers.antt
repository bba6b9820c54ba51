-- The rows are the chain's, which is accepted.
use Rattle.sb_flow.specs.Samples.{chain}
use Rattle.sb_flow.proofs.RowNetworks.{rows_kept}
use Rattle.sb_flow.proofs.SampleNetworks.{chain_is_accepted}
use Rattle.sb_flow.proofs.tests.chain.Goals as goal

pub invariant_of-result : goal.invariant_of-result
invariant_of-result c = rows_kept chain c.in_ok-hosts.hosts.items c.in_ok-routers.routers.items c.in_ok-devices.devices.items c.in_ok-links.links.items
    c.in_ok-hosts.ensures c.in_ok-routers.ensures c.in_ok-devices.ensures c.in_ok-links.ensures chain_is_accepted
