-- What the tests find no fault in is accepted.
use Rattle.sb_fields.specs.Counted.{counted_bundle}
use Rattle.sb_topology.proofs.LoadedNetworks.{accepted_written}
use Rattle.sb_topology.specs.Held.{whole_network}
use Rattle.sb_topology.proofs.bundle.bundle.Goals as goal

pub bundle_of_rows-requires : goal.bundle_of_rows-requires
bundle_of_rows-requires c = accepted_written (counted_bundle c.args.written) (whole_network c.in-Ok.rows) tt c.requires.counts c.in-Ok.ensures.ok
