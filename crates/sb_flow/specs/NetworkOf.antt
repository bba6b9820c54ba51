-- The network that a bundle is.
use Rattle.sb_packet.specs.Networks.{Network}
use Rattle.sb_flow.specs.Rows.{rows_network}
use Rattle.sb_flow.specs.declared.bundle.Bundle.{Bundle}

-- a bundle, as the network of its rows
abbrev pub network_of : Bundle → Network
network_of b = rows_network b.hosts.items b.routers.items b.devices.items b.links.items b.wire
