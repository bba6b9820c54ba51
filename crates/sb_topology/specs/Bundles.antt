-- The network that a bundle's text spells, or its first fault.
use Rattle.std.specs.Prelude.{ℕ, List, [], Result, Ok}
use Rattle.sb_packet.specs.Networks.{Network}
use Rattle.sb_flow.specs.Ends.{odd_width}
use Rattle.sb_text.specs.Sentences.{◌>>=◌}
use Rattle.sb_fields.specs.Json.{written_by}
use Rattle.sb_fields.specs.Written.{WrittenBundle}
use Rattle.sb_fields.specs.declared.fault.LoadFault.{LoadFault}
use Rattle.sb_fields.specs.declared.fault.LoadFault.TheVariants as faults
use Rattle.sb_topology.specs.Lines.{hosts_by}
use Rattle.sb_topology.specs.Places.{named_network}
use Rattle.sb_topology.specs.Tests.{devices_tested, links_tested, scripts_tested, unless_found}

-- what is written as a network: names first; then ids, and where devices lie; then widths, and what links join; then the
-- lines of scripts; then routes, and words
abbrev pub network_written : WrittenBundle → Result Network LoadFault
network_written bundle = do
  network ← named_network bundle
  done ← devices_tested network
  done ← unless_found faults.Width (odd_width network)
  done ← links_tested network
  hosts ← hosts_by 0 [] bundle.hosts
  done ← scripts_tested (record network { hosts = hosts })
  Ok (record network { hosts = hosts })

-- The faults of a bundle are tested in this order, each over the whole bundle: Json, Field, Count; Name; HostId, Range,
-- Overlap, Image; Width, End, Backward, Unlinked; Script; Route, Budget. A text without any is accepted, as the network that
-- it spells.
abbrev pub bundle_of : List ℕ → Result Network LoadFault
bundle_of bytes = written_by bytes >>= network_written
