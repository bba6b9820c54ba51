-- The network of `sb solo`, as a bundle.
use Rattle.std.proofs.Common.{◌≡◌, refl, codes, List, [], ◌∷◌, Ok}
use Rattle.std.specs.Str.{is_utf8, chars}
use Rattle.std.specs.Fmt.{digits}
use Rattle.hex.proofs.OnLiterals.{hex_on_literals}
use Rattle.serde_json.proofs.OnLiterals.{serde_json_on_literals}
use Rattle.sb_solo.specs.Solo.{solo_network}
use Rattle.sb_packet.specs.declared.transaction.Kind.TheVariants.{Read, Write}
use Rattle.sb_packet.specs.declared.transaction.Txn.{Txn}
use Rattle.sb_fields.specs.Fields.{an_object, bytes_in, numeral_in, object_with, only_fields, optional, required}
use Rattle.sb_fields.specs.FieldLists.{list_of, routes_of}
use Rattle.sb_fields.specs.Objects.{bundle_fields, device_fields, host_fields, link_fields, router_fields}
use Rattle.sb_fields.specs.Counts.{device_counts, devices_counts, host_counts, in_range, link_counts, list_counts, router_counts}
use Rattle.sb_topology.specs.Names.{end_named, link_named, new_name, place_among, place_named, route_named, router_named, routes_named, wire_named}
use Rattle.sb_topology.specs.Places.{named_network, route_to}
use Rattle.sb_topology.specs.Tests.{devices_tested, links_tested, scripts_tested, unless_found}
use Rattle.sb_topology.specs.Bundles.{bundle_of}

-- a write of two words of 4 bytes at 0x10, and a read of them
abbrev write_and_read : List Txn
write_and_read = record { kind = Write; size = 2; addr = 16; count = 2; body = 1 ∷ 2 ∷ 3 ∷ 4 ∷ 5 ∷ 6 ∷ 7 ∷ 8 ∷ [] } ∷ record { kind = Read; size = 2; addr = 16; count = 2; body = [] } ∷ []

-- The text of this bundle spells the network of `sb solo`, every field.
solo_bundle : bundle_of (codes "{\"version\":1,\"hosts\":[{\"name\":\"host\",\"id\":0,\"script\":[\"wr 0x10 2 0102030405060708\",\"rd 0x10 2 2\"]}],\"routers\":[{\"name\":\"hub\",\"routes\":{\"mem\":\"dn\"}}],\"devices\":[{\"name\":\"mem\",\"base\":\"0\",\"pages\":16}],\"links\":[{\"name\":\"up\",\"from\":\"host\",\"to\":\"hub\",\"width\":32,\"capacity\":1},{\"name\":\"dn\",\"from\":\"hub\",\"to\":\"mem\",\"width\":32,\"capacity\":1}]}") ≡ Ok (solo_network write_and_read)
unfolding serde_json_on_literals hex_on_literals is_utf8 chars digits required optional only_fields an_object object_with numeral_in bytes_in host_fields router_fields device_fields link_fields bundle_fields list_of list_counts devices_counts host_counts router_counts device_counts link_counts routes_of in_range new_name place_among place_named route_named routes_named router_named end_named link_named wire_named named_network route_to devices_tested links_tested scripts_tested unless_found
solo_bundle = refl
