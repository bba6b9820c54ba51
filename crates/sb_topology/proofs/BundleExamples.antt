-- A bundle for each fault, and the example network's, read by the definition.
use Rattle.std.proofs.Common.{◌≡◌, refl, codes, Ok, Err}
use Rattle.std.specs.Str.{is_utf8, chars}
use Rattle.std.specs.Fmt.{digits}
use Rattle.hex.proofs.OnLiterals.{hex_on_literals}
use Rattle.serde_json.proofs.OnLiterals.{serde_json_on_literals}
use Rattle.sb_flow.specs.declared.place.Place.TheVariants.{Device}
use Rattle.sb_packet.proofs.NetworkExample.{wired}
use Rattle.sb_text.specs.declared.line_fault.LineFault.TheVariants as line_faults
use Rattle.sb_fields.specs.Fields.{an_object, bytes_in, numeral_in, object_with, only_fields, optional, required}
use Rattle.sb_fields.specs.FieldLists.{list_of, routes_of}
use Rattle.sb_fields.specs.Objects.{bundle_fields, device_fields, host_fields, link_fields, router_fields}
use Rattle.sb_fields.specs.Counts.{device_counts, devices_counts, host_counts, in_range, link_counts, list_counts, router_counts}
use Rattle.sb_fields.specs.declared.fault.LoadFault.TheVariants as faults
use Rattle.sb_topology.specs.Names.{end_named, link_named, new_name, place_among, place_named, route_named, router_named, routes_named, wire_named}
use Rattle.sb_topology.specs.Places.{named_network, route_to}
use Rattle.sb_topology.specs.Tests.{devices_tested, links_tested, scripts_tested, unless_found}
use Rattle.sb_topology.specs.Bundles.{bundle_of}

-- no JSON
no_json : bundle_of (codes "{") ≡ Err faults.Json
unfolding serde_json_on_literals hex_on_literals is_utf8 chars digits required optional only_fields an_object object_with numeral_in bytes_in host_fields router_fields device_fields link_fields bundle_fields list_of list_counts devices_counts host_counts router_counts device_counts link_counts routes_of in_range new_name place_among place_named route_named routes_named router_named end_named link_named wire_named named_network route_to devices_tested links_tested scripts_tested unless_found
no_json = refl

-- a field is missing
no_links : bundle_of (codes "{\"version\":1,\"hosts\":[{\"name\":\"h\",\"id\":0,\"script\":[\"rd 0 0 1\"]}],\"routers\":[{\"name\":\"r\",\"routes\":{\"m\":\"b\"}}],\"devices\":[{\"name\":\"m\",\"base\":\"0\",\"pages\":1}]}") ≡ Err (faults.Field (codes "links"))
unfolding serde_json_on_literals hex_on_literals is_utf8 chars digits required optional only_fields an_object object_with numeral_in bytes_in host_fields router_fields device_fields link_fields bundle_fields list_of list_counts devices_counts host_counts router_counts device_counts link_counts routes_of in_range new_name place_among place_named route_named routes_named router_named end_named link_named wire_named named_network route_to devices_tested links_tested scripts_tested unless_found
no_links = refl

-- an id above 31
large_id : bundle_of (codes "{\"version\":1,\"hosts\":[{\"name\":\"h\",\"id\":32,\"script\":[\"rd 0 0 1\"]}],\"routers\":[{\"name\":\"r\",\"routes\":{\"m\":\"b\"}}],\"devices\":[{\"name\":\"m\",\"base\":\"0\",\"pages\":1}],\"links\":[{\"name\":\"a\",\"from\":\"h\",\"to\":\"r\",\"width\":32,\"capacity\":1},{\"name\":\"b\",\"from\":\"r\",\"to\":\"m\",\"width\":32,\"capacity\":1}]}") ≡ Err (faults.Count (codes "hosts[0].id"))
unfolding serde_json_on_literals hex_on_literals is_utf8 chars digits required optional only_fields an_object object_with numeral_in bytes_in host_fields router_fields device_fields link_fields bundle_fields list_of list_counts devices_counts host_counts router_counts device_counts link_counts routes_of in_range new_name place_among place_named route_named routes_named router_named end_named link_named wire_named named_network route_to devices_tested links_tested scripts_tested unless_found
large_id = refl

-- a route for a device that isn't there
no_device : bundle_of (codes "{\"version\":1,\"hosts\":[{\"name\":\"h\",\"id\":0,\"script\":[\"rd 0 0 1\"]}],\"routers\":[{\"name\":\"r\",\"routes\":{\"m\":\"b\",\"z\":\"b\"}}],\"devices\":[{\"name\":\"m\",\"base\":\"0\",\"pages\":1}],\"links\":[{\"name\":\"a\",\"from\":\"h\",\"to\":\"r\",\"width\":32,\"capacity\":1},{\"name\":\"b\",\"from\":\"r\",\"to\":\"m\",\"width\":32,\"capacity\":1}]}") ≡ Err (faults.Name (codes "routers[0].routes.z"))
unfolding serde_json_on_literals hex_on_literals is_utf8 chars digits required optional only_fields an_object object_with numeral_in bytes_in host_fields router_fields device_fields link_fields bundle_fields list_of list_counts devices_counts host_counts router_counts device_counts link_counts routes_of in_range new_name place_among place_named route_named routes_named router_named end_named link_named wire_named named_network route_to devices_tested links_tested scripts_tested unless_found
no_device = refl

-- two hosts with one id
same_id : bundle_of (codes "{\"version\":1,\"hosts\":[{\"name\":\"h\",\"id\":0,\"script\":[\"rd 0 0 1\"]},{\"name\":\"i\",\"id\":0,\"script\":[]}],\"routers\":[{\"name\":\"r\",\"routes\":{\"m\":\"b\"}}],\"devices\":[{\"name\":\"m\",\"base\":\"0\",\"pages\":1}],\"links\":[{\"name\":\"a\",\"from\":\"h\",\"to\":\"r\",\"width\":32,\"capacity\":1},{\"name\":\"b\",\"from\":\"r\",\"to\":\"m\",\"width\":32,\"capacity\":1}]}") ≡ Err (faults.HostId 1)
unfolding serde_json_on_literals hex_on_literals is_utf8 chars digits required optional only_fields an_object object_with numeral_in bytes_in host_fields router_fields device_fields link_fields bundle_fields list_of list_counts devices_counts host_counts router_counts device_counts link_counts routes_of in_range new_name place_among place_named route_named routes_named router_named end_named link_named wire_named named_network route_to devices_tested links_tested scripts_tested unless_found
same_id = refl

-- a device that doesn't begin with a page
odd_base : bundle_of (codes "{\"version\":1,\"hosts\":[{\"name\":\"h\",\"id\":0,\"script\":[\"rd 0 0 1\"]}],\"routers\":[{\"name\":\"r\",\"routes\":{\"m\":\"b\"}}],\"devices\":[{\"name\":\"m\",\"base\":\"1\",\"pages\":1}],\"links\":[{\"name\":\"a\",\"from\":\"h\",\"to\":\"r\",\"width\":32,\"capacity\":1},{\"name\":\"b\",\"from\":\"r\",\"to\":\"m\",\"width\":32,\"capacity\":1}]}") ≡ Err (faults.Range 0)
unfolding serde_json_on_literals hex_on_literals is_utf8 chars digits required optional only_fields an_object object_with numeral_in bytes_in host_fields router_fields device_fields link_fields bundle_fields list_of list_counts devices_counts host_counts router_counts device_counts link_counts routes_of in_range new_name place_among place_named route_named routes_named router_named end_named link_named wire_named named_network route_to devices_tested links_tested scripts_tested unless_found
odd_base = refl

-- two devices at one place
one_place : bundle_of (codes "{\"version\":1,\"hosts\":[{\"name\":\"h\",\"id\":0,\"script\":[\"rd 0 0 1\"]}],\"routers\":[{\"name\":\"r\",\"routes\":{\"m\":\"b\"}}],\"devices\":[{\"name\":\"m\",\"base\":\"0\",\"pages\":1},{\"name\":\"n\",\"base\":\"0\",\"pages\":1}],\"links\":[{\"name\":\"a\",\"from\":\"h\",\"to\":\"r\",\"width\":32,\"capacity\":1},{\"name\":\"b\",\"from\":\"r\",\"to\":\"m\",\"width\":32,\"capacity\":1}]}") ≡ Err (faults.Overlap 1 0)
unfolding serde_json_on_literals hex_on_literals is_utf8 chars digits required optional only_fields an_object object_with numeral_in bytes_in host_fields router_fields device_fields link_fields bundle_fields list_of list_counts devices_counts host_counts router_counts device_counts link_counts routes_of in_range new_name place_among place_named route_named routes_named router_named end_named link_named wire_named named_network route_to devices_tested links_tested scripts_tested unless_found
one_place = refl

-- a width that links don't have
odd_width_of_b : bundle_of (codes "{\"version\":1,\"hosts\":[{\"name\":\"h\",\"id\":0,\"script\":[\"rd 0 0 1\"]}],\"routers\":[{\"name\":\"r\",\"routes\":{\"m\":\"b\"}}],\"devices\":[{\"name\":\"m\",\"base\":\"0\",\"pages\":1}],\"links\":[{\"name\":\"a\",\"from\":\"h\",\"to\":\"r\",\"width\":32,\"capacity\":1},{\"name\":\"b\",\"from\":\"r\",\"to\":\"m\",\"width\":12,\"capacity\":1}]}") ≡ Err (faults.Width 1)
unfolding serde_json_on_literals hex_on_literals is_utf8 chars digits required optional only_fields an_object object_with numeral_in bytes_in host_fields router_fields device_fields link_fields bundle_fields list_of list_counts devices_counts host_counts router_counts device_counts link_counts routes_of in_range new_name place_among place_named route_named routes_named router_named end_named link_named wire_named named_network route_to devices_tested links_tested scripts_tested unless_found
odd_width_of_b = refl

-- a link from a host to a device
host_to_device : bundle_of (codes "{\"version\":1,\"hosts\":[{\"name\":\"h\",\"id\":0,\"script\":[\"rd 0 0 1\"]}],\"routers\":[{\"name\":\"r\",\"routes\":{\"m\":\"b\"}}],\"devices\":[{\"name\":\"m\",\"base\":\"0\",\"pages\":1}],\"links\":[{\"name\":\"a\",\"from\":\"h\",\"to\":\"m\",\"width\":32,\"capacity\":1},{\"name\":\"b\",\"from\":\"r\",\"to\":\"m\",\"width\":32,\"capacity\":1}]}") ≡ Err (faults.End 0)
unfolding serde_json_on_literals hex_on_literals is_utf8 chars digits required optional only_fields an_object object_with numeral_in bytes_in host_fields router_fields device_fields link_fields bundle_fields list_of list_counts devices_counts host_counts router_counts device_counts link_counts routes_of in_range new_name place_among place_named route_named routes_named router_named end_named link_named wire_named named_network route_to devices_tested links_tested scripts_tested unless_found
host_to_device = refl

-- a link from a router to itself
to_itself : bundle_of (codes "{\"version\":1,\"hosts\":[{\"name\":\"h\",\"id\":0,\"script\":[\"rd 0 0 1\"]}],\"routers\":[{\"name\":\"r\",\"routes\":{\"m\":\"b\"}}],\"devices\":[{\"name\":\"m\",\"base\":\"0\",\"pages\":1}],\"links\":[{\"name\":\"a\",\"from\":\"h\",\"to\":\"r\",\"width\":32,\"capacity\":1},{\"name\":\"b\",\"from\":\"r\",\"to\":\"m\",\"width\":32,\"capacity\":1},{\"name\":\"c\",\"from\":\"r\",\"to\":\"r\",\"width\":32,\"capacity\":1}]}") ≡ Err (faults.Backward 2)
unfolding serde_json_on_literals hex_on_literals is_utf8 chars digits required optional only_fields an_object object_with numeral_in bytes_in host_fields router_fields device_fields link_fields bundle_fields list_of list_counts devices_counts host_counts router_counts device_counts link_counts routes_of in_range new_name place_among place_named route_named routes_named router_named end_named link_named wire_named named_network route_to devices_tested links_tested scripts_tested unless_found
to_itself = refl

-- a device without a link
no_link_to_it : bundle_of (codes "{\"version\":1,\"hosts\":[{\"name\":\"h\",\"id\":0,\"script\":[\"rd 0 0 1\"]}],\"routers\":[{\"name\":\"r\",\"routes\":{\"m\":\"b\"}}],\"devices\":[{\"name\":\"m\",\"base\":\"0\",\"pages\":1},{\"name\":\"n\",\"base\":\"4096\",\"pages\":1}],\"links\":[{\"name\":\"a\",\"from\":\"h\",\"to\":\"r\",\"width\":32,\"capacity\":1},{\"name\":\"b\",\"from\":\"r\",\"to\":\"m\",\"width\":32,\"capacity\":1}]}") ≡ Err (faults.Unlinked (Device 1))
unfolding serde_json_on_literals hex_on_literals is_utf8 chars digits required optional only_fields an_object object_with numeral_in bytes_in host_fields router_fields device_fields link_fields bundle_fields list_of list_counts devices_counts host_counts router_counts device_counts link_counts routes_of in_range new_name place_among place_named route_named routes_named router_named end_named link_named wire_named named_network route_to devices_tested links_tested scripts_tested unless_found
no_link_to_it = refl

-- a line with a fault
no_words : bundle_of (codes "{\"version\":1,\"hosts\":[{\"name\":\"h\",\"id\":0,\"script\":[\"\",\"rd 0 0 0\"]}],\"routers\":[{\"name\":\"r\",\"routes\":{\"m\":\"b\"}}],\"devices\":[{\"name\":\"m\",\"base\":\"0\",\"pages\":1}],\"links\":[{\"name\":\"a\",\"from\":\"h\",\"to\":\"r\",\"width\":32,\"capacity\":1},{\"name\":\"b\",\"from\":\"r\",\"to\":\"m\",\"width\":32,\"capacity\":1}]}") ≡ Err (faults.Script 0 2 line_faults.Length)
unfolding serde_json_on_literals hex_on_literals is_utf8 chars digits required optional only_fields an_object object_with numeral_in bytes_in host_fields router_fields device_fields link_fields bundle_fields list_of list_counts devices_counts host_counts router_counts device_counts link_counts routes_of in_range new_name place_among place_named route_named routes_named router_named end_named link_named wire_named named_network route_to devices_tested links_tested scripts_tested unless_found
no_words = refl

-- no route where a host aims
no_route : bundle_of (codes "{\"version\":1,\"hosts\":[{\"name\":\"h\",\"id\":0,\"script\":[\"rd 0 0 1\"]}],\"routers\":[{\"name\":\"r\",\"routes\":{}}],\"devices\":[{\"name\":\"m\",\"base\":\"0\",\"pages\":1}],\"links\":[{\"name\":\"a\",\"from\":\"h\",\"to\":\"r\",\"width\":32,\"capacity\":1},{\"name\":\"b\",\"from\":\"r\",\"to\":\"m\",\"width\":32,\"capacity\":1}]}") ≡ Err (faults.Route 0 0)
unfolding serde_json_on_literals hex_on_literals is_utf8 chars digits required optional only_fields an_object object_with numeral_in bytes_in host_fields router_fields device_fields link_fields bundle_fields list_of list_counts devices_counts host_counts router_counts device_counts link_counts routes_of in_range new_name place_among place_named route_named routes_named router_named end_named link_named wire_named named_network route_to devices_tested links_tested scripts_tested unless_found
no_route = refl

-- the example network
example : bundle_of (codes "{\"version\":1,\"hosts\":[{\"name\":\"cpu0\",\"id\":0,\"script\":[\"wr 0x10000 3 000102030405060708090a0b0c0d0e0f101112131415161718191a1b1c1d1e1f\",\"rd 0x10000 3 4\",\"wp 0x20010 2 aabbccdd\",\"rd 0x20010 2 1\",\"add 0x30000 3 0100000000000000\"]},{\"name\":\"cpu1\",\"id\":1,\"qos\":3,\"script\":[\"swap 0x30008 2 78563412\",\"wr 0x40000 0 ff\",\"rd 0x40000 0 4\",\"rd 0x50000 1 2\",\"maxu 0x30008 2 00000080\"]}],\"routers\":[{\"name\":\"r0\",\"routes\":{\"m0\":\"l2\",\"m1\":\"l2\",\"m2\":\"l3\",\"rom\":\"l3\"}},{\"name\":\"r1\",\"routes\":{\"m0\":\"l4\",\"m1\":\"l5\"}},{\"name\":\"r2\",\"side\":1,\"routes\":{\"m2\":\"l6\",\"rom\":\"l7\"}}],\"devices\":[{\"name\":\"m0\",\"base\":\"0x10000\",\"pages\":1},{\"name\":\"m1\",\"base\":\"0x20000\",\"pages\":1},{\"name\":\"m2\",\"base\":\"0x30000\",\"pages\":1},{\"name\":\"rom\",\"base\":\"0x40000\",\"pages\":1,\"readonly\":true,\"image\":\"deadbeef\"}],\"links\":[{\"name\":\"l0\",\"from\":\"cpu0\",\"to\":\"r0\",\"width\":32,\"capacity\":8},{\"name\":\"l1\",\"from\":\"cpu1\",\"to\":\"r0\",\"width\":16,\"capacity\":4},{\"name\":\"l2\",\"from\":\"r0\",\"to\":\"r1\",\"width\":16,\"capacity\":4},{\"name\":\"l3\",\"from\":\"r0\",\"to\":\"r2\",\"width\":8,\"capacity\":2},{\"name\":\"l4\",\"from\":\"r1\",\"to\":\"m0\",\"width\":32,\"capacity\":8},{\"name\":\"l5\",\"from\":\"r1\",\"to\":\"m1\",\"width\":8,\"capacity\":2},{\"name\":\"l6\",\"from\":\"r2\",\"to\":\"m2\",\"width\":16,\"capacity\":1},{\"name\":\"l7\",\"from\":\"r2\",\"to\":\"rom\",\"width\":8,\"capacity\":1}],\"wire\":\"l3\"}") ≡ Ok wired
unfolding serde_json_on_literals hex_on_literals is_utf8 chars digits required optional only_fields an_object object_with numeral_in bytes_in host_fields router_fields device_fields link_fields bundle_fields list_of list_counts devices_counts host_counts router_counts device_counts link_counts routes_of in_range new_name place_among place_named route_named routes_named router_named end_named link_named wire_named named_network route_to devices_tested links_tested scripts_tested unless_found
example = refl
