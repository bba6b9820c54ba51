-- What the code holds of a bundle's text: as its fields are read, and with its numbers narrowed once they are known to be in range.
use Rattle.std.specs.Prelude.{map, option_map}
use Rattle.sb_fields.specs.Written.{WrittenBundle, WrittenDevice, WrittenHost, WrittenLink, WrittenRoute, WrittenRouter}
use Rattle.sb_fields.specs.declared.texts.HostText.{HostText}
use Rattle.sb_fields.specs.declared.texts.RouteText.{RouteText}
use Rattle.sb_fields.specs.declared.texts.RouterText.{RouterText}
use Rattle.sb_fields.specs.declared.texts.DeviceText.{DeviceText}
use Rattle.sb_fields.specs.declared.texts.LinkText.{LinkText}
use Rattle.sb_fields.specs.declared.texts.BundleText.{BundleText}

abbrev pub written_host : HostText → WrittenHost
written_host h = record { name = h.name.now; id = h.id; qos = h.qos; prot = h.prot; script = map (λ line. line.now) h.script.items }

abbrev pub written_route : RouteText → WrittenRoute
written_route r = record { device = r.device.now; link = r.link.now }

abbrev pub written_router : RouterText → WrittenRouter
written_router r = record { name = r.name.now; side = r.side; routes = map written_route r.routes.items }

abbrev pub written_device : DeviceText → WrittenDevice
written_device d = record { name = d.name.now; base = d.base; pages = d.pages; readonly = d.readonly; image = d.image.items }

abbrev pub written_link : LinkText → WrittenLink
written_link l = record { name = l.name.now; from = l.from.now; to = l.to.now; width = l.width; capacity = l.capacity }

abbrev pub written_bundle : BundleText → WrittenBundle
written_bundle b = record {
  version = b.version;
  hosts = map written_host b.hosts.items;
  routers = map written_router b.routers.items;
  devices = map written_device b.devices.items;
  links = map written_link b.links.items;
  wire = option_map (λ name. name.now) b.wire;
}
