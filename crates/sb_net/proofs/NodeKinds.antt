-- The host, the router or the device that a node is.
use Rattle.std.proofs.Common.{◌≡◌, ℕ, [], false, refl}
use Rattle.sb_packet.specs.Networks.{Network}
use Rattle.sb_host.specs.Hosts.{HostSide}
use Rattle.sb_router.specs.Lanes.{no_port, no_ring}
use Rattle.sb_router.specs.Routers.{RouterSide}
use Rattle.sb_device.specs.Sides.{DeviceSide}
use Rattle.sb_laws.specs.NodeSides.{IsHostBuiltFor}
use Rattle.sb_member.specs.declared.member.Member.{Member}
use Rattle.sb_member.specs.declared.member.Member.TheVariants.{Host, Router, Device}
use Rattle.sb_net.specs.Standing.{IsDeviceBuilt, IsDeviceNode, IsHostNode, IsRouterBuilt, IsRouterNode}

-- what stands for a node of another kind
abbrev no_host : HostSide
no_host = record {
  transactions = record { asked = record { id = 0; qos = 0; prot = 0; lines = [] }; rows = []; next = 0; part = 0; ended = false };
  requests = no_port;
  answers = no_ring;
}

abbrev no_router : RouterSide
no_router = record { requests = record { rows = []; lane = record { inlets = []; outlets = [] } }; answers = record { rows = []; lane = record { inlets = []; outlets = [] } } }

abbrev no_device : DeviceSide
no_device = record { number = 0; memory = record { base = 0; bytes = []; readonly = false }; journal = record { entries = []; spare = 0 }; requests = no_ring; answers = no_port }

module _ {F T U : Type 0} where
  abbrev pub host_of : Member F T U → HostSide
  host_of (Host h) = h
  host_of (Router r) = no_host
  host_of (Device d) = no_host

  abbrev pub router_of : Member F T U → RouterSide
  router_of (Host h) = no_router
  router_of (Router r) = r
  router_of (Device d) = no_router

  abbrev pub device_of : Member F T U → DeviceSide
  device_of (Host h) = no_device
  device_of (Router r) = no_device
  device_of (Device d) = d

  pub is_host : (network : Network) (place : ℕ) (m : Member F T U) → IsHostNode network place m → (m ≡ Host (host_of m)) × IsHostBuiltFor network place (host_of m)
  is_host network place (Host h) is = (refl, is)
  is_host network place (Router r) is = absurd is
  is_host network place (Device d) is = absurd is

  pub is_router : (network : Network) (place : ℕ) (m : Member F T U) → IsRouterNode network place m → (m ≡ Router (router_of m)) × IsRouterBuilt network place (router_of m)
  is_router network place (Host h) is = absurd is
  is_router network place (Router r) is = (refl, is)
  is_router network place (Device d) is = absurd is

  pub is_device : (network : Network) (place : ℕ) (m : Member F T U) → IsDeviceNode network place m → (m ≡ Device (device_of m)) × IsDeviceBuilt network place (device_of m)
  is_device network place (Host h) is = absurd is
  is_device network place (Router r) is = absurd is
  is_device network place (Device d) is = (refl, is)
