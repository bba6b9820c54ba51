-- Networks: hosts, routers, devices and the links between them, as plain lists, with their sides and names. A thing is named by its place in its list, from 0.
use Rattle.std.specs.Prelude.{ℕ, ◌+◌, ◌-◌, ◌*◌, Bool, ◌&&◌, ◌==◌, nat_le, nat_lt, List, [], ◌++◌, length, replicate, Option, slice_get, true, false, ◌≡◌, ◌≤◌, take, drop}
use Rattle.std.specs.List.{position_from, find}
use Rattle.std.specs.Option.{option_map_or}
use Rattle.std.proofs.Common.{refl, arith}
use Rattle.std.proofs.lemmas.List.{length-take, take-append-drop}
use Rattle.sb_packet.specs.Memories.{MemoryState}
use Rattle.sb_packet.specs.declared.transaction.Txn.{Txn}
use Rattle.sb_packet.specs.declared.name.Name.TheInside.{Inside}

-- a host: it issues the transactions of its script, with its own quality of service and protection
pub record NetHost : Type 0 where
  pub name : List ℕ
  -- its id in packets; no two hosts share one
  pub id : ℕ
  pub qos : ℕ
  pub prot : ℕ
  pub script : List Txn

-- a router: it hands on what arrives, by the device that it is for
pub record NetRouter : Type 0 where
  pub name : List ℕ
  -- 0 or 1: on which side of the wire it stands
  pub side : ℕ
  -- for each device, the link that leads on to it
  pub routes : List (Option ℕ)

-- a device: so many pages of memory from an address on, which begin with the image and zeros behind it
pub record NetDevice : Type 0 where
  pub name : List ℕ
  pub base : ℕ
  pub pages : ℕ
  pub readonly : Bool
  pub image : List ℕ

-- an end of a link
pub data NetPlace : Type 0 where
  at_host : ℕ → NetPlace
  at_router : ℕ → NetPlace
  at_device : ℕ → NetPlace

-- requests go from `from` to `to`, and answers back; a packet on it speaks of at most `width` bytes
pub record NetLink : Type 0 where
  pub name : List ℕ
  pub from : NetPlace
  pub to : NetPlace
  pub width : ℕ
  pub capacity : ℕ

-- a network, as its lists
pub record Network : Type 0 where
  pub hosts : List NetHost
  pub routers : List NetRouter
  pub devices : List NetDevice
  pub links : List NetLink
  -- the link that can be carried over a wire, by its place
  pub wire : Option ℕ

-- how many bytes a device has; a page has 4,096
abbrev pub device_size : NetDevice → ℕ
device_size d = d.pages * 4096

-- an address lies in a device's range
abbrev pub has_address : ℕ → NetDevice → Bool
has_address address d = nat_le d.base address && nat_lt address (d.base + device_size d)

-- The device that has an address, or none. It knows nothing of routes.
abbrev pub device_at : Network → ℕ → Option ℕ
device_at network address = position_from (has_address address) 0 network.devices

-- a device's memory before the first access: its image, and zeros behind it
abbrev pub opening_of : NetDevice → MemoryState
opening_of d = record { base = d.base; bytes = d.image ++ replicate (device_size d - length d.image) 0; readonly = d.readonly }

-- the same by the device's place; a place without a device has no byte, and refuses to be written
abbrev pub opening_memory : Network → ℕ → MemoryState
opening_memory network d = option_map_or opening_of (slice_get network.devices d) (record { base = 0; bytes = []; readonly = true })

-- a link leads to that device
abbrev pub leads_to : ℕ → NetLink → Bool
leads_to d link = is_device d link.to
  where
    is_device : ℕ → NetPlace → Bool
    is_device d (at_device k) = k == d
    is_device d (at_host k) = false
    is_device d (at_router k) = false

-- the width of the link that leads to a device, 0 where there is none
abbrev pub width_to : Network → ℕ → ℕ
width_to network d = option_map_or (λ link. link.width) (find (leads_to d) network.links) 0

-- On which side of the wire hosts and devices stand.

-- the side of a router, by a place that is one
abbrev pub side_at : Network → NetPlace → ℕ
side_at network (at_router r) = option_map_or (λ router. router.side) (slice_get network.routers r) 0
side_at network (at_host h) = 0
side_at network (at_device d) = 0

-- a link that leaves from host h
abbrev pub leaves_from : ℕ → NetLink → Bool
leaves_from h link = is_host h link.from
  where
    is_host : ℕ → NetPlace → Bool
    is_host h (at_host k) = k == h
    is_host h (at_router k) = false
    is_host h (at_device k) = false

-- a host stands on the side of the router that its link leads to
abbrev pub host_side : Network → ℕ → ℕ
host_side network h = option_map_or (λ link. side_at network link.to) (find (leaves_from h) network.links) 0

-- a device stands on the side of the router whose link leads to it
abbrev pub device_side : Network → ℕ → ℕ
device_side network d = option_map_or (λ link. side_at network link.from) (find (leads_to d) network.links) 0

-- A name gives its fields back: its bytes, and zeros up to 16.

-- up to 16 bytes with zeros behind them are what their text and its length make
pub padded_back : (n : Inside) → n.len ≤ 16 → length n.text ≡ 16 → drop n.len n.text ≡ replicate (16 - n.len) 0
    → record { text = take n.len n.text ++ replicate (16 - length (take n.len n.text)) 0; len = length (take n.len n.text) } ≡ n
padded_back n fits whole zeros =
    let long : length (take n.len n.text) ≡ n.len = simp length-take (omega arith) in
    rw (long, ← zeros, take-append-drop n.len n.text) refl
