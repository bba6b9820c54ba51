-- A small network over two sides, for the tests of the printer.
use Rattle.std.specs.Prelude.{ℕ, List, [], ◌∷◌, codes, false, Some, None}
use Rattle.sb_packet.specs.Networks.{NetDevice, NetHost, NetLink, NetPlace, NetRouter, Network, at_device, at_host, at_router}
use Rattle.sb_packet.specs.Answers.{RunResults}
use Rattle.sb_packet.specs.declared.transaction.Code.TheVariants.{Ok}
use Rattle.sb_packet.specs.declared.transaction.Kind.TheVariants.{Posted, Read}
use Rattle.sb_packet.specs.declared.transaction.Txn.{Txn}
use Rattle.sb_packet.specs.declared.transaction.TxnState.TheVariants as states

-- a byte is written to the second device, posted, and a word is read from the first
abbrev pub side_script : List Txn
side_script = record { kind = Posted; size = 0; addr = 4104; count = 1; body = 9 ∷ [] } ∷ record { kind = Read; size = 3; addr = 16; count = 1; body = [] } ∷ []

abbrev pub side_hosts : List NetHost
side_hosts = record { name = codes "h"; id = 1; qos = 0; prot = 0; script = side_script } ∷ []

abbrev pub side_routers : List NetRouter
side_routers = record { name = codes "r0"; side = 0; routes = Some 1 ∷ Some 2 ∷ [] } ∷ record { name = codes "r1"; side = 1; routes = None ∷ Some 3 ∷ [] } ∷ []

abbrev pub side_device : List ℕ → ℕ → NetDevice
side_device name base = record { name = name; base = base; pages = 1; readonly = false; image = [] }

abbrev pub side_devices : List NetDevice
side_devices = side_device (codes "d0") 0 ∷ side_device (codes "d1") 4096 ∷ []

abbrev pub side_link : List ℕ → NetPlace → NetPlace → NetLink
side_link name from to = record { name = name; from = from; to = to; width = 32; capacity = 1 }

abbrev pub side_links : List NetLink
side_links = side_link (codes "l0") (at_host 0) (at_router 0) ∷ side_link (codes "l1") (at_router 0) (at_device 0) ∷ side_link (codes "l2") (at_router 0) (at_router 1) ∷ side_link (codes "l3") (at_router 1) (at_device 1) ∷ []

-- the host and the first device stand on side 0, and the second device on side 1
abbrev pub two_sides : Network
two_sides = record { hosts = side_hosts; routers = side_routers; devices = side_devices; links = side_links; wire = Some 2 }

-- results of it: the bytes that were read, and those of both devices
abbrev pub two_sides_results : List ℕ → List ℕ → List ℕ → RunResults
two_sides_results body first second = record {
  outcomes = (record { state = states.Posted; body = [] } ∷ record { state = states.Answered Ok; body = body } ∷ []) ∷ [];
  images = first ∷ second ∷ [];
}
