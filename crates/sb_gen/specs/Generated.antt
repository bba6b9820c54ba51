-- The network that a number makes: work to measure by. This project's own.
use Rattle.std.specs.Prelude.{ℕ, ◌*◌, List, [], ◌∷◌, map, codes, false, Option, Some, None}
use Rattle.std.specs.List.{range_with_len}
use Rattle.sb_packet.specs.Networks.{NetDevice, NetHost, NetLink, NetPlace, NetRouter, Network, at_device, at_host, at_router}
use Rattle.sb_packet.specs.declared.transaction.Txn.{Txn}
use Rattle.sb_gen.specs.Drawn.{drawn_transaction, draws_of, gen_base}

-- Transaction i of a number, counted over all hosts.
abbrev pub gen_transaction : ℕ → ℕ → Txn
gen_transaction number i = drawn_transaction (draws_of number i)

-- so many transactions of a number, from one on
unfoldable pub gen_transactions : ℕ → ℕ → ℕ → List Txn
gen_transactions number first count = map (gen_transaction number) (range_with_len first count)

-- each host has 2,048 transactions, behind those of the hosts before it
abbrev pub gen_script : ℕ → ℕ → List Txn
gen_script number h = gen_transactions number (2048 * h) 2048

-- four hosts
abbrev pub gen_host : ℕ → ℕ → List ℕ → NetHost
gen_host number h name = record { name = name; id = h; qos = 0; prot = 0; script = gen_script number h }

abbrev pub gen_hosts : ℕ → List NetHost
gen_hosts number = gen_host number 0 (codes "c0") ∷ gen_host number 1 (codes "c1") ∷ gen_host number 2 (codes "c2") ∷ gen_host number 3 (codes "c3") ∷ []

-- three routers, with the link that leads on to each device
abbrev pub gen_router : List ℕ → List (Option ℕ) → NetRouter
gen_router name routes = record { name = name; side = 0; routes = routes }

abbrev pub gen_routers : List NetRouter
gen_routers =
    gen_router (codes "r0") (Some 4 ∷ Some 4 ∷ Some 5 ∷ Some 5 ∷ [])
    ∷ gen_router (codes "r1") (Some 6 ∷ Some 7 ∷ None ∷ None ∷ [])
    ∷ gen_router (codes "r2") (None ∷ None ∷ Some 8 ∷ Some 9 ∷ []) ∷ []

-- four devices of 16 pages, which begin as zeros
abbrev pub gen_device : ℕ → List ℕ → NetDevice
gen_device k name = record { name = name; base = gen_base k; pages = 16; readonly = false; image = [] }

abbrev pub gen_devices : List NetDevice
gen_devices = gen_device 0 (codes "m0") ∷ gen_device 1 (codes "m1") ∷ gen_device 2 (codes "m2") ∷ gen_device 3 (codes "m3") ∷ []

-- ten links, of three widths
abbrev pub gen_link : List ℕ → NetPlace → NetPlace → ℕ → NetLink
gen_link name from to width = record { name = name; from = from; to = to; width = width; capacity = 8 }

abbrev pub gen_links : List NetLink
gen_links =
    gen_link (codes "l0") (at_host 0) (at_router 0) 32
    ∷ gen_link (codes "l1") (at_host 1) (at_router 0) 16
    ∷ gen_link (codes "l2") (at_host 2) (at_router 0) 32
    ∷ gen_link (codes "l3") (at_host 3) (at_router 0) 16
    ∷ gen_link (codes "l4") (at_router 0) (at_router 1) 16
    ∷ gen_link (codes "l5") (at_router 0) (at_router 2) 8
    ∷ gen_link (codes "l6") (at_router 1) (at_device 0) 32
    ∷ gen_link (codes "l7") (at_router 1) (at_device 1) 8
    ∷ gen_link (codes "l8") (at_router 2) (at_device 2) 16
    ∷ gen_link (codes "l9") (at_router 2) (at_device 3) 8 ∷ []

-- The network of a number.
abbrev pub gen_network : ℕ → Network
gen_network number = record { hosts = gen_hosts number; routers = gen_routers; devices = gen_devices; links = gen_links; wire = None }
