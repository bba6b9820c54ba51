-- What is told of a bundle's hosts and devices, by their places.
use Rattle.std.proofs.Common.{◌≡◌, ◌≤◌, ◌<◌, ◌*◌, ℕ, zero, suc, Bool, true, false, List, [], ◌∷◌, ap, sym, ◌∙◌, subst, arith, length, map, get_or}
use Rattle.std.specs.Prelude.{nat_le, ◌&&◌}
use Rattle.std.specs.List.{list_all}
use Rattle.std.proofs.lemmas.Bool.{and_parts, leb-true}
use Rattle.std.proofs.Math.ListN.{get_or-map as get_or-map-both}
use Rattle.std.proofs.lemmas.List.{get_or-map, length-map}
use Rattle.sb_packet.specs.Networks.{NetDevice, NetHost, Network, device_size}
use Rattle.sb_packet.specs.Answers.{RunResults}
use Rattle.sb_flow.specs.Accepted.{is_limited, is_limited_device, is_limited_host}
use Rattle.sb_flow.specs.NetworkOf.{network_of}
use Rattle.sb_flow.specs.Rows.{device_of, host_of}
use Rattle.sb_flow.specs.declared.bundle.Bundle.{Bundle}
use Rattle.sb_flow.specs.declared.host_plan.HostPlan.{HostPlan}
use Rattle.sb_flow.specs.declared.device_plan.DevicePlan.{DevicePlan}
use Rattle.sb_flow.proofs.Bundles.{device_there, host_of_network}
use Rattle.sb_text.specs.Told.{FitsNetwork}

-- an item was read at a place, by another name of the place
pub read_at : {A : Type 0} (xs : List A) (n k : ℕ) (x : A) → x ≡ get_or xs n x → n ≡ k → x ≡ get_or xs k x
read_at xs n k x at same = at ∙ ap (λ (m : ℕ). get_or xs m x) same

-- as many outcomes as the script of the host at that place has transactions
host_told : (network : Network) (told : RunResults) (h : ℕ) (d : NetHost) → FitsNetwork network told → h < length network.hosts → length (get_or network.hosts h d).script ≡ length (get_or told.outcomes h [])
host_told network told h d fits there =
    let counts : List NetHost → List ℕ = map (λ (x : NetHost). length x.script) in
    let many : h < length told.outcomes = omega (arith, length-map told.outcomes length, ap length fits.outcomes, length-map network.hosts (λ (x : NetHost). length x.script)) in
    sym (get_or-map (λ (x : NetHost). length x.script) network.hosts h d 0 there) ∙ ap (λ (xs : List ℕ). get_or xs h 0) (sym fits.outcomes) ∙ get_or-map length told.outcomes h [] 0 many

-- an image for each device
pub images_told : (network : Network) (told : RunResults) → FitsNetwork network told → length told.images ≡ length network.devices
images_told network told fits = omega (arith, length-map told.images length, ap length fits.images, length-map network.devices device_size)

-- as many bytes as the device at that place has
image_told : (network : Network) (told : RunResults) (k : ℕ) (d : NetDevice) → FitsNetwork network told → k < length network.devices → length (get_or told.images k []) ≡ device_size (get_or network.devices k d)
image_told network told k d fits there =
    let many : k < length told.images = omega (arith, images_told network told fits) in
    sym (get_or-map length told.images k [] 0 many) ∙ ap (λ (xs : List ℕ). get_or xs k 0) fits.images ∙ get_or-map device_size network.devices k d 0 there

-- all hosts and devices of a limited network are limited
host_limits : (network : Network) → is_limited network ≡ true → list_all is_limited_host network.hosts ≡ true
host_limits network h = grind (arith, h)

device_limits : (network : Network) → is_limited network ≡ true → list_all is_limited_device network.devices ≡ true
device_limits network h = grind (arith, h)

-- what passes at each item, passes at one
passes_there : {X : Type 0} (test : X → Bool) (xs : List X) (i : ℕ) (d : X) → list_all test xs ≡ true → i < length xs → test (get_or xs i d) ≡ true
passes_there test [] i d all there = absurd (omega arith)
passes_there test (x ∷ xs) zero d all there = (and_parts (test x) (list_all test xs) all).0
passes_there test (x ∷ xs) (suc i) d all there = passes_there test xs i d (and_parts (test x) (list_all test xs) all).1 (omega arith)

-- no script has more lines than may be
pub few_lines : (b : Bundle) (h : ℕ) (plan : HostPlan) → h < length b.hosts.items → plan ≡ get_or b.hosts.items h plan → length plan.script ≤ 65536
few_lines b h plan there at =
    let limited : is_limited_host (get_or (network_of b).hosts h (host_of plan)) ≡ true = passes_there is_limited_host (network_of b).hosts h (host_of plan) (host_limits (network_of b) b.limits) (omega (arith, length-map b.hosts.items host_of)) in
    let here : is_limited_host (host_of plan) ≡ true = subst (λ (x : NetHost). is_limited_host x ≡ true) (host_of_network b h plan ∙ ap host_of (sym at)) limited in
    let last = and_parts (nat_le plan.id 31 && nat_le plan.qos 15 && nat_le plan.prot 3) (nat_le (length plan.script) 65536) here in
    leb-true (length plan.script) 65536 last.1

-- no device has more pages than may be
few_pages : (b : Bundle) (k : ℕ) (row : DevicePlan) → k < length b.devices.items → row ≡ get_or b.devices.items k row → row.pages ≤ 256
few_pages b k row there at =
    let limited : is_limited_device (get_or (network_of b).devices k (device_of row)) ≡ true = passes_there is_limited_device (network_of b).devices k (device_of row) (device_limits (network_of b) b.limits) (omega (arith, length-map b.devices.items device_of)) in
    let here : is_limited_device (device_of row) ≡ true = subst (λ (x : NetDevice). is_limited_device x ≡ true) (device_there b k row (device_of row) there at) limited in
    leb-true row.pages 256 (and_parts (nat_le 1 row.pages) (nat_le row.pages 256) here).1

-- as many outcomes as the script that was read there has transactions
pub script_told : (b : Bundle) (told : RunResults) (h : ℕ) (plan : HostPlan) → FitsNetwork (network_of b) told → h < length b.hosts.items → plan ≡ get_or b.hosts.items h plan → length plan.script ≡ length (get_or told.outcomes h [])
script_told b told h plan fits there at =
    let row : get_or (network_of b).hosts h (host_of plan) ≡ host_of plan = host_of_network b h plan ∙ ap host_of (sym at) in
    ap (λ (x : NetHost). length x.script) (sym row) ∙ host_told (network_of b) told h (host_of plan) fits (omega (arith, there, length-map b.hosts.items host_of))

-- a device without a page, where one is wanted for what is missing
pub no_plan : DevicePlan
no_plan = record { name = []; base = 0; pages = 0; readonly = false; image = [] }

-- a device of the bundle is that of its network
pub device_of_network : (b : Bundle) (k : ℕ) (d : DevicePlan) → get_or (network_of b).devices k (device_of d) ≡ device_of (get_or b.devices.items k d)
device_of_network b k d = get_or-map-both device_of b.devices.items k d

-- as many bytes as may be, of the device that was read there
pub image_few : (b : Bundle) (told : RunResults) (k : ℕ) (row : DevicePlan) → FitsNetwork (network_of b) told → k < length b.devices.items → row ≡ get_or b.devices.items k row → length (get_or told.images k []) ≤ 1048576
image_few b told k row fits there at =
    let size : length (get_or told.images k []) ≡ row.pages * 4096 = image_told (network_of b) told k (device_of row) fits (omega (arith, there, length-map b.devices.items device_of)) ∙ ap device_size (device_there b k row (device_of row) there at) in
    omega (arith, size, few_pages b k row there at)
