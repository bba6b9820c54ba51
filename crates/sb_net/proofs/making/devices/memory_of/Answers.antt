-- The memory of a row is that of the network's device.
use Rattle.std.proofs.Common.{◌<◌, ◌++◌, ◌-◌, ◌*◌, List, ℕ, length, sym, ap, ◌∙◌, arith}
use Rattle.std.specs.Prelude.{get_or, replicate}
use Rattle.std.proofs.lemmas.List.{length-map}
use Rattle.sb_flow.specs.NetworkOf.{network_of}
use Rattle.sb_flow.specs.Rows.{device_of}
use Rattle.sb_flow.proofs.Bundles.{accepted}
use Rattle.sb_net.proofs.DeviceMemories.{device_got, limited_device, opening_is}
use Rattle.sb_net.proofs.making.devices.memory_of.Goals as goal

pub new-requires-clause-aligned : goal.new-requires-clause-aligned
new-requires-clause-aligned c =
    let b = c.args.bundle.now in
    let network = network_of b in
    let row = c.index-plan.result.now in
    let there : c.args.number < length b.devices.items = let lt = c.requires.number in omega (arith, lt, length-map b.devices.items device_of) in
    let got = device_got b c.args.number row there (c.index-plan.ensures ∙ ap (λ i. get_or b.devices.items i row) c.from.ensures) in
    let limits = limited_device network c.args.number (device_of row) (accepted b) c.requires.number got in
    limits.aligned

pub new-requires-clause-some : goal.new-requires-clause-some
new-requires-clause-some c =
    let b = c.args.bundle.now in
    let network = network_of b in
    let row = c.index-plan.result.now in
    let there : c.args.number < length b.devices.items = let lt = c.requires.number in omega (arith, lt, length-map b.devices.items device_of) in
    let got = device_got b c.args.number row there (c.index-plan.ensures ∙ ap (λ i. get_or b.devices.items i row) c.from.ensures) in
    let limits = limited_device network c.args.number (device_of row) (accepted b) c.requires.number got in
    limits.some

pub new-requires-clause-few : goal.new-requires-clause-few
new-requires-clause-few c =
    let b = c.args.bundle.now in
    let network = network_of b in
    let row = c.index-plan.result.now in
    let there : c.args.number < length b.devices.items = let lt = c.requires.number in omega (arith, lt, length-map b.devices.items device_of) in
    let got = device_got b c.args.number row there (c.index-plan.ensures ∙ ap (λ i. get_or b.devices.items i row) c.from.ensures) in
    let limits = limited_device network c.args.number (device_of row) (accepted b) c.requires.number got in
    limits.few

pub new-requires-clause-in_range : goal.new-requires-clause-in_range
new-requires-clause-in_range c =
    let b = c.args.bundle.now in
    let network = network_of b in
    let row = c.index-plan.result.now in
    let there : c.args.number < length b.devices.items = let lt = c.requires.number in omega (arith, lt, length-map b.devices.items device_of) in
    let got = device_got b c.args.number row there (c.index-plan.ensures ∙ ap (λ i. get_or b.devices.items i row) c.from.ensures) in
    let limits = limited_device network c.args.number (device_of row) (accepted b) c.requires.number got in
    limits.in_range

pub new-requires-clause-fits : goal.new-requires-clause-fits
new-requires-clause-fits c =
    let b = c.args.bundle.now in
    let network = network_of b in
    let row = c.index-plan.result.now in
    let there : c.args.number < length b.devices.items = let lt = c.requires.number in omega (arith, lt, length-map b.devices.items device_of) in
    let got = device_got b c.args.number row there (c.index-plan.ensures ∙ ap (λ i. get_or b.devices.items i row) c.from.ensures) in
    let limits = limited_device network c.args.number (device_of row) (accepted b) c.requires.number got in
    let short = limits.fits in omega (arith, short, ap (λ (xs : List ℕ). length xs) c.as_slice.ensures)

pub returns : goal.returns
returns c =
    let b = c.args.bundle.now in
    let network = network_of b in
    let row = c.index-plan.result.now in
    let there : c.args.number < length b.devices.items = let lt = c.requires.number in omega (arith, lt, length-map b.devices.items device_of) in
    let got = device_got b c.args.number row there (c.index-plan.ensures ∙ ap (λ i. get_or b.devices.items i row) c.from.ensures) in
    let limits = limited_device network c.args.number (device_of row) (accepted b) c.requires.number got in
    record { memory = c.in_ok-memory.ensures ∙ ap (λ (xs : List ℕ). record { base = row.base; bytes = xs ++ replicate (row.pages * 4096 - length xs) 0; readonly = row.readonly }) c.as_slice.ensures ∙ sym (opening_is network c.args.number (device_of row) got) }
