-- The memory of a row is that of the network's device.
use Rattle.std.proofs.Common.{◌<◌, ◌++◌, ◌-◌, ◌*◌, List, ℕ, length, replicate, sym, ap, ◌∙◌, arith}
use Rattle.std.proofs.lemmas.List.{length-map}
use Rattle.sb_flow.specs.NetworkOf.{network_of}
use Rattle.sb_flow.specs.Rows.{device_of}
use Rattle.sb_flow.proofs.Bundles.{accepted}
use Rattle.sb_check.proofs.OpeningMemories.{opened, paged_device, row_got}
use Rattle.sb_check.proofs.gathered.memory_of.Goals as goal

pub new-requires : goal.new-requires
new-requires c =
    let b = c.args.bundle.now in
    let row = c.index-plan.result.now in
    let there : c.args.number < length b.devices.items = let lt = c.requires.number in omega (arith, lt, length-map b.devices.items device_of) in
    let limits = paged_device (network_of b) c.args.number (device_of row) (accepted b) (row_got b c.args.number row there c.index-plan.ensures) in
    record {
      aligned = limits.aligned;
      some = limits.some;
      few = limits.few;
      in_range = limits.in_range;
      fits = let short = limits.fits in omega (arith, short, ap (λ (xs : List ℕ). length xs) c.as_slice.ensures);
    }

pub returns : goal.returns
returns c =
    let b = c.args.bundle.now in
    let row = c.index-plan.result.now in
    let there : c.args.number < length b.devices.items = let lt = c.requires.number in omega (arith, lt, length-map b.devices.items device_of) in
    let got = row_got b c.args.number row there c.index-plan.ensures in
    record {
      memory = c.in_ok-memory.ensures ∙ ap (λ (xs : List ℕ). record { base = row.base; bytes = xs ++ replicate (row.pages * 4096 - length xs) 0; readonly = row.readonly }) c.as_slice.ensures
          ∙ sym (opened (network_of b) c.args.number (device_of row) got);
    }
