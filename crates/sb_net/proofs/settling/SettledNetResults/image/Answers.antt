-- The settled network tells the bytes of each device.
use Rattle.std.proofs.Common.{◌≡◌, ◌<◌, ℕ, List, [], length, ap, subst, ◌∙◌, arith}
use Rattle.std.specs.Prelude.{map, slice_index_or}
use Rattle.std.specs.List.{range_with_len}
use Rattle.std.proofs.lemmas.List.FromFn.{get_or-map-range_with_len, length-map-range_with_len}
use Rattle.sb_packet.specs.Answers.{RunResults, final_memory, run_results}
use Rattle.sb_packet.specs.Networks.{Network}
use Rattle.sb_packet.specs.declared.entry.Entry.{Entry}
use Rattle.sb_net.proofs.settling.SettledNetResults.image.Goals as goal

image_in : (network : Network) (journal : List Entry) (d : ℕ) (results : RunResults) → results ≡ run_results network journal → d < length results.images → d < length network.devices
image_in network journal d results same lt =
    omega (arith, subst (λ (r : RunResults). d < length r.images) same lt, length-map-range_with_len (λ d. (final_memory network journal d).bytes) 0 (length network.devices))

pub image-requires : goal.image-requires
image-requires c =
    let tells = c.requires.there.1 in
    let count = tells.2.devices_count in
    let lt = image_in tells.0 tells.1 c.args.device c.requires.there.0 tells.3 c.requires.there.2 in
    omega (arith, lt, count)

pub returns : goal.returns
returns c = record {
  image = λ told tells has.
      let lt = image_in tells.0 tells.1 c.args.device told tells.3 has in
      ap (λ (r : RunResults). slice_index_or r.images c.args.device []) tells.3
      ∙ get_or-map-range_with_len (λ d. (final_memory tells.0 tells.1 d).bytes) 0 (length tells.0.devices) c.args.device c.args.device [] lt (omega arith)
      ∙ c.image.ensures.image tells.0 tells.1 tells.2;
}
