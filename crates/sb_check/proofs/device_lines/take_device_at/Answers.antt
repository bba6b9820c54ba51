-- The device that was read is the one at that place.
use Rattle.std.proofs.Common.{◌≡◌, ◌<◌, ◌≤◌, ◌∙◌, [], ℕ, ap, sym, arith, get_or, length}
use Rattle.std.proofs.lemmas.List.{length-map}
use Rattle.sb_packet.specs.Answers.{RunResults}
use Rattle.sb_flow.specs.NetworkOf.{network_of}
use Rattle.sb_flow.specs.Rows.{device_of}
use Rattle.sb_flow.specs.declared.bundle.Bundle.{Bundle}
use Rattle.sb_flow.specs.declared.device_plan.DevicePlan.{DevicePlan}
use Rattle.sb_flow.proofs.Maps.{read_there}
use Rattle.sb_text.specs.Told.{FitsNetwork}
use Rattle.sb_text.specs.Reports.{device_lines}
use Rattle.sb_text.proofs.ToldLemmas.{image_few, images_told, read_at}
use Rattle.sb_check.proofs.CompareLemmas.{compared_as}
use Rattle.sb_check.proofs.device_lines.take_device_at.Goals as goal

-- there is an image of each device
has_image : (b : Bundle) (told : RunResults) (k : ℕ) → FitsNetwork (network_of b) told → k < length b.devices.items → k < length told.images
has_image b told k fits there = omega (arith, there, images_told (network_of b) told fits, length-map b.devices.items device_of)

pub take_device-requires : goal.take_device-requires
take_device-requires g c =
    let b = c.args.bundle.now in
    let told = c.requires.told.0 in
    let tells = c.requires.told.1 in
    let row = c.index.result.now in
    let at = read_at b.devices.items c.from.result c.args.device row c.index.ensures c.from.ensures in
    let few : length (get_or told.images c.args.device []) ≤ 1048576 = image_few b told c.args.device row tells.fits c.requires.there at in
    omega (arith, few, ap length (c.image.ensures.image told tells.tells (has_image b told c.args.device tells.fits c.requires.there)))

pub returns : goal.returns
returns g c = record {
  compared = λ told none tells.
      let b = c.args.bundle.now in
      let items = b.devices.items in
      let row = c.index.result.now in
      let at = read_at items c.from.result c.args.device row c.index.ensures c.from.ensures in
      let bytes = get_or told.images c.args.device [] in
      let image : bytes ≡ c.image.result.now = c.image.ensures.image told tells.tells (has_image b told c.args.device tells.fits c.requires.there) in
      let same : device_lines (device_of row) c.image.result.now ≡ device_lines (device_of (get_or items c.args.device none)) bytes =
      ap (device_lines (device_of row)) (sym image) ∙ ap (λ (r : DevicePlan). device_lines (device_of r) bytes) (sym (read_there items c.args.device row none c.requires.there at)) in
      compared_as c.take_device.result _ _ _ _ same c.take_device.ensures.compared;
}
