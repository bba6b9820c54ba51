-- The device is printed, or left out.
use Rattle.std.proofs.Common.{◌≡◌, ◌<◌, ◌≤◌, ◌∙◌, [], ℕ, Bool, ap, sym, arith, get_or, length}
use Rattle.std.specs.Prelude.{if◌then◌else◌}
use Rattle.std.proofs.lemmas.List.{length-map}
use Rattle.sb_packet.specs.Answers.{RunResults}
use Rattle.sb_flow.specs.NetworkOf.{network_of}
use Rattle.sb_flow.specs.Rows.{device_of}
use Rattle.sb_flow.specs.declared.bundle.Bundle.{Bundle}
use Rattle.sb_flow.specs.declared.device_plan.DevicePlan.{DevicePlan}
use Rattle.sb_flow.proofs.Maps.{read_there}
use Rattle.sb_text.specs.Told.{FitsNetwork}
use Rattle.sb_text.specs.Reports.{device_lines}
use Rattle.sb_text.proofs.PrintLemmas.{printed_as}
use Rattle.sb_text.proofs.ToldLemmas.{image_few, images_told, read_at}
use Rattle.sb_text.proofs.report.devices.print_device_part.Goals as goal

-- there is an image of each device
has_image : (b : Bundle) (told : RunResults) (k : ℕ) → FitsNetwork (network_of b) told → k < length b.devices.items → k < length told.images
has_image b told k fits there = omega (arith, there, images_told (network_of b) told fits, length-map b.devices.items device_of)

pub print_device-requires : goal.print_device-requires
print_device-requires g c =
    let b = c.args.bundle.now in
    let told = c.requires.told.0 in
    let tells = c.requires.told.1 in
    let row = c.index.result.now in
    let at = read_at b.devices.items c.from.result c.args.device row c.index.ensures c.from.ensures in
    let few : length (get_or told.images c.args.device []) ≤ 1048576 = image_few b told c.args.device row tells.fits c.requires.there at in
    omega (arith, few, ap length (c.image.ensures.image told tells.tells (has_image b told c.args.device tells.fits c.requires.there)))

pub returns-then-shows_device : goal.returns-then-shows_device
returns-then-shows_device g c = record {
  printed = λ told none tells.
      let b = c.args.bundle.now in
      let items = b.devices.items in
      let row = c.index.result.now in
      let at = read_at items c.from.result c.args.device row c.index.ensures c.from.ensures in
      let bytes = get_or told.images c.args.device [] in
      let image : bytes ≡ c.image.result.now = c.image.ensures.image told tells.tells (has_image b told c.args.device tells.fits c.requires.there) in
      let same : device_lines (device_of row) c.image.result.now ≡ device_lines (device_of (get_or items c.args.device none)) bytes =
      ap (device_lines (device_of row)) (sym image) ∙ ap (λ (r : DevicePlan). device_lines (device_of r) bytes) (sym (read_there items c.args.device row none c.requires.there at)) in
      let shown = ap (λ (s : Bool). if s then device_lines (device_of (get_or items c.args.device none)) bytes else []) (sym c.if-shows_device.true ∙ c.shows_device.ensures) in
      printed_as g.K.Sink c.print_device.result _ _ _ _ _ _ (same ∙ shown) c.print_device.ensures.printed;
}
