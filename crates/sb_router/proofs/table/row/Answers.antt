-- row: one place after another.
use Rattle.std.proofs.Common.{ℕ, ◌<◌, ◌∙◌, Option, arith, refl, length, sym, ap}
use Rattle.std.proofs.lemmas.List.{length-set}
use Rattle.sb_flow.specs.NetworkOf.{network_of}
use Rattle.sb_router.specs.Ways.{place_on}
use Rattle.sb_router.proofs.Tables.{row_more, row_none, row_within}
use Rattle.sb_router.proofs.table.row.Goals as goal

pub loop-device-init : goal.loop-device-init
loop-device-init c = record { long = refl; places = λ k lt. absurd (omega arith); within = λ k o e. row_none 32 k o (length c.args.links.now) e }

pub loop-device-preserved : goal.loop-device-preserved
loop-device-preserved c =
    let inv = c.loop-device.invariant in
    let p : ℕ → Option ℕ = λ k. place_on (network_of c.args.bundle.now) c.args.up c.args.router c.args.links.now (record { host = c.args.host; device = k }) in
    let lt : c.from.result < length c.loop-device.row = omega (arith, c.from.ensures, c.loop-device-test.true, inv.long) in
    record {
      long = length-set c.loop-device.row c.from.result c.place_on.result ∙ inv.long;
      places = λ k below. row_more c.loop-device.row c.from.result c.place_on.result p lt (c.place_on.ensures.place ∙ ap p (sym c.from.ensures)) (λ j before. inv.places j (omega (arith, before, c.from.ensures))) k
          (omega (arith, below, c.from.ensures));
      within = row_within c.loop-device.row c.from.result (length c.args.links.now) c.place_on.result lt c.place_on.ensures.within inv.within;
    }
