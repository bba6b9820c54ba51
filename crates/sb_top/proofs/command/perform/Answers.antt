-- What was written of a judgement leaves nothing beside it.
use Rattle.std.proofs.Common.{inl, inr}
use Rattle.sb_top.specs.BundleRuns.{IsUntouched, effects_in}
use Rattle.sb_top.proofs.command.perform.Goals as goal

pub returns-in-Check-clause-part : goal.returns-in-Check-clause-part
returns-in-Check-clause-part g c = λ five.
    let wrote = c.judge.ensures.part five in
    let untouched : IsUntouched (effects_in g.F.Fabric c.args.fabric.now c.args.journal.now.entries) = record { no_entry = c.requires.empty; no_ring = c.requires.unused } in
    rw c.in-Check.is (record {
      text = wrote.text;
      is = elim wrote.is [
        | inl approved ↦ inl (approved, untouched)
        | inr other ↦ inr (other, untouched)
      ];
      part = wrote.part;
    })
