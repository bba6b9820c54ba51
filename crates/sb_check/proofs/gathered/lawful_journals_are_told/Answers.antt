-- Transaction by transaction, and device by device.
use Rattle.sb_check.proofs.GatheredResults.{gathered_fit, gathered_tells}
use Rattle.sb_check.proofs.gathered.lawful_journals_are_told.Goals as goal

pub returns : goal.returns
returns c = record {
  told = λ network journal gathered good gathers lawful. (gathered_tells network journal gathered good gathers lawful).0;
  fits = λ network journal gathered good gathers. gathered_fit network journal gathered good gathers;
}
