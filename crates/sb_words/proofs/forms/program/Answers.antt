-- One command after the other is added as it was told: a line for each, and the last one where the program is returned.
use Rattle.std.proofs.Common.{refl}
use Rattle.std.proofs.lemmas.Result.{IfOk-weaker}
use Rattle.sb_words.proofs.Plain.{added}
use Rattle.sb_words.proofs.forms.program.Goals as goal

pub returns : goal.returns
returns c =
    let solo = added _ _ _ _ _ c.in_ok-subcommand.ensures c.bare.ensures c.solo.ensures refl in
    let replay = added _ _ _ _ _ c.in_ok-subcommand-2.ensures solo c.in_ok-replay.ensures refl in
    let run = added _ _ _ _ _ c.in_ok-subcommand-3.ensures replay c.in_ok-run.ensures refl in
    let check = added _ _ _ _ _ c.in_ok-subcommand-4.ensures run c.check.ensures refl in
    IfOk-weaker c.subcommand-5.result _ _ (λ program last. added _ _ _ _ _ last check c.in_ok-gen_of_number.ensures refl) c.subcommand-5.ensures
