-- The text that is written, whole or in part, is the report of the script's own journal, and that journal is lawful.
use Rattle.std.proofs.Common.{inl, inr, refl}
use Rattle.sb_solo.proofs.SoloLawful.{solo_lawful}
use Rattle.sb_top.proofs.solo_command.solo.Goals as goal

pub returns-in-Ok-clause-done : goal.returns-in-Ok-clause-done
returns-in-Ok-clause-done g c = λ zero.
    let script = c.in-Ok.script in
    let packets = c.report.ensures.packets (inl zero) in record {
      text = _;
      is = record { script = script; spelled = c.in-Ok.ensures.value; packets = packets; lawful = solo_lawful script _ c.in-Ok.ensures.transactions packets; printed = refl };
      gained = c.report.ensures.done zero;
    }

pub returns-in-Ok-clause-part : goal.returns-in-Ok-clause-part
returns-in-Ok-clause-part g c = λ five.
    let script = c.in-Ok.script in
    let packets = c.report.ensures.packets (inr five) in record {
      text = _;
      is = inl (record { script = script; spelled = c.in-Ok.ensures.value; packets = packets; lawful = solo_lawful script _ c.in-Ok.ensures.transactions packets; printed = refl });
      part = c.report.ensures.part five;
    }
