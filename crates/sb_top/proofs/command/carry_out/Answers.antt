-- Where a write fails, what was written is a first part of a report, a refusal or a rejection, or of the line for a long input.
use Rattle.std.proofs.Common.{◌≢◌, inl, inr, refl, arith}
use Rattle.sb_top.proofs.StatusLemmas.{was_failed}
use Rattle.sb_top.proofs.command.carry_out.Goals as goal

pub returns-in-Ok-clause-part : goal.returns-in-Ok-clause-part
returns-in-Ok-clause-part g c = λ five words asked.
    let wrote = rw c.as_slice.ensures.value at (c.perform.ensures.part five) in
    let input = c.in-Ok.input.items in
    record {
      text = wrote.text;
      is = inr (elim wrote.is [
        | inl ran ↦ inl (record { command = c.args.command; asked = asked; input = input; read = c.in-Ok.ensures.read; ran = ran })
        | inr other ↦ inr (elim other.0 [
          | inl refused ↦ inl (record { command = c.args.command; asked = asked; input = input; read = c.in-Ok.ensures.read; refused = refused; untouched = other.1 })
          | inr rejected ↦ inr (inl (record { command = c.args.command; asked = asked; input = input; read = c.in-Ok.ensures.read; rejected = rejected; untouched = other.1 }))
        ])
      ]);
      part = wrote.part;
    }

pub returns-in-Err-TooLong-clause-part : goal.returns-in-Err-TooLong-clause-part
returns-in-Err-TooLong-clause-part g c = λ five words asked.
    let other : 7 ≢ 5 = omega arith in
    let broken = was_failed c.print_line.result 7 c.status_of.result c.status_of.ensures.done other five in
    record {
      text = _;
      is = inr (inr (inr (inr (record {
        command = c.args.command;
        asked = asked;
        reads = c.in-Err-TooLong.ensures.reads;
        long = c.in-Err-TooLong.ensures.long (rw c.in-Err-TooLong.field-0-is refl);
        taken = c.in-Err-TooLong.ensures.taken (rw c.in-Err-TooLong.field-0-is refl);
        untouched = record { no_entry = c.requires.empty; no_ring = c.requires.unused };
        printed = refl;
      }))));
      part = c.print_line.ensures.part broken;
    }
