-- A body's text has its digits and the end of the line.
use Rattle.std.proofs.Common.{◌<◌, arith}
use Rattle.sb_check.proofs.EntryLemmas.{body_digits, body_length}
use Rattle.sb_check.proofs.entry_line.body.Goals as goal

pub returns-then-text-carried-clause-only : goal.returns-then-text-carried-clause-only
returns-then-text-carried-clause-only c = λ bytes small long is.
    let few = c.if-text-carried.true in
    let some : 0 < c.args.carried = let not_none = c.if-carried-eq0.false in omega arith in
    absurd (omega (arith, few, body_length c.args.text.now bytes c.args.carried is long some))

pub returns-clause-only : goal.returns-clause-only
returns-clause-only c = λ bytes small long is.
    let some : 0 < c.args.carried = let not_none = c.if-carried-eq0.false in omega arith in
    c.decoded.ensures.only bytes small long (body_digits c.args.text.now bytes c.args.carried is long some)
