-- Bytes put behind all others are added to the body of the next outcome, and the outcomes before it stay as they are.
use Rattle.std.proofs.Common.{◌≡◌, ◌≤◌, ◌-◌, ◌++◌, length, arith}
use Rattle.std.proofs.lemmas.Grind.{common_steps}
use Rattle.sb_solo.proofs.RowLemmas.{collected_more}
use Rattle.sb_solo.proofs.outcomes.Outcomes.add.Goals as goal

pub returns : goal.returns
returns c =
    let m = c.self.inside in
    let more = c.args.bytes.now in
    let items : c.extend_from_slice.new.self.items ≡ m.bytes.items ++ more = grind (arith, common_steps) in
    let within : m.start ≤ length m.bytes.items = grind (arith, common_steps) in
    rw (← c.self.view_is) (rw items (collected_more m.rows.items m.bytes.items more m.start m.spare_rows (m.spare_bytes - length more) within c.self.invariant.3))
