-- No text has more line feeds than bytes.
use Rattle.std.proofs.Common.{arith}
use Rattle.sb_check.proofs.CompareLemmas.{taken_few}
use Rattle.sb_check.proofs.closing_text.line_ends_before.Goals as goal

pub overflow_cast-result : goal.overflow_cast-result
overflow_cast-result c = let few = taken_few _ c.args.text.now c.line_end_count.result c.line_end_count.ensures in let short = c.requires.few in omega arith

pub returns-clause-few : goal.returns-clause-few
returns-clause-few c = taken_few _ c.args.text.now c.line_end_count.result c.line_end_count.ensures
