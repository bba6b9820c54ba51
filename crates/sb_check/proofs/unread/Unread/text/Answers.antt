-- The front is another text.
use Rattle.std.proofs.Common.{arith}
use Rattle.std.proofs.lemmas.Slice.Eq.{bytes_eq-Decides}
use Rattle.sb_check.proofs.MatchLemmas.{differs_front}
use Rattle.sb_check.proofs.unread.Unread.text.Goals as goal

pub returns-then-not-are_same : goal.returns-then-not-are_same
returns-then-not-are_same c = record { matched = record { matched = tt; differs = differs_front c.args.text.now c.args.self.now.rest.now (λ is. let other = c.if-not-are_same.true in let front = c.split_at.ensures.front in let e = c.are_same.ensures in grind (arith, bytes_eq-Decides)) } }
