-- The rule allows the step.
use Rattle.sb_places.proofs.Steps.{try_allowed}
use Rattle.std.proofs.Common.{arith}
use Rattle.sb_places.proofs.place.try_take.Goals as goal

pub compare_exchange-requires : goal.compare_exchange-requires
compare_exchange-requires g c = let r = c.requires.place in let h = c.requires.idle in (
  c.requires.places,
  r.0,
  try_allowed g.V.Visitor.keeps c.args.places.now.key c.args.places.now.table_id.slots c.args.seat.now.id c.args.seat.now.me c.args.place (omega arith) h.0 h.1 h.2,
)
