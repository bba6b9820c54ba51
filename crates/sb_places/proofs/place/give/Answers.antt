-- The rule allows the step.
use Rattle.sb_places.proofs.Steps.{give_allowed}
use Rattle.std.proofs.Common.{arith}
use Rattle.sb_places.proofs.place.give.Goals as goal

pub store-requires : goal.store-requires
store-requires g c = let r = c.requires.place in let h = c.requires.has in (
  c.requires.places,
  r.0,
  give_allowed g.V.Visitor.keeps c.args.places.now.key c.args.places.now.table_id.slots c.args.seat.now.id c.args.seat.now.me c.args.place h.2.0 (omega arith) h.0 h.1 h.2.1 h.2.2,
)
