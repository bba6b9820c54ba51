-- The rule allows the step.
use Rattle.sb_places.proofs.Steps.{joins}
use Rattle.sb_places.proofs.spread.absorb.Goals as goal

pub join_seat-requires : goal.join_seat-requires
join_seat-requires g c = let h = c.requires.idle in let o = c.requires.other in (
  c.requires.places.0,
  c.requires.places.1,
  o.empty,
  c.requires.places.2,
  joins g.V.Visitor.keeps c.args.places.now.key c.args.seat.now.id c.args.seat.now.me.0 c.args.other.id c.args.other.me.0 h.0.idle o.idle h.1,
)
