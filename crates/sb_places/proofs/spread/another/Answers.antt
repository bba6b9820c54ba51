-- The rule allows the step.
use Rattle.sb_places.proofs.Steps.{splits}
use Rattle.sb_places.proofs.spread.another.Goals as goal

pub split_seat-requires : goal.split_seat-requires
split_seat-requires g c = let h = c.requires.idle in (
  c.requires.places.0,
  c.requires.places.1,
  splits g.V.Visitor.keeps c.args.places.now.key c.args.seat.now.id c.args.seat.now.me.0 h.0.idle h.1,
)
