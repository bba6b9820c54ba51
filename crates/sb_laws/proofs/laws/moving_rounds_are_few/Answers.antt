-- Each round in which a node moves uses some ring more, and no ring can be used without end.
use Rattle.sb_laws.proofs.Bounds.{bound_law}
use Rattle.sb_laws.proofs.laws.moving_rounds_are_few.Goals as goal

pub returns : goal.returns
returns c = record { few = λ rings budget first later within all moves. bound_law rings budget first later within moves all }
