-- The sweep goes on with every round that led here.
use Rattle.sb_drive.proofs.Sweeps.{sweep_more}
use Rattle.sb_drive.proofs.sweep.sweep_on.Goals as goal

pub returns-clause-round : goal.returns-clause-round
returns-clause-round g c start r =
    let before = c.args.group.now in let after = c.sweep-swept.new.group in let swept = c.sweep-swept.result in
    sweep_more g.N.Node.reaches g.N.Node.rests g.N.Node.turns c.args.number (g.met.N.Node.transitive c.args.number) g.met.N.Node.rests_transitive
    start.nodes.items before.nodes.items before.last.items before.moved after.nodes.items after.last.items swept r c.sweep-swept.ensures.round
