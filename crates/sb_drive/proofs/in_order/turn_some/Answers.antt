-- The node at one place more took its turns.
use Rattle.std.proofs.Common.{arith}
use Rattle.std.proofs.lemmas.List.Elements.{All-set}
use Rattle.sb_drive.proofs.SomeTurns.{one_node_more}
use Rattle.sb_drive.proofs.in_order.turn_some.Goals as goal

pub loop-turned-preserved : goal.loop-turned-preserved
loop-turned-preserved g c =
    let place = c.turn_place-place.result in
    let more = c.turn_times-moved in (
      All-set g.N.Node.whole c.loop-turned.nodes.items place more.new.node more.ensures.whole c.loop-turned.invariant.0,
      one_node_more g.N.Node.reaches g.N.Node.rests g.N.Node.turns c.args.number (g.met.N.Node.transitive c.args.number) g.met.N.Node.rests_transitive
          c.args.group.now.nodes.items c.loop-turned.nodes.items c.loop-turned.moved place c.index_mut.result.now more.new.node more.result c.loop-turned.invariant.1
          (omega (arith, c.turn_place-place.ensures.within, c.len-count.ensures, c.args.group.now.nodes.ok.0)) c.index_mut.ensures.value more.ensures.turns,
    )
