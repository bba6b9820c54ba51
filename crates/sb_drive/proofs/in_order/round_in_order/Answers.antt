-- Where drawn turns moved nothing, they and the round behind them are a round.
use Rattle.std.proofs.Common.{false, sym, subst}
use Rattle.sb_drive.specs.Rounds.{IsRound}
use Rattle.sb_drive.specs.SomeTurns.{HaveTakenTurns}
use Rattle.sb_drive.proofs.SomeTurns.{of_round, then_round}
use Rattle.sb_drive.proofs.in_order.round_in_order.Goals as goal
use Rattle.sb_drive.proofs.in_order.round_in_order.Goals.{else-order-gt0-via-then-order-gt0+else-turn_some, else-order-gt0-via-else-order-gt0}

pub returns-clause-turns : goal.returns-clause-turns
returns-clause-turns g c =
    let reaches = g.N.Node.reaches in let rests = g.N.Node.rests in let turns = g.N.Node.turns in
    let before = c.args.group.now.nodes.items in
    let serial = c.round_serial in
    let after = serial.new.group.nodes.items in
    let last = serial.new.group.last.items in
    of_round reaches rests turns c.args.number before after last serial.result (elim c.else-order-gt0.branch [
      | else-order-gt0-via-then-order-gt0+else-turn_some w ↦
          then_round reaches rests turns c.args.number (g.met.N.Node.transitive c.args.number) g.met.N.Node.rests_transitive before c.else-order-gt0.group.nodes.items after last serial.result
          (subst (λ group. HaveTakenTurns reaches rests turns c.args.number before group.nodes.items false) (sym w.group-is)
          (subst (λ b. HaveTakenTurns reaches rests turns c.args.number before w.turn_some.new.group.nodes.items b) w.if-turn_some.false w.turn_some.ensures.turns)) serial.ensures.round
      | else-order-gt0-via-else-order-gt0 w ↦ subst (λ group. IsRound reaches rests turns c.args.number group.nodes.items after last serial.result) w.group-is serial.ensures.round
    ])
