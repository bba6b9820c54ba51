-- A new queue meets the rule, and nothing is in turn.
use Rattle.std.proofs.Common.{List, sym, subst}
use Rattle.sb_link.specs.Traffic.{AreInTurn}
use Rattle.sb_packet.specs.declared.item.Item.{Item}
use Rattle.sb_link.specs.PlanOf.{plan_of}
use Rattle.sb_link.proofs.InTurn.{nothing_in_turn}
use Rattle.sb_queue.proofs.Relays.{begins}
use Rattle.sb_queue.proofs.make.new_ends.Goals as goal

pub ruled-requires-clause-rule : goal.ruled-requires-clause-rule
ruled-requires-clause-rule g c = begins

pub invariant_of-tx-clause-in_turn : goal.invariant_of-tx-clause-in_turn
invariant_of-tx-clause-in_turn g c = subst (λ (list : List Item). AreInTurn (plan_of c.args.plan.now) list) (sym c.split_ends-reader.ensures.sent) nothing_in_turn
