-- The pass that pops may take in the one that pushes, and then it knows what the queue holds.
use Rattle.std.proofs.Common.{ap}
use Rattle.sb_queue.specs.declared.log.Log.{Log}
use Rattle.sb_queue.proofs.Relays.{merges, totals}
use Rattle.sb_queue.proofs.fabric.take_back.Goals as goal

pub absorb-requires-clause-rule : goal.absorb-requires-clause-rule
absorb-requires-clause-rule g c = merges _ _ _ _ c.args.rx.now.pops c.args.tx.pushes

pub learn_as-requires-clause-rule : goal.learn_as-requires-clause-rule
learn_as-requires-clause-rule g c = totals _ _ (ap (λ (v : Log). v.pushes) c.absorb.ensures.rule) (ap (λ (v : Log). v.pops) c.absorb.ensures.rule)
