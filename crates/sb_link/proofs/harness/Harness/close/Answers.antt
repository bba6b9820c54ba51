-- close: a Close has no words.
use Rattle.std.proofs.Common.{rules, arith}
use Rattle.sb_packet.specs.declared.item.Item.TheVariants as items
use Rattle.sb_link.proofs.Pushes.{words_after}
use Rattle.sb_link.proofs.harness.Harness.close.Goals as goal

pub invariant_of-self : goal.invariant_of-self
invariant_of-self g c = record {
  «open» = search rules;
  counted = let more = words_after _ _ _ _ items.Close c.try_push.result c.try_push.ensures.pushed in omega (arith, more, c.args.self.now.counted);
  marks = search rules;
  made = search rules;
  unsettled = search rules;
}
