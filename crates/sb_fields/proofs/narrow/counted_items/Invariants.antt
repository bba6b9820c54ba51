-- What was counted so far is in range, so the test of all items is that of those that are left; and those counted, with these behind them, are all.
use Rattle.std.proofs.Common.{◌≡◌, ◌++◌, map}
use Rattle.sb_fields.specs.Counts.{each_item}
use Rattle.sb_fields.proofs.narrow.counted_items.Given as goal

abbrev pub invariant-loop-number : goal.invariant-loop-number
invariant-loop-number g l = record {
  counted : each_item g.T.Countable.counts l.at 0 (map g.T.Countable.before l.fn.items.items) ≡ each_item g.T.Countable.counts l.at l.number-iterator.count (map g.T.Countable.before l.number-iterator.iter.rest.items);
  same : map g.T.Countable.after l.found.items ++ map g.T.Countable.before l.number-iterator.iter.rest.items ≡ map g.T.Countable.before l.fn.items.items;
}
