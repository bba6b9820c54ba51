-- The items so far, and those that are left behind them, are those of the whole list.
use Rattle.std.proofs.Common.{◌≡◌, map, drop, []}
use Rattle.serde_json.specs.View.{items_view}
use Rattle.sb_fields.specs.FieldLists.{items_by}
use Rattle.sb_fields.proofs.parts.parts.Given as goal

abbrev pub invariant-loop-number : goal.invariant-loop-number
invariant-loop-number g l = items_by g.T.Part.reads l.at 0 [] (items_view l.values) ≡ items_by g.T.Part.reads l.at l.number (map g.T.Part.written l.found.items) (items_view (drop l.number l.values))
