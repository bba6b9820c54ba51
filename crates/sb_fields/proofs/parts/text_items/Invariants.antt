-- The texts so far, and those that are left behind them, are those of the whole list.
use Rattle.std.proofs.Common.{◌≡◌, map, drop, []}
use Rattle.serde_json.specs.View.{items_view}
use Rattle.sb_fields.specs.FieldLists.{items_by, text_item}
use Rattle.sb_fields.proofs.parts.text_items.Given as goal

abbrev pub invariant-loop-number : goal.invariant-loop-number
invariant-loop-number l = items_by text_item l.at 0 [] (items_view l.values) ≡ items_by text_item l.at l.number (map (λ text. text.now) l.texts.items) (items_view (drop l.number l.values))
