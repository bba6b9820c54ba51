-- The routes so far, and the members that are left behind them, are those of the whole object.
use Rattle.std.proofs.Common.{◌≡◌, map, []}
use Rattle.serde_json.specs.View.{members_view}
use Rattle.sb_fields.specs.FieldLists.{routes_by}
use Rattle.sb_fields.specs.Held.{written_route}
use Rattle.sb_fields.proofs.parts.route_texts.Given as goal

abbrev pub invariant-loop-name : goal.invariant-loop-name
invariant-loop-name l = routes_by l.at [] (members_view l.fn.object.entries) ≡ routes_by l.at (map written_route l.found.items) (members_view l.name-iterator)
