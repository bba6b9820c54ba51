-- All names so far are known.
use Rattle.std.proofs.Common.{◌≡◌, map}
use Rattle.serde_json.specs.View.{members_view}
use Rattle.sb_fields.specs.Fields.{first_unknown as first_unknown_by}
use Rattle.sb_fields.proofs.values.first_unknown.Given as goal

abbrev pub invariant-loop-name : goal.invariant-loop-name
invariant-loop-name l = first_unknown_by (map (λ k. k.now) l.known) (members_view l.fn.object.entries) ≡ first_unknown_by (map (λ k. k.now) l.known) (members_view l.name-iterator)
