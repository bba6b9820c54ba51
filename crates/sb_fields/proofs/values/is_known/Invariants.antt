-- The name is none of those so far.
use Rattle.std.proofs.Common.{◌≡◌, map, drop, bytes_eq}
use Rattle.std.specs.List.{list_any}
use Rattle.sb_fields.proofs.values.is_known.Given as goal

abbrev pub invariant-loop-k : goal.invariant-loop-k
invariant-loop-k l = list_any (bytes_eq l.name) (map (λ k. k.now) l.known) ≡ list_any (bytes_eq l.name) (map (λ k. k.now) (drop l.k-index l.known))
