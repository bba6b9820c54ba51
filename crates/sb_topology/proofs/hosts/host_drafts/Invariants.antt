-- The names so far are new, so those that are left are to be tested; and the hosts so far are drafted, those that are left behind them.
use Rattle.std.proofs.Common.{◌≡◌, ◌+◌, ◌++◌, codes, length, map}
use Rattle.std.specs.Vec.{vec_len}
use Rattle.sb_fields.specs.Counted.{counted_host}
use Rattle.sb_topology.specs.Names.{names_by}
use Rattle.sb_topology.specs.Held.{draft_host}
use Rattle.sb_topology.proofs.hosts.host_drafts.Given as goal

abbrev pub invariant-loop-number : goal.invariant-loop-number
invariant-loop-number l = record {
  names : names_by (codes "hosts") 0 (map (λ n. n.now) l.initial.earlier.items) (map (λ h. h.name) (map counted_host l.fn.hosts.items)) ≡ names_by (codes "hosts") l.number-iterator.count (map (λ n. n.now) l.earlier.items) (map (λ h. h.name) (map counted_host l.number-iterator.iter.rest.items));
  drafts : map draft_host l.drafts.items ++ map counted_host l.number-iterator.iter.rest.items ≡ map counted_host l.fn.hosts.items;
  many : vec_len l.drafts + length l.number-iterator.iter.rest.items ≡ vec_len l.fn.hosts;
}
