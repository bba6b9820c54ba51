-- The words of the hosts so far are counted.
use Rattle.std.proofs.Common.{◌≡◌, ◌≤◌, ◌*◌, map, take}
use Rattle.std.specs.Prelude.{sum_by}
use Rattle.sb_flow.specs.Rows.{host_of}
use Rattle.sb_flow.proofs.words.all_words.Given as goal

abbrev pub invariant-loop-host : goal.invariant-loop-host
invariant-loop-host l = record {
  words : l.words ≡ sum_by (λ h. sum_by (λ t. t.count) h.script) (map host_of (take l.host-index l.hosts));
  limit : l.words ≤ 16777216 * l.host-index;
}
