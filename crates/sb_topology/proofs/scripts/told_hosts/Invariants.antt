-- The hosts so far, and those that are left behind them, are all.
use Rattle.std.proofs.Common.{◌≡◌, ◌≤◌, [], drop, length, map}
use Rattle.std.specs.Prelude.{All, vec_len}
use Rattle.sb_flow.specs.Rows.{host_of}
use Rattle.sb_topology.specs.Held.{draft_host}
use Rattle.sb_topology.specs.Lines.{hosts_by}
use Rattle.sb_topology.proofs.scripts.told_hosts.Given as goal

abbrev pub invariant-loop-number : goal.invariant-loop-number
invariant-loop-number l = record {
  told : hosts_by 0 [] (map draft_host l.hosts) ≡ hosts_by l.number (map host_of l.plans.items) (map draft_host (drop l.number l.hosts));
  scripts : All (λ h. length h.script ≤ 65536) l.plans.items;
  many : vec_len l.plans ≡ l.number;
}
