-- The transactions so far, and the lines that are left behind them, are the script.
use Rattle.std.proofs.Common.{◌≡◌, ◌≤◌, ◌+◌, [], drop, map}
use Rattle.std.specs.Prelude.{All, vec_len}
use Rattle.sb_packet.specs.Scripts.{IsTransaction}
use Rattle.sb_topology.specs.Lines.{script_by}
use Rattle.sb_topology.proofs.scripts.transactions.Given as goal

abbrev pub invariant-loop-index : goal.invariant-loop-index
invariant-loop-index l = record {
  said : script_by l.host 1 [] (map (λ line. line.now) l.lines) ≡ script_by l.host (l.index + 1) l.txns.items (map (λ line. line.now) (drop l.index l.lines));
  transactions : All IsTransaction l.txns.items;
  many : vec_len l.txns ≤ l.index;
}
