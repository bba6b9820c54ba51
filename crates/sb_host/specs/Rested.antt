-- What stays of a host where nothing moved. It may have passed over transactions that are aimed at no device, and told its port to close.
use Rattle.std.specs.Prelude.{◌≡◌, ◌≤◌}
use Rattle.std.proofs.Common.{refl, ◌∙◌, arith}
use Rattle.sb_node.specs.Rested.{IsRestedPort, IsRestedRing, rested_port_same, rested_port_then, rested_ring_same, rested_ring_then}
use Rattle.sb_host.specs.Hosts.{HostSide}
use Rattle.sb_host.specs.Progress.{TransactionsSide, left_of}

-- nothing was issued, and nothing answered
pub record AreRestedTransactions (before after : TransactionsSide) : Type 0 where
  pub asked : after.asked ≡ before.asked
  pub rows : after.rows ≡ before.rows
  pub ended : after.ended ≡ before.ended
  pub onward : before.next ≤ after.next
  pub left : left_of after ≡ left_of before

-- nothing moved at a host
pub record IsRestedHost (before after : HostSide) : Type 0 where
  pub transactions : AreRestedTransactions before.transactions after.transactions
  pub requests : IsRestedPort before.requests after.requests
  pub answers : IsRestedRing before.answers after.answers

-- nothing happened to a host's transactions
pub rested_transactions_same : (t : TransactionsSide) → AreRestedTransactions t t
rested_transactions_same t = record { asked = refl; rows = refl; ended = refl; onward = omega arith; left = refl }

-- one thing after another happened to them
pub rested_transactions_then : {x y z : TransactionsSide} → AreRestedTransactions x y → AreRestedTransactions y z → AreRestedTransactions x z
rested_transactions_then a b = record {
  asked = b.asked ∙ a.asked;
  rows = b.rows ∙ a.rows;
  ended = b.ended ∙ a.ended;
  onward = let first = a.onward in let second = b.onward in omega (arith, first, second);
  left = b.left ∙ a.left;
}

-- nothing happened to a host
pub rested_host_same : (h : HostSide) → IsRestedHost h h
rested_host_same h = record {
  transactions = rested_transactions_same h.transactions;
  requests = rested_port_same h.requests;
  answers = rested_ring_same h.answers;
}

-- one thing after another happened to a host
pub rested_host_then : {x y z : HostSide} → IsRestedHost x y → IsRestedHost y z → IsRestedHost x z
rested_host_then a b = record {
  transactions = rested_transactions_then a.transactions b.transactions;
  requests = rested_port_then a.requests b.requests;
  answers = rested_ring_then a.answers b.answers;
}
