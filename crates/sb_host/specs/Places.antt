-- Which word of a host's script a received word answers.
use Rattle.std.specs.Prelude.{ℕ, ◌≡◌, ◌<◌, ◌≤◌, ◌+◌, ◌*◌, ◌^◌, true, length, slice_index_or}
use Rattle.sb_word.specs.declared.command.Op.{Op}
use Rattle.sb_packet.specs.Scripts.{reply_address, request_of}
use Rattle.sb_host.specs.declared.transaction_plan.TransactionPlan.{TransactionPlan}
use Rattle.sb_host.specs.declared.script_plan.ScriptPlan.{ScriptPlan}
use Rattle.sb_host.specs.Asked.{AreTransactions, Asked}
use Rattle.sb_host.specs.Outcomes.{is_answered_by}

-- what a host asks for, by the plan of its script
abbrev pub asked_of : ScriptPlan → Asked
asked_of script_plan = record { id = script_plan.id; qos = script_plan.qos; prot = script_plan.prot; lines = script_plan.lines.items }

-- What a host asks for can be issued: it is a host that there can be, and each of its transactions can be issued.
pub record AreIssuable (asked : Asked) : Type 0 where
  pub id : asked.id ≤ 31
  pub qos : asked.qos ≤ 15
  pub prot : asked.prot ≤ 3
  pub few : length asked.lines ≤ 65536
  pub lines : AreTransactions asked.lines

-- A word with that opcode, size and address answers word k of transaction i, which is aimed at a device.
pub record IsPlace (asked : Asked) (op : Op) (size address i k : ℕ) (line : TransactionPlan) : Type 0 where
  pub at : line ≡ slice_index_or asked.lines i line
  pub transaction : i < length asked.lines
  pub word : k < line.txn.count
  pub aimed : line.aimed ≡ true
  pub opcode : is_answered_by (request_of line.txn.kind) op ≡ true
  pub same_size : line.txn.size ≡ size
  pub place : address ≡ reply_address asked.id i + k * 2 ^ size
