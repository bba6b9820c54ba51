-- A transaction as one message is sound and whole, so all its packets are, and none speaks of more than 32 bytes.
use Rattle.std.proofs.Common.{arith}
use Rattle.sb_packet.specs.Scripts.{request_message}
use Rattle.sb_packet.proofs.FineParts.{fine_cut, transaction_sound, transaction_whole}
use Rattle.sb_packet.proofs.laws.transactions_are_sound.Goals as goal

pub returns-clause-sound : goal.returns-clause-sound
returns-clause-sound c = λ id qos prot i t is few. transaction_sound id qos prot i t is few

pub returns-clause-whole : goal.returns-clause-whole
returns-clause-whole c = λ id qos prot i t is. transaction_whole id qos prot i t is

pub returns-clause-fine : goal.returns-clause-fine
returns-clause-fine c = λ id qos prot i t is few.
    fine_cut 32 (request_message id qos prot i t) (omega arith) (transaction_sound id qos prot i t is few) (transaction_whole id qos prot i t is)
