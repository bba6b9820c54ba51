-- std's bytes of a number are its eight bytes.
use Rattle.std.proofs.Common.{◌∙◌, ap, rules}
use Rattle.sb_packet.specs.Memories.{number_of}
use Rattle.sb_slot.proofs.SlotLemmas.{le_bytes_of_number, number_of-number_bytes}
use Rattle.sb_slot.proofs.slot_body.bytes_of.Goals as goal

pub returns-clause-bytes : goal.returns-clause-bytes
returns-clause-bytes c = c.to_le_bytes.ensures ∙ le_bytes_of_number c.args.number

pub returns-clause-value : goal.returns-clause-value
returns-clause-value c = ap number_of (c.to_le_bytes.ensures ∙ le_bytes_of_number c.args.number) ∙ number_of-number_bytes c.args.number (search rules)
