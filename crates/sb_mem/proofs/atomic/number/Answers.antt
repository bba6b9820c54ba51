-- Up to 8 bytes, padded with zeros, are worth what they are without the zeros, which is below 256 to their count.
use Rattle.std.proofs.Common.{◌≡◌, ◌∙◌, ap, List, ℕ}
use Rattle.std.specs.Int.{from_le_bytes, w64}
use Rattle.sb_packet.specs.Memories.{number_of}
use Rattle.sb_mem.proofs.WordBytes.{number_of_padded, number_of-below}
use Rattle.sb_mem.proofs.atomic.number.Goals as goal

value_of : (c : goal.After-from_le_bytes) → c.from_le_bytes.result ≡ number_of c.args.bytes.now
value_of c = c.from_le_bytes.ensures ∙ ap (λ (bytes : List ℕ). from_le_bytes w64 bytes) c.padded.ensures ∙ number_of_padded c.args.bytes.now c.requires

pub returns-clause-value : goal.returns-clause-value
returns-clause-value c = value_of c

pub returns-clause-below : goal.returns-clause-below
returns-clause-below c = rw (value_of c) (number_of-below c.args.bytes.now c.type_inv.bytes)
