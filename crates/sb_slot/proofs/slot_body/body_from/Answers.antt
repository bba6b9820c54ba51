-- Each number of the body is worth its bytes.
use Rattle.std.proofs.Common.{◌∙◌, ap}
use Rattle.sb_slot.specs.Slots.{body_number}
use Rattle.sb_slot.proofs.SlotLemmas.{body_number-parts}
use Rattle.sb_slot.proofs.slot_body.body_from.Goals as goal

pub returns-clause-first : goal.returns-clause-first
returns-clause-first c = ap (body_number 0) c.joined.ensures ∙ (body_number-parts c.bytes_of.result c.bytes_of-2.result c.bytes_of-3.result c.bytes_of-4.result c.bytes_of.ensures.len c.bytes_of-2.ensures.len c.bytes_of-3.ensures.len c.bytes_of-4.ensures.len).0 ∙ c.bytes_of.ensures.value

pub returns-clause-second : goal.returns-clause-second
returns-clause-second c = ap (body_number 8) c.joined.ensures ∙ (body_number-parts c.bytes_of.result c.bytes_of-2.result c.bytes_of-3.result c.bytes_of-4.result c.bytes_of.ensures.len c.bytes_of-2.ensures.len c.bytes_of-3.ensures.len c.bytes_of-4.ensures.len).1 ∙ c.bytes_of-2.ensures.value

pub returns-clause-third : goal.returns-clause-third
returns-clause-third c = ap (body_number 16) c.joined.ensures ∙ (body_number-parts c.bytes_of.result c.bytes_of-2.result c.bytes_of-3.result c.bytes_of-4.result c.bytes_of.ensures.len c.bytes_of-2.ensures.len c.bytes_of-3.ensures.len c.bytes_of-4.ensures.len).2 ∙ c.bytes_of-3.ensures.value

pub returns-clause-fourth : goal.returns-clause-fourth
returns-clause-fourth c = ap (body_number 24) c.joined.ensures ∙ (body_number-parts c.bytes_of.result c.bytes_of-2.result c.bytes_of-3.result c.bytes_of-4.result c.bytes_of.ensures.len c.bytes_of-2.ensures.len c.bytes_of-3.ensures.len c.bytes_of-4.ensures.len).3 ∙ c.bytes_of-4.ensures.value
