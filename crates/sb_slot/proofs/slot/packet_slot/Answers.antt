-- The halves of the first number, and the four parts of the body.
use Rattle.std.proofs.Common.{◌≡◌, ◌+◌, ◌%◌, ◌^◌, refl, arith}
use Rattle.sb_slot.proofs.SlotLemmas.{parts_joined}
use Rattle.sb_slot.proofs.slot.packet_slot.Goals as goal

pub returns-clause-slot : goal.returns-clause-slot
returns-clause-slot c =
    let low : (c.from.result + 2 ^ 32) % 2 ^ 32 ≡ c.encode.result = omega arith in
    record {
      count = refl;
      word = rw low c.encode.ensures.fields;
      flag = omega arith;
      dst = refl;
      src = refl;
      body = parts_joined c.number_at.result c.number_at-2.result c.number_at-3.result c.number_at-4.result c.args.packet.now.body c.args.packet.now.whole c.number_at.ensures.bytes c.number_at-2.ensures.bytes c.number_at-3.ensures.bytes c.number_at-4.ensures.bytes;
      reserved = refl;
    }
