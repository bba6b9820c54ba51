-- At each of the four word sizes the shift is below 64, and twice the sign bit is 256 to the word's bytes.
use Rattle.std.proofs.Common.{◌≡◌, ◌<◌, ◌-◌, ◌*◌, ◌%◌, ◌^◌, refl, arith}
use Rattle.sb_mem.proofs.TwosComplement.{each_size}
use Rattle.sb_mem.proofs.atomic.sign_bit.Goals as goal

pub overflow_shl-result-2 : goal.overflow_shl-result-2
overflow_shl-result-2 c = each_size (λ s. 8 * 2 ^ s % 4294967296 - 1 < 64) (omega arith) (omega arith) (omega arith) (omega arith) c.args.size c.requires

pub returns : goal.returns
returns c = each_size (λ s. 1 * 2 ^ (8 * 2 ^ s % 4294967296 - 1) % 18446744073709551616 * 2 ≡ 256 ^ 2 ^ s) refl refl refl refl c.args.size c.requires
