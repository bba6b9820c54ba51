-- At each of the four word sizes the word has at most 64 bits, and one more than the greatest is 256 to its bytes.
use Rattle.std.proofs.Common.{◌≡◌, ◌≤◌, ◌+◌, ◌-◌, ◌*◌, ◌/◌, ◌%◌, ◌^◌, refl, arith}
use Rattle.sb_mem.proofs.TwosComplement.{each_size}
use Rattle.sb_mem.proofs.atomic.greatest.Goals as goal

pub overflow_sub-result : goal.overflow_sub-result
overflow_sub-result c = each_size (λ s. 8 * 2 ^ s % 4294967296 ≤ 64) (omega arith) (omega arith) (omega arith) (omega arith) c.args.size c.requires

pub returns : goal.returns
returns c = each_size (λ s. 18446744073709551615 / 2 ^ (64 - 8 * 2 ^ s % 4294967296) + 1 ≡ 256 ^ 2 ^ s) refl refl refl refl c.args.size c.requires
