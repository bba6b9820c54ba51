-- At each of the four word sizes a shift of 1 is the number of bytes, which is at most 8.
use Rattle.std.proofs.Common.{◌≡◌, ◌≤◌, ◌*◌, ◌%◌, ◌^◌, refl, arith}
use Rattle.sb_mem.proofs.TwosComplement.{each_size}
use Rattle.sb_mem.proofs.memory.tests.word_length.Goals as goal

pub returns-clause-length : goal.returns-clause-length
returns-clause-length c = each_size (λ s. 1 * 2 ^ s % 18446744073709551616 ≡ 2 ^ s) refl refl refl refl c.args.size c.requires

pub returns-clause-short : goal.returns-clause-short
returns-clause-short c = each_size (λ s. 1 * 2 ^ s % 18446744073709551616 ≤ 8) (omega arith) (omega arith) (omega arith) (omega arith) c.args.size c.requires
