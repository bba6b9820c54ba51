-- One byte more.
use Rattle.std.proofs.Common.{ℕ, ◌+◌, ◌%◌, arith}
use Rattle.std.proofs.lemmas.List.FromFn.{map-range_with_len_more}
use Rattle.sb_gen.proofs.draws.rising_bytes.Goals as goal

pub loop-j-preserved : goal.loop-j-preserved
loop-j-preserved c =
    let j = c.loop-j.j in
    let f : ℕ → ℕ = λ k. (c.args.first + k) % 256 in
    let more = map-range_with_len_more f 0 j j (omega arith) in
    record {
      bytes = cc;
      count = omega arith;
      room = cc;
    }
