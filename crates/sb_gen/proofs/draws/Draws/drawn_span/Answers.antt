-- 16 words of 8 bytes are 128 bytes.
use Rattle.std.proofs.Common.{◌≡◌, ◌≤◌, arith}
use Rattle.sb_gen.specs.Drawn.{drawn_span}
use Rattle.sb_gen.proofs.DrawnTransactions.{drawn_place}
use Rattle.sb_gen.proofs.draws.Draws.drawn_span.Goals as goal

pub returns-clause-few : goal.returns-clause-few
returns-clause-few c =
    let d = c.args.self in
    let span : c.words_span.result ≡ drawn_span d = cc in
    let small : drawn_span d ≤ 128 = (drawn_place d).small in
    omega (arith, span, small)
