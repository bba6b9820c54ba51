-- The part of the text that was written, and the bytes that the sink took next, are a longer first part of the text.
use Rattle.std.proofs.Common.{◌≡◌, ◌≤◌, ◌+◌, ◌-◌, ◌++◌, ◌∙◌, ℕ, List, ap, arith, take, drop, length, sym, subst}
use Rattle.std.proofs.Math.Seq.{take-add}
use Rattle.std.proofs.lemmas.List.{length-drop, length-take, take-take}
use Rattle.sb_io.specs.Written.{Gains}
use Rattle.sb_io.proofs.GainLemmas.{gains_more}
use Rattle.sb_io.proofs.output.write_all.Goals as goal

pub loop-at-preserved : goal.loop-at-preserved
loop-at-preserved g c =
    let text = c.args.text.now in
    let at = c.loop-at.at in
    let n = c.in-Took.count in
    let took = c.in-Took.ensures in
    let rest = take (length text - at) (drop at text) in
    let short : n ≤ length rest = took.bytes.1 in
    let fits : n ≤ length text - at = omega (arith, simp (length-take, length-drop) at short) in
    let P : List ℕ → Type 0 = λ t. Gains (g.K.Sink.held c.args.sink.now) (g.K.Sink.held c.write.new.self) t in
    let whole : take at text ++ take n rest ≡ take (at + n) text = ap (λ (r : List ℕ). take at text ++ r) (take-take n (length text - at) (drop at text) fits) ∙ sym (take-add at n text) in
    record {
      within = omega arith;
      gained = subst P whole (gains_more _ _ _ (take at text) (take n rest) c.loop-at.invariant.gained took.bytes.2);
      count = took.cause ∙ c.loop-at.invariant.count;
    }
