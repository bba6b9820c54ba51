-- A word more is printed behind those so far.
use Rattle.std.proofs.Common.{◌≤◌, ◌<◌, ◌∷◌, [], ℕ, List, length, arith, refl}
use Rattle.sb_text.specs.TextLines.{word_text}
use Rattle.sb_text.specs.declared.line_word.LineWord.{LineWord}
use Rattle.sb_text.specs.declared.line_word.LineWord.TheVariants.{Text}
use Rattle.sb_text.proofs.PrintLemmas.{printed_as, printed_nothing}
use Rattle.sb_text.proofs.IndexedLemmas.{indexed_plain, lines_all, lines_failed, lines_more}
use Rattle.sb_text.proofs.report.words.print_rest.Goals as goal

abbrev none : LineWord
none = Text (record { ref_ptr = (0, 0); now = [] })

abbrev behind : ℕ → LineWord → List ℕ
behind k w = 32 ∷ word_text w

pub loop-index-init : goal.loop-index-init
loop-index-init g c = printed_nothing g.K.Sink tt c.args.sink.now c.args.buffer.now

pub returns-in_err-print_next : goal.returns-in_err-print_next
returns-in_err-print_next g c =
    let words = c.args.words.now in
    let i = c.loop-index.index in
    let below : i < length words = omega arith in
    record {
      printed = printed_as g.K.Sink c.from_residual.result _ _ _ _ _ _ (indexed_plain (λ (w : LineWord). 32 ∷ word_text w) 0 words)
          (lines_failed behind g.K.Sink tt c.in_err-print_next.field-0.0 c.from_residual.result _ _ _ _ _ _ _ words i none c.from_residual.ensures.0 below refl c.loop-index.invariant c.in_err-print_next.ensures.printed);
    }

pub loop-index-preserved : goal.loop-index-preserved
loop-index-preserved g c =
    let words = c.args.words.now in
    let i = c.loop-index.index in
    let below : i < length words = omega arith in
    lines_more behind g.K.Sink tt tt tt _ _ _ _ _ _ _ words i none below refl c.loop-index.invariant c.in_ok-print_next.ensures.printed

pub returns : goal.returns
returns g c =
    let words = c.args.words.now in
    let all : length words ≤ c.loop-index.index = omega arith in
    record {
      printed = printed_as g.K.Sink _ _ _ _ _ _ _ (indexed_plain (λ (w : LineWord). 32 ∷ word_text w) 0 words)
          (lines_all behind g.K.Sink tt tt _ _ _ _ words c.loop-index.index all c.loop-index.invariant);
    }
