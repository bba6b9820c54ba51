-- The next word isn't there.
use Rattle.std.proofs.Common.{◌∷◌, []}
use Rattle.sb_check.specs.Comparing.{piece_text}
use Rattle.sb_check.specs.declared.line_piece.LinePiece.TheVariants.{Text}
use Rattle.sb_check.proofs.MatchLemmas.{flat_map-differs, not_matched}
use Rattle.sb_check.proofs.unread.Unread.pieces.Goals as goal

pub returns-in_err-next_piece : goal.returns-in_err-next_piece
returns-in_err-next_piece c = record {
  matched = not_matched c.from_residual.result _ _ _ c.from_residual.ensures.0
      (flat_map-differs (λ w. 32 ∷ piece_text w) c.args.pieces.now c.loop-index.index (Text (record { ref_ptr = (0, 0); now = [] })) c.args.self.now.rest.now c.loop-index.self.rest.now c.loop-index-test.true c.loop-index.invariant c.in_err-next_piece.ensures.matched.differs);
}
