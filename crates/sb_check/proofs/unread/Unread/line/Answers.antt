-- The first word, and the rest of the line.
use Rattle.std.proofs.Common.{[]}
use Rattle.sb_check.specs.declared.line_piece.LinePiece.TheVariants.{Text}
use Rattle.sb_check.proofs.MatchLemmas.{line_in_pieces, matched_as, matched_then}
use Rattle.sb_check.proofs.unread.Unread.line.Goals as goal

pub returns-in_ok-piece-in-len1-up : goal.returns-in_ok-piece-in-len1-up
returns-in_ok-piece-in-len1-up c =
    let first = c.in_ok-piece-in-len1-up.ensures in
    let parts = line_in_pieces (Text (record { ref_ptr = (0, 0); now = [] })) c.args.pieces.now c.in-len1-up.len_at_least in
    record { matched = matched_as c.rest_of_line.result _ _ _ _ parts (matched_then c.rest_of_line.result _ _ _ _ _ first.matched.matched c.rest_of_line.ensures.matched) }
