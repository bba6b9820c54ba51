-- The words so far were there.
use Rattle.std.proofs.Common.{◌≡◌, ◌++◌, ◌∷◌, take}
use Rattle.std.specs.Prelude.{flat_map}
use Rattle.sb_check.specs.Comparing.{piece_text}
use Rattle.sb_check.proofs.unread.Unread.pieces.Given as goal

abbrev pub invariant-loop-index : goal.invariant-loop-index
invariant-loop-index l = l.fn.self.rest.now ≡ flat_map (λ w. 32 ∷ piece_text w) (take l.index l.pieces) ++ l.self.rest.now
