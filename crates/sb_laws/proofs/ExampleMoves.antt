-- A ring over which one word and a Close go, in five rounds with a move.
use Rattle.std.proofs.Common.{◌≡◌, lit≤, lit<, ℕ, true, false, refl, List, [], ◌∷◌}
use Rattle.std.specs.Prelude.{All}
use Rattle.std.proofs.lemmas.List.Elements.{All-from_recursion}
use Rattle.sb_node.proofs.Answering.{one_of}
use Rattle.sb_laws.specs.Moves.{RingUse, IsKept, IsMoveAtRing, offers, sends, pops, sends_close, pops_close, IsWithinBudget, IsMovingRound, AreMovingRounds, move_bound}

abbrev pub unused : RingUse
unused = record { offered = 0; let_go = 0; sent = 0; received = 0; handled = 0; closed = false; ended = false }

-- round by round: the word is offered and let go, it is sent, it is popped and handed on, the Close is sent, the Close is popped
abbrev pub after_offer : RingUse
after_offer = record unused { offered = 1; let_go = 1 }

abbrev pub after_send : RingUse
after_send = record after_offer { sent = 1 }

abbrev pub after_pop : RingUse
after_pop = record after_send { received = 1; handled = 1 }

abbrev pub after_close : RingUse
after_close = record after_pop { closed = true }

abbrev pub after_end : RingUse
after_end = record after_close { ended = true }

abbrev pub five_rounds : List (ℕ → RingUse)
five_rounds = (λ r. after_offer) ∷ (λ r. after_send) ∷ (λ r. after_pop) ∷ (λ r. after_close) ∷ (λ r. after_end) ∷ []

one_round : (a b : RingUse) → IsKept a b → IsMoveAtRing a b → IsMovingRound (0 ∷ []) (λ r. a) (λ r. b)
one_round a b kept moved = record { kept = one_of (λ r. IsKept a b) 0 kept; moved = (0, 0, lit< tt, refl, moved) }

pub five_moving_rounds : AreMovingRounds (0 ∷ []) (λ r. unused) five_rounds
five_moving_rounds = (
  one_round unused after_offer (record { offered = lit≤ tt; let_go = lit≤ tt; sent = lit≤ tt; received = lit≤ tt; handled = lit≤ tt; closed = λ e. e; ended = λ e. e }) (offers (lit< tt)),
  (
    one_round after_offer after_send (record { offered = lit≤ tt; let_go = lit≤ tt; sent = lit≤ tt; received = lit≤ tt; handled = lit≤ tt; closed = λ e. e; ended = λ e. e }) (sends (lit< tt)),
    (
      one_round after_send after_pop (record { offered = lit≤ tt; let_go = lit≤ tt; sent = lit≤ tt; received = lit≤ tt; handled = lit≤ tt; closed = λ e. e; ended = λ e. e }) (pops (lit< tt)),
      (
        one_round after_pop after_close (record { offered = lit≤ tt; let_go = lit≤ tt; sent = lit≤ tt; received = lit≤ tt; handled = lit≤ tt; closed = λ e. refl; ended = λ e. e }) (sends_close refl refl),
        (one_round after_close after_end (record { offered = lit≤ tt; let_go = lit≤ tt; sent = lit≤ tt; received = lit≤ tt; handled = lit≤ tt; closed = λ e. e; ended = λ e. refl }) (pops_close refl refl), tt),
      ),
    ),
  ),
)

pub five_rounds_are_within : All (λ used. All (λ r. IsWithinBudget 1 (used r)) (0 ∷ [])) five_rounds
five_rounds_are_within = All-from_recursion (λ used. All (λ r. IsWithinBudget 1 (used r)) (0 ∷ [])) five_rounds (
  one_of (λ r. IsWithinBudget 1 after_offer) 0 (record { offered = lit≤ tt; let_go = lit≤ tt; sent = lit≤ tt; received = lit≤ tt; handled = lit≤ tt }),
  (
    one_of (λ r. IsWithinBudget 1 after_send) 0 (record { offered = lit≤ tt; let_go = lit≤ tt; sent = lit≤ tt; received = lit≤ tt; handled = lit≤ tt }),
    (
      one_of (λ r. IsWithinBudget 1 after_pop) 0 (record { offered = lit≤ tt; let_go = lit≤ tt; sent = lit≤ tt; received = lit≤ tt; handled = lit≤ tt }),
      (
        one_of (λ r. IsWithinBudget 1 after_close) 0 (record { offered = lit≤ tt; let_go = lit≤ tt; sent = lit≤ tt; received = lit≤ tt; handled = lit≤ tt }),
        (one_of (λ r. IsWithinBudget 1 after_end) 0 (record { offered = lit≤ tt; let_go = lit≤ tt; sent = lit≤ tt; received = lit≤ tt; handled = lit≤ tt }), tt),
      ),
    ),
  ),
)

-- Sixteen rounds is the bound.
pub bound_of_one_word : move_bound (0 ∷ []) (λ r. 1) ≡ 16
bound_of_one_word = refl
