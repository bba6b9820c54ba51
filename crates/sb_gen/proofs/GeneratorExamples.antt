-- Draws and transactions of the number 7.
use Rattle.std.proofs.Common.{◌≡◌, ◌∷◌, [], refl}
use Rattle.sb_word.specs.declared.atomic.AtomicOp.TheVariants.{Add}
use Rattle.sb_packet.specs.declared.transaction.Kind.TheVariants.{Atomic}
use Rattle.sb_gen.specs.Congruence.{draw, next_state, state_after}
use Rattle.sb_gen.specs.Generated.{gen_transaction}

pub first_state : state_after 7 1 ≡ 9098160460397411210
unfolding state_after next_state
first_state = refl

pub first_draw : draw 7 0 ≡ 1059165278
unfolding draw state_after next_state
first_draw = refl

-- `add 0x209818 3 5e5f606162636465`
pub first_transaction : gen_transaction 7 0 ≡ record { kind = Atomic Add; size = 3; addr = 2136088; count = 1; body = 94 ∷ 95 ∷ 96 ∷ 97 ∷ 98 ∷ 99 ∷ 100 ∷ 101 ∷ [] }
unfolding draw state_after next_state
first_transaction = refl
