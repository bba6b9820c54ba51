-- Random numbers by a linear congruence. This project's own.
use Rattle.std.specs.Prelude.{ℕ, zero, suc, ◌+◌, ◌*◌, ◌/◌, ◌%◌, ◌^◌}

-- the state that a draw leaves
unfoldable pub next_state : ℕ → ℕ
next_state state = (state * 6364136223846793005 + 1442695040888963407) % 2 ^ 64

-- the state behind so many draws; the first one is a number itself
unfoldable pub state_after : ℕ → ℕ → ℕ
state_after number zero = number
state_after number (suc draws) = next_state (state_after number draws)

-- Draw k of a number, from 0: the upper 31 bits of the state that it leaves.
unfoldable pub draw : ℕ → ℕ → ℕ
draw number k = state_after number (k + 1) / 2 ^ 33
