-- Each host of the tests' network has three transactions and its own link.
use Rattle.std.proofs.Common.{◌≡◌, ◌<◌, ◌+◌, ◌*◌, arith, refl, ℕ, zero, suc, length, Some}
use Rattle.std.specs.Prelude.{IsSome, slice_get}
use Rattle.sb_packet.specs.Networks.{NetHost}
use Rattle.sb_flow.specs.Rings.{ring_link}
use Rattle.sb_flow.specs.Ways.{first_link}
use Rattle.sb_host.specs.SmallNetwork.{small}

-- a host of the network, with its link and the rings of that
pub record IsSmallHost (h : ℕ) (host : NetHost) : Type 0 where
  pub there : slice_get small.hosts h ≡ Some host
  pub lines : length host.script ≡ 3
  pub link : first_link small h ≡ Some h
  pub down : IsSome (ring_link small (2 * h))
  pub up : IsSome (ring_link small (2 * h + 1))

pub small_host : (h : ℕ) → h < 2 → (host : NetHost) × IsSmallHost h host
small_host zero below = (_, record { there = refl; lines = refl; link = refl; down = refl; up = refl })
small_host (suc zero) below = (_, record { there = refl; lines = refl; link = refl; down = refl; up = refl })
small_host (suc (suc h)) below = absurd (omega arith)
