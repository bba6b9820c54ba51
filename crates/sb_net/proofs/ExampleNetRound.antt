-- A round of the example's nodes in which none moved: at their end each of them is done.
use Rattle.std.proofs.Common.{◌≢◌, ◌<◌, lit≤, ℕ, zero, suc, false, Global, List, [], ◌∷◌, refl, arith, inl, inr}
use Rattle.std.specs.Prelude.{slice_index_or}
use Rattle.sb_link.specs.declared.answers.Turn.{Turn}
use Rattle.sb_link.specs.declared.answers.Turn.TheVariants.{Done, Moved}
use Rattle.sb_device.specs.Devices.{IsDeviceTurn}
use Rattle.sb_laws.proofs.ExampleNetwork.{steps}
use Rattle.sb_laws.proofs.ExampleNodes.{device_in}
use Rattle.sb_laws.proofs.ExampleRun.{the_end}
use Rattle.sb_laws.proofs.ExampleDevice as devices
use Rattle.sb_laws.proofs.ExampleHostLaws as hosts
use Rattle.sb_laws.proofs.ExampleRouterTurns as routers
use Rattle.sb_member.specs.Members.{IsMemberTurn, kept_member_same, rested_member_same}
use Rattle.sb_member.specs.declared.member.Member.{Member}
use Rattle.sb_net.specs.Running.{IsNetRound}
use Rattle.sb_net.proofs.ExampleNetOver.{end_nodes}

-- the device's turn
pub device_turn : IsDeviceTurn (device_in the_end steps 0) Done (device_in the_end steps 0)
device_turn = record {
  answered = (refl, refl);
  idle = λ still. devices.idle;
  few_more = lit≤ tt;
  port_served = record { few = lit≤ tt; served = inr (inl refl) };
  ring_served = λ free. inr refl;
}

-- what the nodes answer
abbrev pub all_done : List Turn
all_done = Done ∷ Done ∷ Done ∷ []

unmoved : (k : ℕ) → k < 3 → slice_index_or all_done k Done ≢ Moved
unmoved zero lt = λ e. cc
unmoved (suc zero) lt = λ e. cc
unmoved (suc (suc zero)) lt = λ e. cc
unmoved (suc (suc (suc k))) lt = absurd (omega arith)

module _ (F T U : Type 0) (heap : Global) where
  turns : (k : ℕ) (none : Member F T U) → k < 3 → IsMemberTurn 4 (slice_index_or (end_nodes F T U heap) k none) (slice_index_or all_done k Done) (slice_index_or (end_nodes F T U heap) k none)
  turns zero none lt = hosts.done_turn heap
  turns (suc zero) none lt = routers.done_turn
  turns (suc (suc zero)) none lt = device_turn
  turns (suc (suc (suc k))) none lt = absurd (omega arith)

  pub last_net_round : IsNetRound 4 (end_nodes F T U heap) (end_nodes F T U heap) all_done false
  last_net_round = record {
    same = refl;
    reached = λ k none lt. kept_member_same 4 (slice_index_or (end_nodes F T U heap) k none);
    last_turns = λ k none lt. record { start = slice_index_or (end_nodes F T U heap) k none; to_turn = kept_member_same 4 (slice_index_or (end_nodes F T U heap) k none); turn = turns k none lt };
    some_moved = λ e. absurd (cc);
    rested_turns = λ e k none lt. record { start = slice_index_or (end_nodes F T U heap) k none; to_turn = rested_member_same (slice_index_or (end_nodes F T U heap) k none); turn = turns k none lt };
    rested = λ e k none lt. rested_member_same (slice_index_or (end_nodes F T U heap) k none);
    none_moved = λ e k lt. unmoved k lt;
  }
