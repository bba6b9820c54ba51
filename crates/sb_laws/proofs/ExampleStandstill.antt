-- Rounds without a move: after the example's run, and on one side of a wire whose other side closed without an answer.
use Rattle.std.proofs.Common.{◌≡◌, ◌≤◌, ◌<◌, lit≤, lit<, ℕ, zero, suc, ◌+◌, true, false, inl, refl, arith, List, [], ◌∷◌}
use Rattle.std.specs.Prelude.{◌==◌, None}
use Rattle.std.proofs.lemmas.List.Elements.{All-from_recursion}
use Rattle.sb_link.specs.Traffic.{has_close, item_accesses}
use Rattle.sb_packet.specs.declared.item.Item.{Item}
use Rattle.sb_packet.specs.declared.item.Item.TheVariants as items
use Rattle.sb_node.proofs.Answering.{one_of}
use Rattle.sb_laws.specs.Standstills.{HasLearnt, IsFinished, IsHostWaiting, IsStandstill, IsWholeStandstill, IsWithin, RoundEnd, Stages}
use Rattle.sb_laws.proofs.ExampleNetwork.{small, steps, read}
use Rattle.sb_laws.proofs.ExampleLayout.{the_flow, small_layout}
use Rattle.sb_laws.proofs.ExampleRun.{all_items, the_end, end_of_small}

-- ring 0 leads from the host to the router, 2 to the device, 3 back to the router and 1 to the host
abbrev pub from_stage : ℕ → ℕ
from_stage zero = 0
from_stage (suc zero) = 3
from_stage (suc (suc zero)) = 1
from_stage (suc (suc (suc n))) = 2

abbrev pub to_stage : ℕ → ℕ
to_stage zero = 1
to_stage (suc zero) = 4
to_stage (suc (suc zero)) = 2
to_stage (suc (suc (suc n))) = 3

abbrev pub small_stages : Stages
small_stages = record { rings = 4; last = 4; from = from_stage; to = to_stage; comes_in = λ r. false; goes_out = λ r. false; leaves_host = λ r. r == 0 }

-- all is done: no ring is full, nothing is kept, and all ports were told to close
abbrev pub last_round : RoundEnd
last_round = record { at = the_end; full = λ r. false; empty = λ r. true; owes = λ r. false; merges = λ r. false; told = λ r. true; holds = λ r. None; waits = λ r. false }

rises : (r : ℕ) → r < 4 → from_stage r < to_stage r
rises zero h = lit< tt
rises (suc zero) h = lit< tt
rises (suc (suc zero)) h = lit< tt
rises (suc (suc (suc n))) h = lit< tt

within : (r : ℕ) → r < 4 → to_stage r ≤ 4
within zero h = lit≤ tt
within (suc zero) h = lit≤ tt
within (suc (suc zero)) h = lit≤ tt
within (suc (suc (suc n))) h = lit≤ tt

ended : (r : ℕ) → r < 4 → has_close (all_items r) ≡ true
ended zero h = refl
ended (suc zero) h = refl
ended (suc (suc zero)) h = refl
ended (suc (suc (suc zero))) h = refl
ended (suc (suc (suc (suc n)))) h = absurd (omega arith)

pub last_round_is_a_standstill : IsStandstill small_stages last_round
last_round_is_a_standstill = record {
  rising = λ r here. record { rises = rises r here; within = within r here };
  wires = λ r here. record { in_not_empty = λ e. absurd (cc); in_not_full = λ e. absurd (cc); out_not_full = λ e. absurd (cc) };
  rings = λ r here i o. record { link = end_of_small.links r; full = λ e. absurd (cc); empty = λ e. omega arith };
  senders = λ r here i. record { port = record { owes = λ e. absurd (cc); merges = λ e. absurd (cc); settled = λ e f. refl; closed = λ e f g. ended r here }; host = λ e f. absurd (cc); node = λ e f. refl };
  receivers = λ r here o. record { held = λ p e. absurd (cc); none_held = λ e. refl; drained = λ e. inl refl };
}

-- So it is for the whole network: there is no wire, and no host waits.
pub small_stands_still : IsWholeStandstill small small_layout steps small_stages last_round
small_stands_still = record {
  still = last_round_is_a_standstill;
  moment = end_of_small;
  inside = λ r here. (refl, refl);
  within = one_of (IsWithin small_stages small_layout) the_flow (record {
    there = All-from_recursion (λ r. r < 4) (0 ∷ 2 ∷ []) (lit< tt, (lit< tt, tt));
    back = All-from_recursion (λ r. r < 4) (3 ∷ 1 ∷ []) (lit< tt, (lit< tt, tt));
  });
  windows = λ r here waits. absurd (cc);
}

-- A host at a wire, by which its requests go out over ring 0 and answers come in by ring 1.
abbrev pub side_stages : Stages
side_stages = record { rings = 2; last = 2; from = λ r. r; to = λ r. r + 1; comes_in = λ r. r == 1; goes_out = λ r. r == 0; leaves_host = λ r. r == 0 }

-- it has sent a read, and the other side has closed without an answer
abbrev pub side_sent : ℕ → List Item
side_sent zero = items.Packet read ∷ []
side_sent (suc n) = []

abbrev pub side_received : ℕ → List Item
side_received zero = []
side_received (suc n) = items.Close ∷ []

abbrev pub waiting : RoundEnd
waiting = record {
  at = record { sent = side_sent; received = side_received; offered = λ r. item_accesses (side_sent r); held = λ r. [] };
  full = λ r. false;
  empty = λ r. false;
  owes = λ r. false;
  merges = λ r. false;
  told = λ r. false;
  holds = λ r. None;
  waits = λ r. true;
}

pub waiting_is_a_standstill : IsStandstill side_stages waiting
waiting_is_a_standstill = record {
  rising = λ r here. record { rises = omega arith; within = omega arith };
  wires = λ r here. record { in_not_empty = λ e. refl; in_not_full = λ e. refl; out_not_full = λ e. refl };
  rings = λ r here i o. absurd (no_ring r here i o);
  senders = λ r here i. record { port = record { owes = λ e. absurd (cc); merges = λ e. absurd (cc); settled = λ e f. refl; closed = λ e f g. absurd (cc) }; host = λ e f. inl refl; node = λ e f. absurd (no_ring r here i e) };
  receivers = λ r here o. record { held = λ p e. absurd (cc); none_held = λ e. refl; drained = λ e. absurd (not_open r here o e) };
}
  where
    no_ring : (r : ℕ) → r < 2 → (r == 1) ≡ false → (r == 0) ≡ false → ⊥
    no_ring zero here i o = cc
    no_ring (suc zero) here i o = cc
    no_ring (suc (suc n)) here i o = omega arith

    not_open : (r : ℕ) → r < 2 → (r == 0) ≡ false → has_close (side_received r) ≡ false → ⊥
    not_open zero here o e = cc
    not_open (suc n) here o e = cc

-- So the host waits, and its ring is not done.
pub waiting_waits : IsHostWaiting side_stages waiting
waiting_waits = record { at = 0; is_ring = lit< tt; waits = refl }

pub waiting_is_not_finished : IsFinished side_stages waiting 0 → ⊥
waiting_is_not_finished finished = let closed : false ≡ true = finished.closed refl in cc

-- Rings of two places whose ends have met: one is full, and the other is empty.
pub full_ring : HasLearnt 2 3 1 1 3
full_ring = record { some = lit< tt; met_taken = lit≤ tt; met_known = lit≤ tt }

pub empty_ring : HasLearnt 2 3 3 3 3
empty_ring = record { some = lit< tt; met_taken = lit≤ tt; met_known = lit≤ tt }
