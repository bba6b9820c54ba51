-- The laws of ports and rings at the example's: at each ring of its network, fresh, halfway and at the end; and in its last round.
use Rattle.std.proofs.Common.{◌≡◌, ◌≤◌, ◌<◌, ℕ, zero, suc, ◌+◌, ◌*◌, true, refl, arith, length}
use Rattle.sb_flow.specs.Rings.{ring_plan}
use Rattle.sb_node.specs.Sides.{port_moves, is_full, has_rest}
use Rattle.sb_laws.specs.Moments.{Moment}
use Rattle.sb_laws.specs.Runs.{IsLink, IsPort}
use Rattle.sb_laws.specs.NodeSides.{ShowsPort, ShowsRing}
use Rattle.sb_laws.specs.Standstills.{IsIdlePort, IsTrueRing}
use Rattle.sb_laws.proofs.PortSides.{moves_are_few, received_are_few}
use Rattle.sb_laws.proofs.SidePromises.{idle_port, link_promise, port_promise, true_ring}
use Rattle.sb_laws.proofs.ExampleNetwork.{small}
use Rattle.sb_laws.proofs.ExampleRun.{the_end}
use Rattle.sb_laws.proofs.ExampleStandstill.{last_round}
use Rattle.sb_laws.proofs.ExampleNodes.{port_in, ring_in}
use Rattle.sb_laws.proofs.ExamplePorts.{IsSettled, end_is_settled, has_port, has_ring, have_met, is_fit, received_in_turn, small_ring}

module _ (m : Moment) (settled : IsSettled m) (r : ℕ) (here : r < 4) where
  pub fit_ports_keep_their_promise : IsPort m r
  fit_ports_keep_their_promise = port_promise m r (port_in m r) (is_fit m settled r here) (has_port m settled r)

  pub met_rings_are_links : IsLink m r
  met_rings_are_links = link_promise m r (port_in m r) (ring_in m r) (has_port m settled r) (has_ring m settled r) (settled.turn r here) (settled.in_order r)

  pub moves_are_within_budgets : (port_moves (port_in m r) ≤ 3 * (ring_plan small r).budget + 1) × (length (m.received r) ≤ (ring_plan small r).budget + 1)
  moves_are_within_budgets = (
    moves_are_few (ring_plan small r) (port_in m r).state (is_fit m settled r here) (settled.turn r here),
    received_are_few (ring_plan small r) (m.received r) (received_in_turn m settled r here),
  )

-- after the last round each ring is as its ends say
pub shows_port : (r : ℕ) → r < 4 → ShowsPort last_round r (port_in the_end r)
shows_port zero here = record { lists = has_port the_end end_is_settled 0; full = refl; owes = refl; merges = refl; told = refl }
shows_port (suc zero) here = record { lists = has_port the_end end_is_settled 1; full = refl; owes = refl; merges = refl; told = refl }
shows_port (suc (suc zero)) here = record { lists = has_port the_end end_is_settled 2; full = refl; owes = refl; merges = refl; told = refl }
shows_port (suc (suc (suc zero))) here = record { lists = has_port the_end end_is_settled 3; full = refl; owes = refl; merges = refl; told = refl }
shows_port (suc (suc (suc (suc r)))) here = absurd (omega arith)

pub shows_ring : (r : ℕ) → r < 4 → ShowsRing last_round r (ring_in the_end r)
shows_ring zero here = record { lists = has_ring the_end end_is_settled 0; empty = refl }
shows_ring (suc zero) here = record { lists = has_ring the_end end_is_settled 1; empty = refl }
shows_ring (suc (suc zero)) here = record { lists = has_ring the_end end_is_settled 2; empty = refl }
shows_ring (suc (suc (suc zero))) here = record { lists = has_ring the_end end_is_settled 3; empty = refl }
shows_ring (suc (suc (suc (suc r)))) here = absurd (omega arith)

-- no port has anything left to send
pub at_rest : (r : ℕ) → r < 4 → has_rest (port_in the_end r) ≡ true → is_full (port_in the_end r) ≡ true
at_rest zero here rest = absurd (cc)
at_rest (suc zero) here rest = absurd (cc)
at_rest (suc (suc zero)) here rest = absurd (cc)
at_rest (suc (suc (suc zero))) here rest = absurd (cc)
at_rest (suc (suc (suc (suc r)))) here rest = absurd (omega arith)

pub owing_ports_are_idle : (r : ℕ) → r < 4 → IsIdlePort last_round r
owing_ports_are_idle r here = idle_port last_round r (port_in the_end r) (is_fit the_end end_is_settled r here) (shows_port r here) (at_rest r here)

pub met_rings_are_true : (r : ℕ) → r < 4 → IsTrueRing last_round r
met_rings_are_true r here =
    true_ring last_round r (port_in the_end r) (ring_in the_end r) (shows_port r here) (shows_ring r here) (end_is_settled.turn r here) (small_ring r here).places (have_met the_end end_is_settled r)
