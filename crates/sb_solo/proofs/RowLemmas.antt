-- The bodies of outcomes stay where they are while bytes come behind them.
use Rattle.std.proofs.Common.{◌≡◌, ◌≤◌, ℕ, ◌-◌, List, [], ◌∷◌, ◌++◌, ap, refl, arith, drop, length}
use Rattle.std.specs.Prelude.{map}
use Rattle.std.specs.List.{AllByRecursion}
use Rattle.std.proofs.lemmas.List.{take-append-le, drop-append-le, length-drop}
use Rattle.sb_packet.specs.Answers.{Outcome}
use Rattle.sb_solo.specs.Rows.{Collected, EndsBy, outcome_in}
use Rattle.sb_solo.specs.declared.outcomes.Row.{Row}

pub outcome_stays : (bytes more : List ℕ) (place : ℕ) (row : Row) → place ≤ length bytes → EndsBy place row → outcome_in (bytes ++ more) row ≡ outcome_in bytes row
outcome_stays bytes more place row within ends =
    let starts : row.start ≤ length bytes = omega (arith, ends.starts, ends.ends) in
    let short : row.end - row.start ≤ length (drop row.start bytes) = rw length-drop (omega (arith, ends.starts, ends.ends)) in
    ap (λ (b : List ℕ). let o : Outcome = record { state = row.state; body = b } in o)
    (rw (drop-append-le row.start bytes more starts, take-append-le (row.end - row.start) (drop row.start bytes) more short) refl)

pub outcomes_stay : (bytes more : List ℕ) (place : ℕ) (rows : List Row) → place ≤ length bytes → AllByRecursion (EndsBy place) rows → map (outcome_in (bytes ++ more)) rows ≡ map (outcome_in bytes) rows
outcomes_stay bytes more place [] within ends = refl
outcomes_stay bytes more place (row ∷ rows) within ends =
    rw (outcome_stays bytes more place row within ends.0) (ap (λ (r : List Outcome). outcome_in bytes row ∷ r) (outcomes_stay bytes more place rows within ends.1))

-- bytes that come behind all others come to the next transaction
pub collected_more : (rows : List Row) (bytes more : List ℕ) (start spare_rows spare_bytes : ℕ) → start ≤ length bytes → AllByRecursion (EndsBy start) rows
    → let after : Collected = record { outcomes = map (outcome_in (bytes ++ more)) rows; next = drop start (bytes ++ more); spare_rows = spare_rows; spare_bytes = spare_bytes } in
    after ≡ record { outcomes = map (outcome_in bytes) rows; next = drop start bytes ++ more; spare_rows = spare_rows; spare_bytes = spare_bytes }
collected_more rows bytes more start spare_rows spare_bytes within ends =
    rw (outcomes_stay bytes more start rows within ends, drop-append-le start bytes more within) refl
