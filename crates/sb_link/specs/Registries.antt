-- Which rings a fabric made, and which of their ends were handed back.
use Rattle.std.specs.Prelude.{◌≡◌, ℕ, ◌<◌, List, [], ◌∷◌, map, if◌then◌else◌, ◌==◌, Option, Some, None, slice_get}
use Rattle.sb_link.specs.RingPlans.{RingPlan}
use Rattle.sb_link.specs.PlanOf.{plan_of}
use Rattle.sb_link.specs.declared.registered_ring.RegisteredRing.{RegisteredRing}

module _ {E : Type 0} where
  -- the plans of the rings, in order
  abbrev pub plans_of : List (RegisteredRing E) → List RingPlan
  plans_of rows = map (λ row. plan_of row.plan) rows

  -- the end of a ring that was handed back, or none
  abbrev pub end_of : List (RegisteredRing E) → ℕ → Option E
  end_of [] ring = None
  end_of (row ∷ rest) ring = if row.plan.ring == ring then row.end else end_of rest ring

  -- the first row of a ring stands there
  pub record IsPlaceOfRing (rows : List (RegisteredRing E)) (ring k : ℕ) : Type 0 where
    pub here : (row : RegisteredRing E) → slice_get rows k ≡ Some row → row.plan.ring ≡ ring
    pub first : (j : ℕ) (row : RegisteredRing E) → j < k → slice_get rows j ≡ Some row → row.plan.ring ≡ ring → ⊥
