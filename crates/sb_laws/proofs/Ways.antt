-- Facts of all rings of a way, and of the flows of a ring.
use Rattle.std.proofs.Common.{◌≡◌, ℕ, Bool, true, false, List, [], ◌∷◌, refl, arith, subst}
use Rattle.std.specs.Prelude.{◌==◌, ◌||◌, All}
use Rattle.std.specs.List.{list_any}
use Rattle.std.proofs.lemmas.Bool.Decides.{nat_tests}
use Rattle.std.proofs.lemmas.List.Elements.{All-head, All-tail, All-filter, filter_passes}
use Rattle.sb_link.specs.RingPlans.{NetFlow}
use Rattle.sb_laws.specs.Flows.{Course, way_rings, goes_over, flows_over, last_of}
use Rattle.sb_flow.specs.Tables.{way_of}

-- a fact of each of some numbers holds of one that is among them
pub at_number : (P : ℕ → Type 0) (r : ℕ) (ks : List ℕ) → All P ks → list_any (λ k. k == r) ks ≡ true → P r
at_number P r [] h e = absurd (let never : false ≡ true = e in cc)
at_number P r (k ∷ ks) h e = by_test (k == r) refl (at_number P r ks (All-tail P k ks h)) e
  where
    by_test : (b : Bool) → (k == r) ≡ b → (list_any (λ j. j == r) ks ≡ true → P r) → (b || list_any (λ j. j == r) ks) ≡ true → P r
    by_test true t later e = let same : k ≡ r = grind (arith, nat_tests) in subst P same (All-head P k ks h)
    by_test false t later e = later e

-- a fact of each flow and each ring of its way, seen from a ring
pub All-at_ring : (c : Course) (P : NetFlow → ℕ → Type 0) → All (λ f. All (P f) (way_rings c f)) c.flows → (r : ℕ) → All (λ f. P f r) (flows_over c r)
All-at_ring c P h r k d below =
    at_number (P _) r (way_rings c _) (All-filter (goes_over c r) (λ f. All (P f) (way_rings c f)) c.flows h k d below) (filter_passes (goes_over c r) c.flows k d below)

-- a fact of each ring of a way holds of the last
pub at_last : (P : ℕ → Type 0) (k : ℕ) (js : List ℕ) → All P (k ∷ js) → P (last_of k js)
at_last P k [] h = All-head P k [] h
at_last P k (j ∷ js) h = at_last P j js (All-tail P k (j ∷ js) h)
