-- How often the nodes of a network can move.
use Rattle.std.specs.Prelude.{◌≡◌, ◌≤◌, ◌<◌, ℕ, ◌+◌, ◌*◌, Bool, true, false, List, [], ◌∷◌, sum_by, All, Any}

-- what has been done at a ring by some round: how many words were offered at the port in front of it, were let go there (sent or owed since),
-- were sent, were received, and were handled (received, and not held by the node that received them); and whether its Close was sent, and received
pub record RingUse : Type 0 where
  pub offered : ℕ
  pub let_go : ℕ
  pub sent : ℕ
  pub received : ℕ
  pub handled : ℕ
  pub closed : Bool
  pub ended : Bool

-- No node takes back what it has done.
pub record IsKept (a b : RingUse) : Type 0 where
  pub offered : a.offered ≤ b.offered
  pub let_go : a.let_go ≤ b.let_go
  pub sent : a.sent ≤ b.sent
  pub received : a.received ≤ b.received
  pub handled : a.handled ≤ b.handled
  pub closed : a.closed ≡ true → b.closed ≡ true
  pub ended : a.ended ≡ true → b.ended ≡ true

-- A move at a ring: something was offered, let go, sent or popped there, or what was popped was handed on or dropped.
pub data IsMoveAtRing (a b : RingUse) : Type 0 where
  offers : a.offered < b.offered → IsMoveAtRing a b
  lets_go : a.let_go < b.let_go → IsMoveAtRing a b
  sends : a.sent < b.sent → IsMoveAtRing a b
  pops : a.received < b.received → IsMoveAtRing a b
  handles : a.handled < b.handled → IsMoveAtRing a b
  sends_close : a.closed ≡ false → b.closed ≡ true → IsMoveAtRing a b
  pops_close : a.ended ≡ false → b.ended ≡ true → IsMoveAtRing a b

-- Each end of a ring keeps to the budget by its own plan: nothing here compares the two ends.
pub record IsWithinBudget (budget : ℕ) (a : RingUse) : Type 0 where
  pub offered : a.offered ≤ budget
  pub let_go : a.let_go ≤ a.offered
  pub sent : a.sent ≤ a.let_go
  pub received : a.received ≤ budget
  pub handled : a.handled ≤ a.received

-- A round of a network with these rings, in which a node moved.
pub record IsMovingRound (rings : List ℕ) (a b : ℕ → RingUse) : Type 0 where
  pub kept : All (λ r. IsKept (a r) (b r)) rings
  pub moved : Any (λ r. IsMoveAtRing (a r) (b r)) rings

-- Rounds one after another, in each of which a node moved.
abbrev pub AreMovingRounds : List ℕ → (ℕ → RingUse) → List (ℕ → RingUse) → Type 0
AreMovingRounds rings a [] = Unit {0}
AreMovingRounds rings a (b ∷ rest) = IsMovingRound rings a b × AreMovingRounds rings b rest

-- the most rounds in which a node moves: 4 for each word that may go over a ring, and for its Close, at each of the ring's ends
abbrev pub move_bound : List ℕ → (ℕ → ℕ) → ℕ
move_bound rings budget = sum_by (λ r. 2 * (4 * (budget r + 1))) rings
