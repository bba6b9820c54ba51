-- Piles of things, one of which gets one more.
use Rattle.std.proofs.Common.{◌≡◌, ℕ, zero, suc, ◌<◌, List, [], ◌∷◌, ◌++◌, length, refl, ap, arith}
use Rattle.std.specs.Prelude.{set, get_or}
use Rattle.std.specs.declared.vec.Vec.{Vec}
use Rattle.sb_net.specs.Legs.{pile_at, piles_of}

-- the list of one vector among others is another one
pub piles_set : {A Z : Type 0} (piles : List (Vec A Z)) (k : ℕ) (pile : Vec A Z) → piles_of (set piles k pile) ≡ set (piles_of piles) k pile.items
piles_set [] k pile = refl
piles_set (p ∷ piles) zero pile = refl
piles_set (p ∷ piles) (suc k) pile = ap (λ rest. p.items ∷ rest) (piles_set piles k pile)

pub pile_there : {A Z : Type 0} (piles : List (Vec A Z)) (k : ℕ) (d : Vec A Z) → k < length piles → pile_at (piles_of piles) k ≡ (get_or piles k d).items
pile_there [] k d lt = absurd (omega (arith, lt))
pile_there (p ∷ piles) zero d lt = refl
pile_there (p ∷ piles) (suc k) d lt = pile_there piles k d (omega (arith, lt))

-- all are empty still, where one more empty one comes
pub empty_more : {A Z : Type 0} (piles : List (Vec A Z)) (pile : Vec A Z) → ((m : ℕ) → pile_at (piles_of piles) m ≡ []) → pile.items ≡ [] → (m : ℕ) → pile_at (piles_of (piles ++ pile ∷ [])) m ≡ []
empty_more [] pile all none zero = none
empty_more [] pile all none (suc m) = refl
empty_more (p ∷ piles) pile all none zero = all 0
empty_more (p ∷ piles) pile all none (suc m) = empty_more piles pile (λ k. all (suc k)) none m
