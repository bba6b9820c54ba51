-- A way is walked link by link.
use Rattle.std.proofs.Common.{◌≡◌, ℕ, zero, suc, ◌+◌, ◌-◌, ◌<◌, List, [], ◌∷◌, ◌++◌, refl, sym, ◌∙◌, arith, Option, Some, None, append_assoc, append-nil}
use Rattle.std.specs.Prelude.{map}
use Rattle.sb_packet.specs.Networks.{Network}
use Rattle.sb_flow.specs.Ways.{links_from, next_link}
use Rattle.sb_flow.specs.Tables.{leg_of}
use Rattle.sb_flow.specs.declared.leg.Leg.{Leg}

-- behind no link there is none
pub links_from-None : (n : ℕ) (network : Network) (d : ℕ) → links_from n network d None ≡ []
links_from-None zero network d = refl
links_from-None (suc n) network d = refl

-- one link and those behind it
pub links_from-Some : (n i : ℕ) (network : Network) (d k : ℕ) → i < n → links_from (n - i) network d (Some k) ≡ k ∷ links_from (n - (i + 1)) network d (next_link network d k)
links_from-Some n i network d k h = let e : n - i ≡ suc (n - (i + 1)) = omega arith in rw e refl

-- the legs so far, and those to come
abbrev pub legs_with : List Leg → ℕ → Network → ℕ → Option ℕ → List Leg
legs_with legs n network d next = legs ++ map (leg_of network) (links_from n network d next)

-- where no link is next, the legs so far are all
pub legs_with-None : (legs : List Leg) (n : ℕ) (network : Network) (d : ℕ) → legs_with legs n network d None ≡ legs
legs_with-None legs n network d = rw (links_from-None n network d) (append-nil legs)

-- the next link is taken
pub legs_with-Some : (legs : List Leg) (n i : ℕ) (network : Network) (d k : ℕ) → i < n → legs_with legs (n - i) network d (Some k) ≡ legs_with (legs ++ leg_of network k ∷ []) (n - (i + 1)) network d (next_link network d k)
legs_with-Some legs n i network d k h = rw (links_from-Some n i network d k h) (sym (append_assoc legs (leg_of network k ∷ []) (map (leg_of network) (links_from (n - (i + 1)) network d (next_link network d k)))))

-- the invariant of the walk, behind one more link
pub legs_with-more : (network : Network) (d n i k : ℕ) (all legs more : List Leg) (leg : Leg) (next after : Option ℕ) → i < n → next ≡ Some k → leg ≡ leg_of network k → more ≡ legs ++ leg ∷ [] → after ≡ next_link network d leg.link → legs_with legs (n - i) network d next ≡ all → legs_with more (n - (i + 1)) network d after ≡ all
legs_with-more network d n i k all legs more leg next after h is known pushed goes so_far =
    rw (pushed, goes, known) (sym (legs_with-Some legs n i network d k h) ∙ (rw is at so_far))
