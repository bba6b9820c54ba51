-- The one link that leads to a device.
use Rattle.std.proofs.Common.{◌≡◌, ◌<◌, ℕ, zero, suc, ◌+◌, Bool, true, false, cond, List, [], ◌∷◌, length, refl, sym, ap, ◌∙◌, arith}
use Rattle.std.specs.Prelude.{Option, Some, None, slice_get}
use Rattle.std.specs.List.{position_from}
use Rattle.std.specs.Option.{option_map_or}
use Rattle.sb_packet.specs.Networks.{Network, leads_to}
use Rattle.sb_laws.specs.NetworkLayouts.{HasWays, is_link_to, link_into}

module _ {A : Type 0} (test : A → Bool) where
  -- a place that passes
  pub record Passes (xs : List A) (at : ℕ) : Type 0 where
    pub inside : at < length xs
    pub passes : option_map_or test (slice_get xs at) false ≡ true

  pub found_place : (i k : ℕ) (xs : List A) → position_from test i xs ≡ Some k → (j : ℕ) × (k ≡ i + j) × Passes xs j
  found_place i k [] e = absurd (cc)
  found_place i k (x ∷ xs) e = by_test (test x) refl e (found_place (i + 1) k xs)
    where
      by_test : (b : Bool) → test x ≡ b → cond b (Some i) (position_from test (i + 1) xs) ≡ Some k → (position_from test (i + 1) xs ≡ Some k → (j : ℕ) × (k ≡ i + 1 + j) × Passes xs j) → (j : ℕ) × (k ≡ i + j) × Passes (x ∷ xs) j
      by_test true t e later = let same : i ≡ k = cc in (0, omega arith, record { inside = omega arith; passes = t })
      by_test false t e later = let rest = later e in (suc rest.0, omega (arith, rest.1), record { inside = let h = rest.2.inside in omega arith; passes = rest.2.passes })

  pub none_found : (i j : ℕ) (xs : List A) → position_from test i xs ≡ None → option_map_or test (slice_get xs j) false ≡ true → ⊥
  none_found i j [] e p = cc
  none_found i zero (x ∷ xs) e p = let never : Some i ≡ None = ap (λ (b : Bool). cond b (Some i) (position_from test (i + 1) xs)) (sym p) ∙ e in cc
  none_found i (suc j) (x ∷ xs) e p = by_test (test x) e (λ later. none_found (i + 1) j xs later p)
    where
      by_test : (b : Bool) → cond b (Some i) (position_from test (i + 1) xs) ≡ None → (position_from test (i + 1) xs ≡ None → ⊥) → ⊥
      by_test true e later = cc
      by_test false e later = later e

-- the link to a device that there is, is there, and leads to it
pub record IsLinkInto (network : Network) (d : ℕ) : Type 0 where
  pub there : link_into network d < length network.links
  pub leads : is_link_to network d (link_into network d) ≡ true

pub link_into_leads : (network : Network) → HasWays network → (d : ℕ) → d < length network.devices → IsLinkInto network d
link_into_leads network ways d there = by_place (position_from (leads_to d) 0 network.links) refl
  where
    some : (k : ℕ) × (k < length network.links) × (is_link_to network d k ≡ true)
    some = ways.linked d there

    by_place : (o : Option ℕ) → position_from (leads_to d) 0 network.links ≡ o → IsLinkInto network d
    by_place None e = absurd (none_found (leads_to d) 0 some.0 network.links e some.2)
    by_place (Some k) e =
        let place = found_place (leads_to d) 0 k network.links e in
        let at : link_into network d ≡ place.0 = ap (λ (o : Option ℕ). option_map_or (λ k. k) o 0) e ∙ omega (arith, place.1) in
        record { there = rw at place.2.inside; leads = rw at place.2.passes }
