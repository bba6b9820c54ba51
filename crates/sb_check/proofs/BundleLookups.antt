-- What is found in a bundle's lists is what is found in its network's.
use Rattle.std.proofs.Common.{◌≡◌, ◌≤◌, ◌<◌, ℕ, zero, suc, ◌+◌, ◌-◌, Bool, true, false, cond, List, [], ◌∷◌, length, get_or, refl, ap, sym, ◌∙◌, subst, arith, Option, Some, None, eq-eqb}
use Rattle.std.specs.Prelude.{◌==◌, All, Contains, map, option_map, slice_get}
use Rattle.std.specs.List.{find, position_from}
use Rattle.std.specs.Option.{option_map_or}
use Rattle.std.proofs.lemmas.Bool.{eqb-true, false≢true}
use Rattle.std.proofs.lemmas.List.{length-map}
use Rattle.std.proofs.lemmas.List.Elements.{All-contains, All-from_recursion, All-map}
use Rattle.std.proofs.lemmas.Option.{slice_get-get_or}
use Rattle.sb_packet.specs.Networks.{NetHost, leads_to, width_to}
use Rattle.sb_flow.specs.NetworkOf.{network_of}
use Rattle.sb_flow.specs.Rows.{host_of, link_of}
use Rattle.sb_flow.specs.declared.bundle.Bundle.{Bundle}
use Rattle.sb_flow.specs.declared.host_plan.HostPlan.{HostPlan}
use Rattle.sb_flow.specs.declared.link_row.LinkRow.{LinkRow}
use Rattle.sb_flow.proofs.Bundles.{host_of_network}
use Rattle.sb_flow.proofs.Clashes.{position_from-None}
use Rattle.sb_flow.proofs.HostLimits.{HasLimits, host_limits, limits_of, passes_at}
use Rattle.sb_flow.specs.Accepted.{is_limited_host}

-- the first that passes is that of what is mapped there
pub find_of_map : {A B : Type 0} (test : B → Bool) (f : A → B) (xs : List A) → find test (map f xs) ≡ option_map f (find (λ x. test (f x)) xs)
find_of_map test f [] = refl
find_of_map {A} {B} test f (x ∷ xs) = by (test (f x)) (find_of_map test f xs)
  where
    by : (b : Bool) → find test (map f xs) ≡ option_map f (find (λ x. test (f x)) xs) → cond b (Some (f x)) (find test (map f xs)) ≡ option_map f (cond b (Some x) (find (λ x. test (f x)) xs))
    by true rest = refl
    by false rest = rest

-- the width of the link to a device, by the row that is found
pub width_found : (b : Bundle) (d : ℕ) (found : Option LinkRow) → found ≡ find (λ (row : LinkRow). leads_to d (link_of row)) b.links.items → width_to (network_of b) d ≡ option_map_or (λ (row : LinkRow). row.width) found 0
width_found b d found is =
    ap (λ o. option_map_or (λ link. link.width) o 0) (find_of_map (leads_to d) link_of b.links.items ∙ ap (option_map link_of) (sym is)) ∙ by found
  where
    by : (o : Option LinkRow) → option_map_or (λ link. link.width) (option_map link_of o) 0 ≡ option_map_or (λ (row : LinkRow). row.width) o 0
    by None = refl
    by (Some row) = refl

-- what is at the place that is found passes
place_passes : {A : Type 0} (test : A → Bool) (s k : ℕ) (xs : List A) (d : A) → position_from test s xs ≡ Some k → (s ≤ k) × (test (get_or xs (k - s) d) ≡ true)
place_passes test s k [] d found = absurd (cc)
place_passes {A} test s k (x ∷ xs) d found = by (test x) refl found (place_passes test (s + 1) k xs d)
  where
    by : (b : Bool) → test x ≡ b → cond b (Some s) (position_from test (s + 1) xs) ≡ Some k → (position_from test (s + 1) xs ≡ Some k → (s + 1 ≤ k) × (test (get_or xs (k - (s + 1)) d) ≡ true)) → (s ≤ k) × (test (get_or (x ∷ xs) (k - s) d) ≡ true)
    by true is found later =
        let same : s ≡ k = cc in
        let first : k - s ≡ zero = omega arith in
        (omega arith, ap (λ (n : ℕ). test (get_or (x ∷ xs) n d)) first ∙ is)
    by false is found later =
        let more = later found in
        let next : k - s ≡ suc (k - (s + 1)) = omega (arith, more.0) in
        (omega (arith, more.0), ap (λ (n : ℕ). test (get_or (x ∷ xs) n d)) next ∙ more.1)

-- the host that is found by its id has it
pub found_id : (hosts : List HostPlan) (id k : ℕ) (plan : HostPlan) → position_from (λ (h : HostPlan). h.id == id) 0 hosts ≡ Some k → plan ≡ get_or hosts k plan → plan.id ≡ id
found_id hosts id k plan found at =
    let zero_off : k - 0 ≡ k = omega arith in
    ap (λ (h : HostPlan). h.id) at ∙ eqb-true (get_or hosts k plan).id id (rw zero_off at (place_passes (λ (h : HostPlan). h.id == id) 0 k hosts plan found).1)

-- a bundle's host is the network's at the same place
pub host_at : (b : Bundle) (k : ℕ) (plan : HostPlan) → k < length b.hosts.items → plan ≡ get_or b.hosts.items k plan → slice_get (network_of b).hosts k ≡ Some (host_of plan)
host_at b k plan below at =
    slice_get-get_or (network_of b).hosts k (host_of plan) (omega (arith, length-map b.hosts.items host_of)) ∙ ap (λ (h : NetHost). Some h) (host_of_network b k plan ∙ ap host_of (sym at))

-- no host has an id that isn't found
pub no_host : (b : Bundle) (id : ℕ) → position_from (λ (h : HostPlan). h.id == id) 0 b.hosts.items ≡ None → Contains (map (λ h. h.id) (network_of b).hosts) id → ⊥
no_host b id none there =
    let others = All-from_recursion (λ (h : HostPlan). (h.id == id) ≡ false) b.hosts.items (position_from-None (λ (h : HostPlan). h.id == id) 0 b.hosts.items none) in
    let hosts : All (λ (h : NetHost). (h.id == id) ≡ false) (network_of b).hosts = All-map (λ (h : NetHost). (h.id == id) ≡ false) host_of b.hosts.items others in
    let ids : All (λ (n : ℕ). (n == id) ≡ false) (map (λ h. h.id) (network_of b).hosts) = All-map (λ (n : ℕ). (n == id) ≡ false) (λ (h : NetHost). h.id) (network_of b).hosts hosts in
    false≢true (sym (All-contains (λ (n : ℕ). (n == id) ≡ false) (map (λ h. h.id) (network_of b).hosts) id ids there) ∙ eq-eqb id id refl)

-- the limits of a bundle's host
pub plan_limits : (b : Bundle) (k : ℕ) (plan : HostPlan) → k < length b.hosts.items → plan ≡ get_or b.hosts.items k plan → HasLimits (host_of plan)
plan_limits b k plan below at =
    limits_of (host_of plan) (subst (λ (h : NetHost). is_limited_host h ≡ true) (host_of_network b k plan ∙ ap host_of (sym at))
    (passes_at is_limited_host (network_of b).hosts k (host_of plan) (host_limits (network_of b) b.limits) (omega (arith, length-map b.hosts.items host_of))))
