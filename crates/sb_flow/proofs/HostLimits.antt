-- The limits of the hosts of a network, and the words of their scripts.
use Rattle.std.proofs.Common.{◌≡◌, ◌≤◌, ◌<◌, ℕ, zero, suc, arith, sym, subst, length, List, [], ◌∷◌, Bool, true}
use Rattle.std.specs.Prelude.{◌&&◌, get_or, nat_le}
use Rattle.std.specs.List.{list_all}
use Rattle.std.proofs.lemmas.Bool.{and_parts}
use Rattle.std.proofs.lemmas.Bool.Decides.{nat_tests}
use Rattle.std.proofs.lemmas.List.{length-map}
use Rattle.sb_packet.specs.Networks.{NetHost, Network}
use Rattle.sb_flow.specs.Accepted.{is_limited, is_limited_host}
use Rattle.sb_flow.specs.NetworkOf.{network_of}
use Rattle.sb_flow.specs.Rows.{host_of}
use Rattle.sb_flow.specs.declared.bundle.Bundle.{Bundle}
use Rattle.sb_flow.specs.declared.host_plan.HostPlan.{HostPlan}
use Rattle.sb_flow.proofs.Bundles.{host_of_network}

-- what all pass one passes
pub passes_at : {X : Type 0} (test : X → Bool) (xs : List X) (i : ℕ) (d : X) → list_all test xs ≡ true → i < length xs → test (get_or xs i d) ≡ true
passes_at test [] i d all below = absurd (omega arith)
passes_at test (x ∷ xs) zero d all below = (and_parts (test x) (list_all test xs) all).0
passes_at test (x ∷ xs) (suc i) d all below = passes_at test xs i d (and_parts (test x) (list_all test xs) all).1 (omega arith)

pub host_limits : (network : Network) → is_limited network ≡ true → list_all is_limited_host network.hosts ≡ true
host_limits network h = grind (arith, h)

-- the limits of a host of a bundle
pub record HasLimits (h : NetHost) : Type 0 where
  pub id : h.id ≤ 31
  pub qos : h.qos ≤ 15
  pub prot : h.prot ≤ 3
  pub few : length h.script ≤ 65536

pub limits_of : (h : NetHost) → is_limited_host h ≡ true → HasLimits h
limits_of h e =
    let three = and_parts (nat_le h.id 31 && nat_le h.qos 15 && nat_le h.prot 3) (nat_le (length h.script) 65536) e in
    let two = and_parts (nat_le h.id 31 && nat_le h.qos 15) (nat_le h.prot 3) three.0 in
    let one = and_parts (nat_le h.id 31) (nat_le h.qos 15) two.0 in
    let a = one.0 in
    let b = one.1 in
    let c = two.1 in
    let d = three.1 in
    record { id = grind (arith, nat_tests); qos = grind (arith, nat_tests); prot = grind (arith, nat_tests); few = grind (arith, nat_tests) }

-- a bundle has few hosts
pub few_hosts : (b : Bundle) → length (network_of b).hosts ≤ 32
few_hosts b = grind (arith, b.limits)

-- no script of a bundle is too long
pub scripts_short : (b : Bundle) (hosts : List HostPlan) → hosts ≡ b.hosts.items → (k : ℕ) (h : HostPlan) → k < length hosts → length (get_or hosts k h).script ≤ 65536
scripts_short b hosts are k h lt =
    let below : k < length (network_of b).hosts = omega (arith, subst (λ list. k < length list) are lt, length-map b.hosts.items host_of) in
    let passes = passes_at is_limited_host (network_of b).hosts k (host_of h) (host_limits (network_of b) b.limits) below in
    let few = (limits_of (host_of (get_or b.hosts.items k h)) (subst (λ (n : NetHost). is_limited_host n ≡ true) (host_of_network b k h) passes)).few in
    subst (λ list. length (get_or list k h).script ≤ 65536) (sym are) few
