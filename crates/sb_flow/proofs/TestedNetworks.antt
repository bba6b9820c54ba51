-- Networks whose rows are all given are accepted where one test, that computes, finds no fault in them.
use Rattle.std.proofs.Common.{◌≡◌, ℕ, ◌+◌, ◌*◌, ◌%◌, ◌^◌, ◌==◌, ◌&&◌, Bool, true, List, [], ◌∷◌, length, Option, None, Some, is_none, refl, arith}
use Rattle.std.specs.Prelude.{All, nat_le, nat_lt}
use Rattle.std.specs.List.{list_all}
use Rattle.std.proofs.lemmas.Bool.{and_parts, eqb-true, leb-true}
use Rattle.std.proofs.lemmas.List.Elements.{All-cons, All-nil}
use Rattle.sb_packet.specs.Networks.{NetHost, Network}
use Rattle.sb_packet.specs.Scripts.{HasBody, IsOneWordIfAtomic, IsTransaction}
use Rattle.sb_packet.specs.declared.transaction.Kind.{Kind}
use Rattle.sb_packet.specs.declared.transaction.Kind.TheVariants.{Atomic, Posted, Read, Write}
use Rattle.sb_packet.specs.declared.transaction.Txn.{Txn}
use Rattle.sb_flow.specs.Accepted.{IsAccepted, is_limited, misplaced_device, names_what_is_there, overfull_device, overlapping_device, repeated_id, repeated_link_name, repeated_name, route_fault, word_count}
use Rattle.sb_flow.specs.Ends.{backward_link, odd_width, unfit_link, unlinked_place}

-- a line can be issued
abbrev has_atomic : Kind → ℕ → Bool
has_atomic (Atomic atomic) count = count == 1
has_atomic Read count = true
has_atomic Write count = true
has_atomic Posted count = true

abbrev has_body : Kind → ℕ → ℕ → Bool
has_body Read span bytes = bytes == 0
has_body Write span bytes = bytes == span
has_body Posted span bytes = bytes == span
has_body (Atomic type) span bytes = bytes == span

abbrev is_issuable : Txn → Bool
is_issuable t = nat_le t.size 3 && nat_lt 0 t.count && nat_le t.count 256 && has_atomic t.kind t.count && has_body t.kind (t.count * 2 ^ t.size) (length t.body)
    && (t.addr % 2 ^ t.size == 0) && nat_le (t.addr % 4096 + t.count * 2 ^ t.size) 4096 && nat_lt t.addr (2 ^ 56)

atomic_then : (k : Kind) (count : ℕ) → has_atomic k count ≡ true → IsOneWordIfAtomic k count
atomic_then (Atomic atomic) count e = eqb-true count 1 e
atomic_then Read count e = tt
atomic_then Write count e = tt
atomic_then Posted count e = tt

no_bytes : (body : List ℕ) → (length body == 0) ≡ true → body ≡ []
no_bytes [] e = refl
no_bytes (b ∷ body) e = let zero = eqb-true (length (b ∷ body)) 0 e in absurd (omega (arith, zero))

body_then : (k : Kind) (span : ℕ) (body : List ℕ) → has_body k span (length body) ≡ true → HasBody k span body
body_then Read span body e = no_bytes body e
body_then Write span body e = eqb-true (length body) span e
body_then Posted span body e = eqb-true (length body) span e
body_then (Atomic type) span body e = eqb-true (length body) span e

issuable : (t : Txn) → is_issuable t ≡ true → IsTransaction t
issuable t e = record {
  size = grind (arith, e);
  some = grind (arith, e);
  most = grind (arith, e);
  atomic = atomic_then t.kind t.count (grind (arith, e));
  body = body_then t.kind (t.count * 2 ^ t.size) t.body (grind (arith, e));
  aligned = grind (arith, e);
  page = grind (arith, e);
  range = grind (arith, e);
}

-- so can the lines of all hosts
all_issuable : (lines : List Txn) → list_all is_issuable lines ≡ true → All IsTransaction lines
all_issuable [] e = All-nil IsTransaction
all_issuable (t ∷ lines) e = let both = and_parts (is_issuable t) (list_all is_issuable lines) e in All-cons IsTransaction t lines (issuable t both.0) (all_issuable lines both.1)

abbrev has_lines : NetHost → Bool
has_lines host = list_all is_issuable host.script

hosts_issuable : (hosts : List NetHost) → list_all has_lines hosts ≡ true → All (λ host. All IsTransaction host.script) hosts
hosts_issuable [] e = All-nil (λ (host : NetHost). All IsTransaction host.script)
hosts_issuable (host ∷ hosts) e = let both = and_parts (has_lines host) (list_all has_lines hosts) e in
    All-cons (λ (host : NetHost). All IsTransaction host.script) host hosts (all_issuable host.script both.0) (hosts_issuable hosts both.1)

-- Each test finds no fault.
abbrev pub has_no_fault : Network → Bool
has_no_fault network =
    is_limited network && is_none (repeated_name network) && is_none (repeated_link_name network) && names_what_is_there network && is_none (repeated_id network)
    && is_none (misplaced_device network) && is_none (overlapping_device network) && is_none (overfull_device network)
    && is_none (odd_width network) && is_none (unfit_link network) && is_none (backward_link network) && is_none (unlinked_place network)
    && list_all has_lines network.hosts && is_none (route_fault network) && nat_le (word_count network) 262144

none_found : {A : Type 0} (found : Option A) → is_none found ≡ true → found ≡ None
none_found None e = refl
none_found (Some a) e = let no_way : ⊥ = cc in absurd no_way

pub accepted_by_test : (network : Network) → has_no_fault network ≡ true → IsAccepted network
accepted_by_test network e =
    let words = and_parts _ _ e in
    let routes = and_parts _ _ words.0 in
    let lines = and_parts _ _ routes.0 in
    let linked = and_parts _ _ lines.0 in
    let forward = and_parts _ _ linked.0 in
    let ends = and_parts _ _ forward.0 in
    let widths = and_parts _ _ ends.0 in
    let images = and_parts _ _ widths.0 in
    let apart = and_parts _ _ images.0 in
    let placed = and_parts _ _ apart.0 in
    let ids = and_parts _ _ placed.0 in
    let named = and_parts _ _ ids.0 in
    let link_names = and_parts _ _ named.0 in
    let names = and_parts _ _ link_names.0 in
    record {
      limits = names.0;
      names = none_found _ names.1;
      link_names = none_found _ link_names.1;
      named = named.1;
      ids = none_found _ ids.1;
      placed = none_found _ placed.1;
      apart = none_found _ apart.1;
      images = none_found _ images.1;
      widths = none_found _ widths.1;
      ends = none_found _ ends.1;
      forward = none_found _ forward.1;
      linked = none_found _ linked.1;
      lines = hosts_issuable network.hosts lines.1;
      routes = none_found _ routes.1;
      words = leb-true (word_count network) 262144 words.1;
    }
