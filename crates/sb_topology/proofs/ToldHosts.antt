-- Hosts whose scripts were read: their names and ids are those that are written, and they keep the limits.
use Rattle.std.proofs.Common.{◌≡◌, ◌≤◌, ℕ, suc, ◌+◌, true, ◌&&◌, List, [], ◌∷◌, ◌++◌, length, map, refl, ap, sym, subst, ◌∙◌, arith, append_assoc, length-append, Option, Some, None, Ok}
use Rattle.std.specs.Prelude.{nat_le}
use Rattle.std.specs.List.{list_all}
use Rattle.std.proofs.lemmas.Bool.{and_parts, le-leb, leb-true}
use Rattle.std.proofs.lemmas.List.{append-nil}
use Rattle.sb_packet.specs.Networks.{NetHost}
use Rattle.sb_packet.specs.declared.transaction.Txn.{Txn}
use Rattle.sb_text.specs.Scripts.{before}
use Rattle.sb_text.specs.Sentences.{line_of}
use Rattle.sb_flow.specs.Accepted.{is_limited_host}
use Rattle.sb_fields.specs.Written.{WrittenHost}
use Rattle.sb_topology.specs.Lines.{hosts_by, said_by, script_by, told_host}
use Rattle.sb_topology.proofs.Chains.{bind_ok}
use Rattle.sb_topology.proofs.CountedLimits.{host_fits}

one_at_most : (txn : Option Txn) → length (before txn []) ≤ 1
one_at_most None = omega arith
one_at_most (Some txn) = omega arith

-- a script has no more transactions than lines
script_short : (host number : ℕ) (found : List Txn) (lines : List (List ℕ)) (txns : List Txn) → script_by host number found lines ≡ Ok txns → length txns ≤ length found + length lines
script_short host number found [] txns e = let same : found ≡ txns = cc in omega (arith, ap length same)
script_short host number found (line ∷ lines) txns e =
    let parts = bind_ok (said_by host number (line_of line)) (λ txn. script_by host (number + 1) (found ++ before txn []) lines) txns e in
    let rest = script_short host (number + 1) (found ++ before parts.0 []) lines txns parts.2 in
    omega (arith, rest, length-append found (before parts.0 []), one_at_most parts.0)

pub record Told (h : WrittenHost) (t : NetHost) : Type 0 where
  pub name : t.name ≡ h.name
  pub id : t.id ≡ h.id
  pub fits : host_fits h ≡ true → is_limited_host t ≡ true

told_then : (number : ℕ) (h : WrittenHost) (t : NetHost) → told_host number h ≡ Ok t → Told h t
told_then number h t e =
    let made = λ (script : List Txn). (let host : NetHost = record { name = h.name; id = h.id; qos = h.qos; prot = h.prot; script = script } in host) in
    let read = bind_ok (script_by number 1 [] h.script) (λ script. Ok (made script)) t e in
    let is : made read.0 ≡ t = cc read.2 in
    subst (Told h) is (record {
      name = refl;
      id = refl;
      fits = λ fits. (
          let parts = and_parts (nat_le h.id 31 && nat_le h.qos 15 && nat_le h.prot 3) (nat_le (length h.script) 65536) fits in
          let short : length read.0 ≤ 0 + length h.script = script_short number 1 [] h.script read.0 read.1 in
          let few : length h.script ≤ 65536 = leb-true (length h.script) 65536 parts.1 in
          rw (parts.0, le-leb (length read.0) 65536 (omega arith)) refl);
    })

-- all hosts behind those that were read
pub record ToldBehind (found : List NetHost) (hs : List WrittenHost) (all : List NetHost) : Type 0 where
  pub rows : List NetHost
  pub all_are : all ≡ found ++ rows
  pub names : map (λ t. t.name) rows ≡ map (λ h. h.name) hs
  pub ids : map (λ t. t.id) rows ≡ map (λ h. h.id) hs
  pub many : length rows ≡ length hs
  pub fit : list_all host_fits hs ≡ true → list_all is_limited_host rows ≡ true

pub hosts_by_then : (i : ℕ) (found : List NetHost) (hs : List WrittenHost) (all : List NetHost) → hosts_by i found hs ≡ Ok all → ToldBehind found hs all
hosts_by_then i found [] all e = let same : found ≡ all = cc in record { rows = []; all_are = sym same ∙ sym (append-nil found); names = refl; ids = refl; many = refl; fit = λ h. refl }
hosts_by_then i found (h ∷ hs) all e =
    let parts = bind_ok (told_host i h) (λ told. hosts_by (i + 1) (found ++ told ∷ []) hs) all e in
    let told = parts.0 in
    let one = told_then i h told parts.1 in
    let rest = hosts_by_then (i + 1) (found ++ told ∷ []) hs all parts.2 in
    record {
      rows = told ∷ rest.rows;
      all_are = rest.all_are ∙ append_assoc found (told ∷ []) rest.rows;
      names = rw (one.name, rest.names) refl;
      ids = rw (one.id, rest.ids) refl;
      many = ap (λ (n : ℕ). suc n) rest.many;
      fit = λ fits. (let both = and_parts (host_fits h) (list_all host_fits hs) fits in rw (one.fits both.0, rest.fit both.1) refl);
    }
