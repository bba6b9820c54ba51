-- A host's script has lines that can be issued, and that it has them is one fact.
use Rattle.std.specs.Prelude.{ℕ, ◌*◌, ◌^◌, List, All}
use Rattle.std.specs.Coded.{coded_list, coded_ℕ, Coded-set, le_prop, Unit-prop}
use Rattle.sb_packet.specs.Scripts.{HasBody, IsOneWordIfAtomic, IsTransaction}
use Rattle.sb_packet.specs.declared.transaction.Kind.{Kind}
use Rattle.sb_packet.specs.declared.transaction.Kind.TheVariants.{Read, Write, Posted, Atomic}
use Rattle.sb_packet.specs.declared.transaction.Txn.{Txn}

-- a line has its body in one way at most, and so with its atomic
HasBody-prop : (k : Kind) (span : ℕ) (body : List ℕ) → IsProp (HasBody k span body)
HasBody-prop Read span body = hlevel (Coded-set (coded_list coded_ℕ))
HasBody-prop Write span body = hlevel (Coded-set coded_ℕ)
HasBody-prop Posted span body = hlevel (Coded-set coded_ℕ)
HasBody-prop (Atomic type) span body = hlevel (Coded-set coded_ℕ)

IsOneWordIfAtomic-prop : (k : Kind) (count : ℕ) → IsProp (IsOneWordIfAtomic k count)
IsOneWordIfAtomic-prop Read count = Unit-prop
IsOneWordIfAtomic-prop Write count = Unit-prop
IsOneWordIfAtomic-prop Posted count = Unit-prop
IsOneWordIfAtomic-prop (Atomic type) count = hlevel (le_prop, Coded-set coded_ℕ)

-- a line can be issued
pub IsTransaction-prop : (t : Txn) → IsProp (IsTransaction t)
IsTransaction-prop t = hlevel (le_prop, Coded-set coded_ℕ, HasBody-prop t.kind (t.count * 2 ^ t.size) t.body, IsOneWordIfAtomic-prop t.kind t.count)

-- all lines of a script can be issued
pub AreIssuable-prop : (script : List Txn) → IsProp (All IsTransaction script)
AreIssuable-prop script = hlevel IsTransaction-prop
