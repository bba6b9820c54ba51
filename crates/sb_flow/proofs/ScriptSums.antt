-- Some of a script's words are no more than all.
use Rattle.std.proofs.Common.{◌≡◌, ◌≤◌, ◌<◌, ℕ, ◌+◌, Bool, true, false, List, length, take, get_or, ap, arith}
use Rattle.std.specs.Prelude.{sum_by, if◌then◌else◌}
use Rattle.std.proofs.lemmas.List.Sums.{sum_by_more_le_part}
use Rattle.sb_packet.specs.Networks.{NetDevice, has_address}
use Rattle.sb_flow.specs.Rings.{answered_at, is_answered_kind, words_at}
use Rattle.sb_packet.specs.declared.transaction.Txn.{Txn}

-- a number or nothing is no more than the number
pub if-le : (b : Bool) (n : ℕ) → (if b then n else 0) ≤ n
if-le true n = omega arith
if-le false n = omega arith

-- a transaction has no more words at a device than in all
pub words_at-le : (device : NetDevice) (t : Txn) → words_at device t ≤ t.count
words_at-le device t = if-le (has_address t.addr device) t.count

pub answered_at-le-words : (device : NetDevice) (t : Txn) → answered_at device t ≤ words_at device t
answered_at-le-words device t = if-le (is_answered_kind t.kind) (words_at device t)

pub answered_at-le : (device : NetDevice) (t : Txn) → answered_at device t ≤ t.count
answered_at-le device t = omega (arith, if-le (is_answered_kind t.kind) (words_at device t), words_at-le device t)

-- the words of a transaction that count, beside those before it, are no more than all
pub words_fit : (f : Txn → ℕ) (script : List Txn) (i : ℕ) (x : Txn) (words one : ℕ) → ((t : Txn) → f t ≤ t.count) → i < length script → x ≡ get_or script i x → words ≡ sum_by f (take i script) → one ≡ f x → words + one ≤ sum_by (λ t. t.count) script
words_fit f script i x words one le h at so_far this =
    omega (arith, sum_by_more_le_part f (λ t. t.count) script i x h le, ap (λ (t : Txn). t.count) at, le x)
