-- A word's reply address tells its transaction and its place there.
use Rattle.std.proofs.Common.{◌≡◌, ◌≤◌, ◌<◌, ◌+◌, ◌-◌, ◌*◌, ◌/◌, ◌%◌, ◌^◌, ℕ, zero, suc, arith, sym, ap, ◌∙◌, length, List}
use Rattle.std.proofs.Math.Nat.{mul-le-mul_right}
use Rattle.std.proofs.Math.ListN.{get_or}
use Rattle.std.proofs.lemmas.List.{get_or_default}
use Rattle.std.proofs.lemmas.List.Elements.{All-get_or}
use Rattle.sb_word.specs.declared.command.Op.{Op}
use Rattle.sb_packet.specs.Scripts.{IsTransaction}
use Rattle.sb_packet.proofs.ReplyAddresses.{span_of_transaction}
use Rattle.sb_packet.specs.declared.transaction.Txn.{Txn}
use Rattle.sb_host.specs.declared.transaction_plan.TransactionPlan.{TransactionPlan}
use Rattle.sb_host.specs.declared.script_plan.ScriptPlan.{ScriptPlan}
use Rattle.sb_host.specs.Places.{IsPlace, asked_of}

some_bytes : (size : ℕ) → size ≤ 3 → 0 < 2 ^ size
some_bytes zero h = omega arith
some_bytes (suc zero) h = omega arith
some_bytes (suc (suc zero)) h = omega arith
some_bytes (suc (suc (suc zero))) h = omega arith
some_bytes (suc (suc (suc (suc n)))) h = absurd (omega arith)

-- a word begins within the addresses of its transaction
pub begins_within : (t : Txn) (k : ℕ) → IsTransaction t → k < t.count → k * 2 ^ t.size < 2048
begins_within t k is below =
    let whole = span_of_transaction t is in
    let some = some_bytes t.size is.size in
    let fits : (k + 1) * 2 ^ t.size ≤ t.count * 2 ^ t.size = mul-le-mul_right (2 ^ t.size) (omega (arith, below)) in
    omega (arith, whole, some, fits)

-- words of that size lie one after another
whole_words : (size x : ℕ) → size ≤ 3 → x % 2 ^ size ≡ 0 → x / 2 ^ size * 2 ^ size ≡ x
whole_words zero x h e = omega arith
whole_words (suc zero) x h e = omega (arith, e)
whole_words (suc (suc zero)) x h e = omega (arith, e)
whole_words (suc (suc (suc zero))) x h e = omega (arith, e)
whole_words (suc (suc (suc (suc n)))) x h e = absurd (omega arith)

-- a place among words
place_of_word : (size k : ℕ) → size ≤ 3 → k * 2 ^ size / 2 ^ size ≡ k
place_of_word zero k h = omega arith
place_of_word (suc zero) k h = omega arith
place_of_word (suc (suc zero)) k h = omega arith
place_of_word (suc (suc (suc zero))) k h = omega arith
place_of_word (suc (suc (suc (suc n)))) k h = absurd (omega arith)

-- what is aligned among all addresses is aligned among those of its transaction
aligned_within : (size id address : ℕ) → size ≤ 3 → id * 2 ^ 40 ≤ address → address % 2 ^ size ≡ 0 → (address - id * 2 ^ 40) % 2048 % 2 ^ size ≡ 0
aligned_within zero id address h low e = omega arith
aligned_within (suc zero) id address h low e = omega (arith, e)
aligned_within (suc (suc zero)) id address h low e = omega (arith, e)
aligned_within (suc (suc (suc zero))) id address h low e = omega (arith, e)
aligned_within (suc (suc (suc (suc n)))) id address h low e = absurd (omega arith)

-- the address of a word of that place
pub place_found : (size id address : ℕ) → size ≤ 3 → id * 2 ^ 40 ≤ address → address % 2 ^ size ≡ 0
    → address ≡ id * 2 ^ 40 + (address - id * 2 ^ 40) / 2048 * 2 ^ 11 + (address - id * 2 ^ 40) % 2048 / 2 ^ size * 2 ^ size
place_found size id address h low e =
    let word = whole_words size ((address - id * 2 ^ 40) % 2048) h (aligned_within size id address h low e) in
    omega (arith, word)

-- where a word that answers one of a script belongs
pub record IsTold (script_plan : ScriptPlan) (size address i k : ℕ) (l : TransactionPlan) : Type 0 where
  pub above : script_plan.id * 2 ^ 40 ≤ address
  pub line : i ≡ (address - script_plan.id * 2 ^ 40) / 2048
  pub word : k ≡ (address - script_plan.id * 2 ^ 40) % 2048 / 2 ^ size

pub place_told : (script_plan : ScriptPlan) (op : Op) (size address i k : ℕ) (l : TransactionPlan) → IsPlace (asked_of script_plan) op size address i k l → IsTold script_plan size address i k l
place_told script_plan op size address i k l is =
    let t : IsTransaction l.txn = rw (sym is.at) at (All-get_or (λ (x : TransactionPlan). IsTransaction x.txn) script_plan.lines.items i l is.transaction script_plan.issuable) in
    let within : k * 2 ^ l.txn.size < 2048 = begins_within l.txn k t is.word in
    let here : k * 2 ^ size < 2048 = rw is.same_size at within in
    let small : size ≤ 3 = rw is.same_size at t.size in
    let place = is.place in
    let low : script_plan.id * 2 ^ 40 ≤ address = omega (arith, place) in
    let line : i ≡ (address - script_plan.id * 2 ^ 40) / 2048 = omega (arith, place, here) in
    let rest : (address - script_plan.id * 2 ^ 40) % 2048 ≡ k * 2 ^ size = omega (arith, place, here) in
    record { above = low; line = line; word = sym (place_of_word size k small) ∙ ap (λ (x : ℕ). x / 2 ^ size) (sym rest) }

-- what stands at one place is one thing
pub same_at : {X : Type 0} (xs : List X) (i j : ℕ) (x y : X) → i ≡ j → i < length xs → x ≡ get_or xs i x → y ≡ get_or xs j y → x ≡ y
same_at xs i j x y same below at_x at_y = at_x ∙ get_or_default xs i x y below ∙ ap (λ (n : ℕ). get_or xs n y) same ∙ sym at_y
