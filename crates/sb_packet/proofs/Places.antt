-- Where the words of a transaction lie, and their answers: within 56 bits, at multiples of the word.
use Rattle.std.proofs.Common.{◌≡◌, ◌≤◌, ◌<◌, ℕ, zero, suc, ◌+◌, ◌*◌, ◌%◌, ◌^◌, arith, ◌∙◌}
use Rattle.std.proofs.Math.Nat.{add-mul-mod_self_right}
use Rattle.sb_packet.specs.Scripts.{IsTransaction, reply_address}
use Rattle.sb_packet.specs.declared.transaction.Txn.{Txn}
use Rattle.sb_packet.proofs.ReplyAddresses.{span_of_transaction}

-- a transaction ends within 56 bits
pub transaction_ends : (t : Txn) → IsTransaction t → t.addr + t.count * 2 ^ t.size ≤ 2 ^ 56
transaction_ends t is =
    let low : t.addr < 2 ^ 56 = is.range in
    let page : t.addr % 4096 + t.count * 2 ^ t.size ≤ 4096 = is.page in
    omega (arith, low, page)

-- so do the answers to one of at most 65,536 of a host with one of 32 ids
pub replies_end : (id i : ℕ) (t : Txn) → id ≤ 31 → i < 65536 → IsTransaction t → reply_address id i + t.count * 2 ^ t.size ≤ 2 ^ 56
replies_end id i t low few is = let short : t.count * 2 ^ t.size ≤ 2048 = span_of_transaction t is in omega (arith, short)

-- a reply address is a multiple of each word
pub reply_address_aligned : (id i size : ℕ) → size ≤ 3 → reply_address id i % 2 ^ size ≡ 0
reply_address_aligned id i zero h = omega arith
reply_address_aligned id i (suc zero) h = omega arith
reply_address_aligned id i (suc (suc zero)) h = omega arith
reply_address_aligned id i (suc (suc (suc zero))) h = omega arith
reply_address_aligned id i (suc (suc (suc (suc n)))) h = absurd (omega arith)

-- some words behind a multiple of the word there is another
pub words_aligned : (address j size : ℕ) → address % 2 ^ size ≡ 0 → (address + j * 2 ^ size) % 2 ^ size ≡ 0
words_aligned address j size h = add-mul-mod_self_right address j (2 ^ size) ∙ h
