-- A transaction that is aimed at the memory needs an entry for each of its packets, and 32 bytes of answers for each.
use Rattle.std.proofs.Common.{◌≡◌, ◌*◌, ◌∙◌, ℕ, ap, sym, true}
use Rattle.sb_packet.specs.Networks.{has_address}
use Rattle.sb_solo.specs.Solo.{solo_device}
use Rattle.sb_solo.proofs.solo.room_of.Goals as goal

pub returns-then-is_aimed-clause-entries : goal.returns-then-is_aimed-clause-entries
returns-then-is_aimed-clause-entries c =
    let aimed : has_address c.args.txn.now.addr solo_device ≡ true = sym c.is_aimed.ensures ∙ c.if-is_aimed.true in
    rw aimed (c.packets-entries.ensures.packets 0 0 0 0)

pub returns-then-is_aimed-clause-bytes : goal.returns-then-is_aimed-clause-bytes
returns-then-is_aimed-clause-bytes c =
    let aimed : has_address c.args.txn.now.addr solo_device ≡ true = sym c.is_aimed.ensures ∙ c.if-is_aimed.true in
    rw aimed (ap (λ (n : ℕ). 32 * n) (c.packets-entries.ensures.packets 0 0 0 0))
