-- A packet is a part where it has its fields, its place and its bytes.
use Rattle.std.proofs.Common.{◌≡◌, ◌≤◌, ◌+◌, ℕ, Bool, true, false, not, List, refl, ap, ◌∙◌}
use Rattle.std.specs.Prelude.{◌==◌, bytes_eq}
use mathlib.Core.Bool.{beq}
use Rattle.sb_packet.specs.Messages.{message_of}
use Rattle.sb_packet.specs.Scripts.{transaction_message}
use Rattle.sb_flow.specs.Rows.{host_of}
use Rattle.sb_check.proofs.MessageParts.{part_no, part_yes, shares_if_part}
use Rattle.sb_check.proofs.part.is_part.Goals as goal

same_bools : (a b : Bool) → not (beq a b) ≡ false → a ≡ b
same_bools true true same = refl
same_bools true false same = absurd (cc)
same_bools false true same = absurd (cc)
same_bools false false same = refl

pub returns-then-not-shares_fields-clause-no : goal.returns-then-not-shares_fields-clause-no
returns-then-not-shares_fields-clause-no c = λ is.
    let m = transaction_message (host_of c.args.plan.now) c.args.number c.args.txn.now in
    (rw c.if-not-shares_fields.true at (c.shares_fields.ensures.no c.args.number)) (shares_if_part m (message_of c.args.packet.now) c.args.from is)

pub returns-clause-yes : goal.returns-clause-yes
returns-clause-yes c =
    let m = transaction_message (host_of c.args.plan.now) c.args.number c.args.txn.now in
    let p = message_of c.args.packet.now in
    let shares = rw c.if-not-shares_fields.false at (c.shares_fields.ensures.yes c.args.number) in
    let lies = rw (c.if-not-lies_at.false, c.from-first.ensures) at c.lies_at.ensures.yes in
    let same : c.are_same.result ≡ bytes_eq p.bytes c.share.result.now = c.are_same.ensures ∙ ap (λ (x : List ℕ). bytes_eq x c.share.result.now) c.carried.ensures in
    let all = rw (c.word_count-count.ensures.words, c.from-first.ensures) at c.share.ensures in
    let first = c.from-first.ensures in
    let count = c.word_count-count.ensures.words in
    let words = c.from-words.ensures in
    let most = c.if-first-count.false in
    let within : c.args.from + p.count ≤ m.count = rw (first, count, words) at most in
    let tested : p.eom ≡ (c.from-first.result + c.word_count-count.result == c.from-words.result) = same_bools _ _ c.if-packet-first.false in
    let eom : p.eom ≡ (c.args.from + p.count == m.count) = rw (first, count, words) at tested in
    part_yes m p c.args.from c.share.result.now c.are_same.result same all within eom shares lies

pub returns-clause-no : goal.returns-clause-no
returns-clause-no c =
    let m = transaction_message (host_of c.args.plan.now) c.args.number c.args.txn.now in
    let p = message_of c.args.packet.now in
    let same : c.are_same.result ≡ bytes_eq p.bytes c.share.result.now = c.are_same.ensures ∙ ap (λ (x : List ℕ). bytes_eq x c.share.result.now) c.carried.ensures in
    let all = rw (c.word_count-count.ensures.words, c.from-first.ensures) at c.share.ensures in
    part_no m p c.args.from c.share.result.now c.are_same.result same all
