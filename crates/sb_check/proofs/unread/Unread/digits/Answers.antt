-- There are too few digits, or others.
use Rattle.std.proofs.Common.{ℕ, ◌≡◌, ◌∙◌, subst, take, arith}
use Rattle.hex.specs.Hex.{encode_lower}
use Rattle.sb_check.proofs.MatchLemmas.{begins_front, differs_short, length-encode_lower}
use Rattle.sb_check.proofs.unread.Unread.digits.Goals as goal

pub returns-then-self-bytes : goal.returns-then-self-bytes
returns-then-self-bytes c = record { matched = record { matched = tt; differs = differs_short (encode_lower c.args.bytes.now) c.args.self.now.rest.now (omega (arith, length-encode_lower c.args.bytes.now, c.if-self-bytes.true)) } }

pub returns-then-not-are_digits_of : goal.returns-then-not-are_digits_of
returns-then-not-are_digits_of c =
    let bytes = c.args.bytes.now in
    let rest = c.args.self.now.rest.now in
    record { matched = record { matched = tt; differs = λ begins. c.if-not-are_digits_of.ensures.no (c.split_at.ensures.front ∙ subst (λ (n : ℕ). take n rest ≡ encode_lower bytes) (length-encode_lower bytes) (begins_front (encode_lower bytes) rest begins)) } }
