-- Losing a transaction that is aimed at no device adds the outcome that the answers to its words come to.
use Rattle.std.proofs.Common.{◌≡◌, ◌++◌, ◌∷◌, [], ◌∙◌, ap, sym, refl, false}
use Rattle.sb_packet.specs.Networks.{has_address}
use Rattle.sb_packet.specs.Answers.{Outcome}
use Rattle.sb_solo.specs.Solo.{solo_device}
use Rattle.sb_solo.proofs.UnreachedLemmas.{outcome_of_lost}
use Rattle.sb_solo.proofs.solo.perform.Goals as goal

pub returns-else-is_aimed-clause-outcomes : goal.returns-else-is_aimed-clause-outcomes
returns-else-is_aimed-clause-outcomes c =
    let t = c.args.txn.now in
    let elsewhere : has_address t.addr solo_device ≡ false = sym c.is_aimed.ensures ∙ c.if-is_aimed.false in
    rw elsewhere (c.lose.ensures.outcomes ∙ ap (λ (o : Outcome). c.args.outcomes.now.outcomes ++ o ∷ []) (sym (outcome_of_lost c.args.index t c.requires.txn.some t.kind refl)))
