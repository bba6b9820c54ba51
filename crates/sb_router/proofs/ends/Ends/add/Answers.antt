-- add: each port that is added is whole.
use Rattle.std.proofs.Common.{All, sym, subst}
use Rattle.std.proofs.lemmas.List.Elements.{All-push}
use Rattle.sb_router.specs.Forwarding.{IsWholeOutlet}
use Rattle.sb_router.proofs.ends.Ends.add.Goals as goal

pub returns-clause-whole : goal.returns-clause-whole
returns-clause-whole g c = λ all.
    subst (All IsWholeOutlet) (sym c.in_ok-push-2.ensures.items) (All-push IsWholeOutlet c.args.self.now.outlets.items c.new-2.result all (record { fit = c.new-2.ensures.fit }))
