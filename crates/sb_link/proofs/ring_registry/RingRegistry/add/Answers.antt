-- add: the new row has no end, and all other ends stay.
use Rattle.std.proofs.Common.{ap, ◌∙◌, List, refl}
use Rattle.std.specs.Prelude.{None}
use Rattle.sb_link.specs.declared.registered_ring.RegisteredRing.{RegisteredRing}
use Rattle.sb_link.specs.Registries.{end_of}
use Rattle.sb_link.proofs.Rows.{ends_added, none_of_new, new_rows}
use Rattle.sb_link.proofs.ring_registry.RingRegistry.add.Goals as goal

pub returns-clause-ends : goal.returns-clause-ends
returns-clause-ends g c ring = ap (λ (l : List (RegisteredRing g.row.E.Denot)). end_of l ring) c.in_ok-push.ensures.items ∙ ends_added _ record { plan = c.args.plan.now; end = None } refl ring

pub returns-clause-unsettled : goal.returns-clause-unsettled
returns-clause-unsettled g c = let ring = c.args.plan.now.ring in
    ap (λ (l : List (RegisteredRing g.row.E.Denot)). end_of l ring) c.in_ok-push.ensures.items ∙ ends_added _ record { plan = c.args.plan.now; end = None } refl ring
    ∙ none_of_new c.args.self.now.rows.items ring (new_rows c.args.self.now.rows.items ring c.requires.new)
