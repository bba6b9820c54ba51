-- The pile of the node has one thing more.
use Rattle.std.proofs.Common.{◌++◌, ◌∷◌, [], set, ap, sym, ◌∙◌}
use Rattle.sb_net.specs.Legs.{piles_of}
use Rattle.sb_net.proofs.Piles.{pile_there, piles_set}
use Rattle.sb_net.proofs.making.dealing.deal.Goals as goal

pub returns-clause-dealt : goal.returns-clause-dealt
returns-clause-dealt g c =
    piles_set c.args.piles.now.items c.args.node c.push.new.self
    ∙ ap (set (piles_of c.args.piles.now.items) c.args.node) (c.in_ok-push.ensures.items
    ∙ ap (λ xs. xs ++ c.args.thing ∷ []) (ap (λ v. v.items) (c.index_mut-pile.ensures.value) ∙ sym (pile_there c.args.piles.now.items c.args.node c.index_mut-pile.result.now c.requires.within)))
