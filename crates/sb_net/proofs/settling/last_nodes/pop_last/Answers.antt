-- The group at the number's place gives out the last node of all.
use Rattle.std.proofs.Common.{◌≡◌, ◌++◌, ◌∷◌, [], sym, ap, subst}
use Rattle.std.specs.Prelude.{IfNone, IfSome}
use Rattle.sb_net.proofs.DealtLast.{gives_last}
use Rattle.sb_net.proofs.settling.last_nodes.pop_last.Goals as goal

pub returns : goal.returns
returns g c =
    let group = c.index-groups-number.result in
    let then = c.pop.new.self in
    let given = gives_last c.args.groups.now c.args.number c.requires.dealt c.requires.last group then c.index-groups-number.is c.pop.result
    (subst (λ x. IfSome c.pop.result (λ node. x.nodes.items ≡ then.nodes.items ++ node ∷ [])) (sym c.index-groups-number.is) c.pop.ensures.some)
    (subst (λ x. IfNone c.pop.result (x.nodes.items ≡ [])) (sym c.index-groups-number.is) c.pop.ensures.none) in
    record { some = given.some; dealt = given.dealt; total = given.total; taken = given.taken }
