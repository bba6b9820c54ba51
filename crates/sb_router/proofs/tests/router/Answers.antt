-- The router has the ports of the four legs.
use Rattle.std.proofs.Common.{◌≡◌, List, [], ◌∷◌, ◌++◌, All, map, sym, ap, ◌∙◌, subst}
use Rattle.std.proofs.lemmas.List.Elements.{All-cons, All-nil}
use Rattle.sb_port.specs.Ports.{PortSide, fresh_port}
use Rattle.sb_router.specs.Lanes.{IsFreshPair}
use Rattle.sb_router.proofs.tests.router.Goals as goal

-- what holds of two holds of a list of them
both : {X : Type 0} (P : X → Type 0) (xs : List X) (x y : X) → xs ≡ x ∷ y ∷ [] → P x → P y → All P xs
both P xs x y is first second = subst (All P) (sym is) (All-cons P x (y ∷ []) first (All-cons P y [] second (All-nil P)))

pub new-requires-clause-ins : goal.new-requires-clause-ins
new-requires-clause-ins g c κs within = both (λ leg. IsFreshPair g.F.Tx.TxEnd g.F.Rx.RxEnd leg.answers leg.requests) c.in_ok-ins.ins.items c.args.first c.args.second c.in_ok-ins.ensures.items c.requires.first c.requires.second

pub new-requires-clause-outs : goal.new-requires-clause-outs
new-requires-clause-outs g c κs within = both (λ leg. IsFreshPair g.F.Tx.TxEnd g.F.Rx.RxEnd leg.requests leg.answers) c.in_ok-outs.outs.items c.args.third c.args.fourth c.in_ok-outs.ensures.items c.requires.third c.requires.fourth

pub returns-clause-ports : goal.returns-clause-ports
returns-clause-ports g c =
    let tx = g.F.Tx.TxEnd in
    let r = c.in_ok-router.router in
    let requests = c.in_ok-router.ensures.requests_out ∙ ap (map (λ leg. fresh_port tx leg.requests)) c.in_ok-outs.ensures.items in
    let answers = c.in_ok-router.ensures.answers_out ∙ ap (map (λ leg. fresh_port tx leg.answers)) c.in_ok-ins.ensures.items in
    ap (λ (ports : List PortSide). ports ++ r.answers.lane.outlets) requests
    ∙ ap (λ (ports : List PortSide). (fresh_port tx c.args.third.requests ∷ fresh_port tx c.args.fourth.requests ∷ []) ++ ports) answers
