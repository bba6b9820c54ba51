-- turn: both directions took their turns.
use Rattle.std.proofs.Common.{◌≡◌, ◌||◌, true, ap}
use Rattle.std.proofs.lemmas.Bool.{or_left, or_right}
use Rattle.sb_link.specs.declared.answers.Turn.TheVariants.{Moved}
use Rattle.sb_router.specs.RouterOf.{lane_of}
use Rattle.sb_router.proofs.RouterTurning.{both_turned, found_done, some_cause}
use Rattle.sb_router.proofs.router_core.RouterCore.turn.Goals.{then-requests-via-then-requests, then-requests-via-else-requests+then-answers}
use Rattle.sb_router.proofs.router_core.RouterCore.turn.Goals as goal

pub returns-then-requests : goal.returns-then-requests
returns-then-requests g c =
    let old = c.args.self.now in
    let p = c.turn-requests in
    let q = c.turn-answers in
    let moved : (p.result.moved || q.result.moved) ≡ true = elim c.then-requests.branch [
      | then-requests-via-then-requests w ↦ or_left p.result.moved q.result.moved w.if-requests.true
      | then-requests-via-else-requests+then-answers w ↦ or_right p.result.moved q.result.moved w.if-answers.true
    ] in
    let taken = both_turned old.requests.routes.rows.items old.answers.routes.rows.items (ap (λ routes. routes.rows.items) p.ensures.routes) (ap (λ routes. routes.rows.items) q.ensures.routes)
    p.ensures.turned q.ensures.turned p.ensures.whole q.ensures.whole Moved moved in
    record { turned = taken.turned; kept = taken.kept; rested = taken.rested; whole = taken.whole }

pub turn-requires : goal.turn-requires
turn-requires g c =
    let old = c.args.self.now in
    let p = c.turn-requests in
    let q = c.turn-answers in
    let a = lane_of p.new.self in
    let b = lane_of q.new.self in
    record {
      cause = λ still undone. some_cause old.requests.routes.rows.items old.answers.routes.rows.items c.both-found.result c.is_done.result c.is_done-2.result p.ensures.turned q.ensures.turned p.ensures.whole q.ensures.whole
          c.both-found.ensures.both c.is_done.ensures.done c.is_done-2.ensures.done still undone;
    }

pub returns : goal.returns
returns g c =
    let old = c.args.self.now in
    let p = c.turn-requests in
    let q = c.turn-answers in
    let a = lane_of p.new.self in
    let b = lane_of q.new.self in
    let taken = both_turned old.requests.routes.rows.items old.answers.routes.rows.items (ap (λ routes. routes.rows.items) p.ensures.routes) (ap (λ routes. routes.rows.items) q.ensures.routes)
    p.ensures.turned q.ensures.turned p.ensures.whole q.ensures.whole c.turn.result
    (found_done a b c.both-found.result p.result q.result c.is_done.result c.is_done-2.result c.turn.result p.ensures.whole.inlets q.ensures.whole.inlets c.both-found.ensures.both c.is_done.ensures.done c.is_done-2.ensures.done c.turn.ensures) in
    record { turned = taken.turned; kept = taken.kept; rested = taken.rested; whole = taken.whole }
