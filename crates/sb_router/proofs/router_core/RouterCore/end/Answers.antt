-- end: the place is one of requests, or one of answers.
use Rattle.std.proofs.Common.{◌≡◌, ◌<◌, length, refl, ◌∙◌, arith}
use Rattle.sb_node.specs.Sides.{ring_side}
use Rattle.sb_router.proofs.Lent.{ring_of_answers, ring_of_requests, with_ring_of_answers, with_ring_of_requests}
use Rattle.sb_router.proofs.router_core.RouterCore.end.Goals as goal

pub returns-then-place-before : goal.returns-then-place-before
returns-then-place-before g c =
    let core = c.args.self.now in
    let k = c.args.place in
    let lt : k < length core.requests.inlets.items = omega (arith, c.if-place-before.true, c.len-before.ensures, core.requests.inlets.ok.0) in
    ((refl, λ w. with_ring_of_requests core k (ring_side g.U.RxEnd w) lt), record { value = c.end.ensures.value ∙ ring_of_requests core k lt; writes_back = tt })

pub returns-else-place-before : goal.returns-else-place-before
returns-else-place-before g c =
    let core = c.args.self.now in
    let k = c.args.place in
    let n = c.len-before.result in
    let long : length core.requests.inlets.items ≡ n = omega (arith, c.len-before.ensures, core.requests.inlets.ok.0) in
    let le = c.if-place-before.false in
    ((refl, λ w. with_ring_of_answers core k n (ring_side g.U.RxEnd w) long le), record { value = c.end-else-place-before.ensures.value ∙ ring_of_answers core k n long le; writes_back = tt })
