-- port: the place is one of requests, or one of answers.
use Rattle.std.proofs.Common.{◌≡◌, ◌<◌, length, refl, ◌∙◌, arith}
use Rattle.sb_router.proofs.Lent.{port_of_answers, port_of_requests, with_port_of_answers, with_port_of_requests}
use Rattle.sb_router.proofs.router_core.RouterCore.port.Goals as goal

pub returns-then-place-before : goal.returns-then-place-before
returns-then-place-before g c =
    let core = c.args.self.now in
    let k = c.args.place in
    let lt : k < length core.requests.outlets.items = omega (arith, c.if-place-before.true, c.len-before.ensures, core.requests.outlets.ok.0) in
    ((refl, λ w. with_port_of_requests core k w lt), record { value = c.port.ensures.value ∙ port_of_requests core k lt; writes_back = tt })

pub returns-else-place-before : goal.returns-else-place-before
returns-else-place-before g c =
    let core = c.args.self.now in
    let k = c.args.place in
    let n = c.len-before.result in
    let long : length core.requests.outlets.items ≡ n = omega (arith, c.len-before.ensures, core.requests.outlets.ok.0) in
    let le = c.if-place-before.false in
    ((refl, λ w. with_port_of_answers core k n w long le), record { value = c.port-else-place-before.ensures.value ∙ port_of_answers core k n long le; writes_back = tt })
