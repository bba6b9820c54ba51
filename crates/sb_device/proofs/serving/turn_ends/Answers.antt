-- What the turn keeps and answers follows from what the ring and the port did.
use Rattle.std.proofs.Common.{subst}
use Rattle.sb_link.specs.declared.answers.Turn.TheVariants as turns
use Rattle.sb_node.specs.Found.{IsTurnOf}
use Rattle.sb_node.proofs.Serving.{served_since}
use Rattle.sb_device.specs.SideOf.{side_of}
use Rattle.sb_device.specs.Steps.{IsRingHandled}
use Rattle.sb_device.proofs.Keeping.{kept_then_port, whole_by_port}
use Rattle.sb_device.proofs.Turning.{device_rests, device_turned}
use Rattle.sb_device.proofs.serving.turn_ends.Goals as goal

pub returns-then-found-clause-kept : goal.returns-then-found-clause-kept
returns-then-found-clause-kept g c =
    let x = side_of g.U.RxEnd c.args.state.now c.args.requests.now c.args.answers.now in
    let s = c.serve_ring-popped in
    kept_then_port c.args.round x (side_of g.U.RxEnd s.new.state s.new.requests s.new.answers) c.turn_port.new.port s.ensures.kept c.turn_port.ensures.words c.turn_port.ensures.kept

pub returns-then-found-clause-turned : goal.returns-then-found-clause-turned
returns-then-found-clause-turned g c =
    let x = side_of g.U.RxEnd c.args.state.now c.args.requests.now c.args.answers.now in
    let s = c.serve_ring-popped in
    let y = side_of g.U.RxEnd s.new.state s.new.requests s.new.answers in
    let port_then = c.turn_port.new.port in
    let t = c.turn_port.ensures in
    device_turned x y port_then s.result s.new.found c.turn_port.new.found turns.Moved
    (subst (λ f. IsRingHandled x y f s.new.found s.result) c.new-found.ensures s.ensures.handled)
    t.turned s.ensures.kept.answers t.kept (whole_by_port y port_then s.ensures.whole t.kept.plan t.told t.fit)
    c.if-found.true
    (served_since x.answers y.answers port_then s.ensures.sent t.served)

pub returns-clause-kept : goal.returns-clause-kept
returns-clause-kept g c =
    let x = side_of g.U.RxEnd c.args.state.now c.args.requests.now c.args.answers.now in
    let s = c.serve_ring-popped in
    kept_then_port c.args.round x (side_of g.U.RxEnd s.new.state s.new.requests s.new.answers) c.turn_port.new.port s.ensures.kept c.turn_port.ensures.words c.turn_port.ensures.kept

pub returns-clause-turned : goal.returns-clause-turned
returns-clause-turned g c =
    let x = side_of g.U.RxEnd c.args.state.now c.args.requests.now c.args.answers.now in
    let s = c.serve_ring-popped in
    let y = side_of g.U.RxEnd s.new.state s.new.requests s.new.answers in
    let port_then = c.turn_port.new.port in
    let t = c.turn_port.ensures in
    device_turned x y port_then s.result s.new.found c.turn_port.new.found c.turn.result
    (subst (λ f. IsRingHandled x y f s.new.found s.result) c.new-found.ensures s.ensures.handled)
    t.turned s.ensures.kept.answers t.kept (whole_by_port y port_then s.ensures.whole t.kept.plan t.told t.fit)
    (subst (λ b. IsTurnOf c.turn_port.new.found b c.turn.result) c.closed.ensures.closed c.turn.ensures)
    (served_since x.answers y.answers port_then s.ensures.sent t.served)

pub returns-clause-rested : goal.returns-clause-rested
returns-clause-rested g c = λ other.
    let x = side_of g.U.RxEnd c.args.state.now c.args.requests.now c.args.answers.now in
    let s = c.serve_ring-popped in
    let y = side_of g.U.RxEnd s.new.state s.new.requests s.new.answers in
    let t = c.turn_port.ensures in
    device_rests x y c.turn_port.new.port s.result s.new.found c.turn_port.new.found c.closed.result c.turn.result
    (subst (λ f. IsRingHandled x y f s.new.found s.result) c.new-found.ensures s.ensures.handled)
    t.turned s.ensures.kept.requests s.ensures.kept.answers t.kept t.still c.turn.ensures other
