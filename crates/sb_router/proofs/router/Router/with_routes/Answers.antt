-- with_routes: both directions begin with the ends of the legs, at which nothing happened yet.
use Rattle.sb_router.specs.Lanes.{LaneState}
use Rattle.sb_router.specs.Ways.{route_of}
use Rattle.sb_router.proofs.FreshLanes.{lane_forwards, lane_whole}
use Rattle.sb_router.proofs.router.Router.with_routes.Goals as goal

pub returns-clause-forwards_requests : goal.returns-clause-forwards_requests
returns-clause-forwards_requests g c =
    let s : LaneState = record { inlets = c.in_ok-before.before.inlets.items; outlets = c.in_ok-behind.behind.outlets.items } in
    lane_forwards g.F.Tx.TxEnd g.F.Rx.RxEnd (λ leg. leg.requests) (λ leg. leg.requests) (route_of c.args.down.rows.items) s c.args.ins.items c.args.outs.items c.in_ok-before.ensures.inlets c.in_ok-behind.ensures.outlets

pub returns-clause-forwards_answers : goal.returns-clause-forwards_answers
returns-clause-forwards_answers g c =
    let s : LaneState = record { inlets = c.in_ok-behind.behind.inlets.items; outlets = c.in_ok-before.before.outlets.items } in
    lane_forwards g.F.Tx.TxEnd g.F.Rx.RxEnd (λ leg. leg.answers) (λ leg. leg.answers) (route_of c.args.up.rows.items) s c.args.outs.items c.args.ins.items c.in_ok-behind.ensures.inlets c.in_ok-before.ensures.outlets

pub returns-clause-whole : goal.returns-clause-whole
returns-clause-whole g c =
    let p : LaneState = record { inlets = c.in_ok-before.before.inlets.items; outlets = c.in_ok-behind.behind.outlets.items } in
    let q : LaneState = record { inlets = c.in_ok-behind.behind.inlets.items; outlets = c.in_ok-before.before.outlets.items } in
    record {
      requests = lane_whole g.F.Tx.TxEnd g.F.Rx.RxEnd (λ leg. leg.requests) (λ leg. leg.requests) (route_of c.args.down.rows.items) p c.args.ins.items c.args.outs.items c.in_ok-before.ensures.inlets c.in_ok-behind.ensures.outlets
          c.in_ok-behind.ensures.whole c.requires.down;
      answers = lane_whole g.F.Tx.TxEnd g.F.Rx.RxEnd (λ leg. leg.answers) (λ leg. leg.answers) (route_of c.args.up.rows.items) q c.args.outs.items c.args.ins.items c.in_ok-behind.ensures.inlets c.in_ok-before.ensures.outlets
          c.in_ok-before.ensures.whole c.requires.up;
    }
