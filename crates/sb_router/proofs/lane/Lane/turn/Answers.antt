-- turn: one part after another.
use Rattle.std.proofs.Common.{◌∙◌, sym, subst}
use Rattle.sb_router.specs.Lanes.{LaneState}
use Rattle.sb_router.specs.RouterOf.{lane_of, lane_route}
use Rattle.sb_router.specs.Ways.{route_of}
use Rattle.sb_router.specs.Turning.{HasClosed, HasHanded, IsLaneTurn}
use Rattle.sb_router.proofs.LaneTurns.{lane_turn, lane_whole}
use Rattle.sb_router.proofs.WholeSteps.{still_whole}
use Rattle.sb_router.proofs.lane.Lane.turn.Goals as goal

pub hand_each-handed-requires : goal.hand_each-handed-requires
hand_each-handed-requires g c = record { whole = still_whole c.pop_each-found.ensures.routes c.requires.whole c.pop_each-found.ensures.popped.steps }

pub close_each-requires : goal.close_each-requires
close_each-requires g c =
    let there = still_whole c.pop_each-found.ensures.routes c.requires.whole c.pop_each-found.ensures.popped.steps in
    record { whole = still_whole c.hand_each-handed.ensures.routes there c.hand_each-handed.ensures.handed.steps }

pub turn_each-requires : goal.turn_each-requires
turn_each-requires g c =
    let there = still_whole c.pop_each-found.ensures.routes c.requires.whole c.pop_each-found.ensures.popped.steps in
    let then = still_whole c.hand_each-handed.ensures.routes there c.hand_each-handed.ensures.handed.steps in
    record { whole = still_whole c.close_each.ensures.routes then c.close_each.ensures.closed.steps }

pub returns : goal.returns
returns g c =
    let a : LaneState = lane_of c.pop_each-found.new.self in
    let b : LaneState = lane_of c.hand_each-handed.new.self in
    let d : LaneState = lane_of c.close_each.new.self in
    let t : LaneState = lane_of c.turn_each.new.self in
    let first = c.pop_each-found.ensures.routes in
    let second = c.hand_each-handed.ensures.routes ∙ first in
    let third = c.close_each.ensures.routes ∙ second in
    let popped = c.pop_each-found.ensures.popped in
    let handed = subst (λ rows. HasHanded (route_of rows.rows.items) a b c.hand_each-handed.result) first c.hand_each-handed.ensures.handed in
    let closed = subst (λ rows. HasClosed (route_of rows.rows.items) b d) second c.close_each.ensures.closed in
    let turned = c.turn_each.ensures.turned in
    record {
      routes = c.turn_each.ensures.routes ∙ third;
      turned = subst (IsLaneTurn (lane_route c.args.self.now) (lane_of c.args.self.now) t) (sym turned.both) (lane_turn c.requires.whole popped handed closed turned.has);
      whole = lane_whole c.requires.whole popped handed closed turned.has;
    }
