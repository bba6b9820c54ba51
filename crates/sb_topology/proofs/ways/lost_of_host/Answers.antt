-- What is lost on the way to the next device that the host aims at is lost of the host.
use Rattle.std.proofs.Common.{◌<◌, length, arith, sym, ◌∙◌, ap}
use Rattle.std.specs.Prelude.{option_map}
use Rattle.std.specs.Vec.{vec_len}
use Rattle.sb_flow.specs.Rows.{host_of}
use Rattle.sb_topology.specs.Held.{route_of_stray, whole_network}
use Rattle.sb_topology.proofs.AimedSteps.{aims_is, lost_here, none_lost_here, not_aimed_here}
use Rattle.sb_topology.proofs.ways.lost_of_host.Goals.{then-aims+in_default, else-aims}
use Rattle.sb_topology.proofs.ways.lost_of_host.Goals as goal

pub returns-in-Some : goal.returns-in-Some
returns-in-Some c =
    let below : c.loop-device.device < vec_len c.args.rows.now.devices = omega arith in
    let there : c.loop-device.device < length c.args.rows.now.devices.items = omega arith in
    sym (lost_here (whole_network c.args.rows.now) (host_of c.args.plan.now) c.args.host c.loop-device.device (vec_len c.args.rows.now.devices) _ below c.loop-device.invariant (route_of_stray c.in-Some.stray)
    (aims_is c.args.rows.now c.args.plan.now c.loop-device.device c.index.result.now c.as_slice.result.now c.aims.result c.requires.apart there c.index.ensures c.as_slice.ensures c.aims.ensures ∙ c.if-aims.true)
    (sym c.lost_on_way.ensures ∙ ap (option_map route_of_stray) c.in-Some.is))

pub loop-device-preserved : goal.loop-device-preserved
loop-device-preserved c =
    let below : c.loop-device.device < vec_len c.args.rows.now.devices = omega arith in
    let there : c.loop-device.device < length c.args.rows.now.devices.items = omega arith in
    let aims = aims_is c.args.rows.now c.args.plan.now c.loop-device.device c.index.result.now c.as_slice.result.now c.aims.result c.requires.apart there c.index.ensures c.as_slice.ensures c.aims.ensures in
    elim c.if-aims.branch [
      | then-aims+in_default w ↦ none_lost_here (whole_network c.args.rows.now) (host_of c.args.plan.now) c.args.host c.loop-device.device (vec_len c.args.rows.now.devices) _ below c.loop-device.invariant
          (aims ∙ w.if-aims.true) (sym w.lost_on_way.ensures ∙ ap (option_map route_of_stray) w.in_default.is)
      | else-aims w ↦ not_aimed_here (whole_network c.args.rows.now) (host_of c.args.plan.now) c.args.host c.loop-device.device (vec_len c.args.rows.now.devices) _ below c.loop-device.invariant (aims ∙ w.if-aims.false)
    ]
