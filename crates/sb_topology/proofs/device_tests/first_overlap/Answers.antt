-- The next device overlaps one before it, or what overlaps is ahead.
use Rattle.std.proofs.Common.{sym, ◌∙◌, not}
use Rattle.sb_packet.specs.Networks.{NetDevice}
use Rattle.sb_link.specs.RingPlans.{are_apart}
use Rattle.sb_flow.specs.Rings.{range_of}
use Rattle.sb_flow.specs.Rows.{device_of}
use Rattle.sb_topology.proofs.ClashSteps.{clash_ahead, clash_here}
use Rattle.sb_topology.proofs.device_tests.first_overlap.Goals as goal

pub returns-in-Some-clause-clash : goal.returns-in-Some-clause-clash
returns-in-Some-clause-clash c = sym (clash_here (λ (x y : NetDevice). not (are_apart (range_of x) (range_of y))) device_of c.args.devices.now c.loop-device.device c.index-devices-device.result c.loop-device-test.true c.index-devices-device.is _ c.in-Some.other c.loop-device.invariant (sym c.overlapped.ensures.place ∙ c.in-Some.is))

pub loop-device-preserved : goal.loop-device-preserved
loop-device-preserved c = clash_ahead (λ (x y : NetDevice). not (are_apart (range_of x) (range_of y))) device_of c.args.devices.now c.loop-device.device c.index-devices-device.result c.loop-device-test.true c.index-devices-device.is _ c.loop-device.invariant (sym c.overlapped.ensures.place ∙ c.in_default.is)
