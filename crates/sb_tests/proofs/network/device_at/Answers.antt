-- The rings are made for the device and its page.
use Rattle.sb_tests.proofs.SampleRings.{planned_for}
use Rattle.sb_tests.proofs.network.device_at.Goals as goal

pub new-requires-2-clause-planned : goal.new-requires-2-clause-planned
new-requires-2-clause-planned g c κs within = planned_for c.in_ok-memory.memory (g.F.Rx.RxEnd.planned c.args.leg.requests) (g.F.Tx.TxEnd.planned c.args.leg.answers) c.requires.requests c.requires.answers c.in_ok-memory.ensures
