-- The host aims at the device just where the test says so.
use Rattle.sb_flow.proofs.Bundles.{aimed_there}
use Rattle.sb_flow.proofs.flow_path.aimed_legs.Goals as goal

pub returns-then-aims : goal.returns-then-aims
returns-then-aims c = λ d. rw (aimed_there c.args.bundle.now c.args.host c.args.device c.index-plan.result.now d c.index-row.result.now c.aims.result c.requires.host c.requires.device (rw c.from.ensures at c.index-plan.ensures) (rw c.from-2.ensures at c.index-row.ensures) (rw c.as_slice.ensures at c.aims.ensures), c.if-aims.true) c.legs.ensures

pub returns-else-aims : goal.returns-else-aims
returns-else-aims c = λ d. rw (aimed_there c.args.bundle.now c.args.host c.args.device c.index-plan.result.now d c.index-row.result.now c.aims.result c.requires.host c.requires.device (rw c.from.ensures at c.index-plan.ensures) (rw c.from-2.ensures at c.index-row.ensures) (rw c.as_slice.ensures at c.aims.ensures), c.if-aims.false) c.new.ensures.items
