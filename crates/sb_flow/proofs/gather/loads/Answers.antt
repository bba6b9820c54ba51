-- Each turn adds the load of one link.
use Rattle.sb_flow.specs.Gathered.{gathered, load_of}
use Rattle.sb_flow.proofs.Tabled.{seen_push, table_end}
use Rattle.sb_flow.proofs.gather.loads.Goals as goal

pub loop-link-preserved : goal.loop-link-preserved
loop-link-preserved c = seen_push load_of (λ k. gathered k c.args.hosts.now) c.loop-link.loads.items _ c.loop-link.link c.load.result c.in_ok-push.ensures.items c.load.ensures c.loop-link.invariant

pub returns : goal.returns
returns c = table_end (λ k. gathered k c.args.hosts.now) _ c.loop-link.link c.args.links c.loop-link.auto.link-end c.loop-link-test.false c.loop-link.invariant
