-- Each turn adds one.
use Rattle.sb_flow.specs.Rows.{link_of}
use Rattle.sb_flow.specs.Samples.{chain_link}
use Rattle.sb_flow.proofs.Tabled.{seen_push, table_end}
use Rattle.sb_flow.proofs.tests.links.Goals as goal

pub loop-number-preserved : goal.loop-number-preserved
loop-number-preserved c = seen_push link_of chain_link c.loop-number.links.items _ c.loop-number.number c.in_ok-link.link c.in_ok-push.ensures.items c.in_ok-link.ensures c.loop-number.invariant

pub returns : goal.returns
returns c = table_end chain_link _ c.loop-number.number 33 c.loop-number.auto.number-end c.loop-number-test.false c.loop-number.invariant
