-- Each turn adds one.
use Rattle.sb_flow.specs.Rows.{net_router_of}
use Rattle.sb_flow.specs.Samples.{chain_router}
use Rattle.sb_flow.proofs.Tabled.{seen_push, table_end}
use Rattle.sb_flow.proofs.tests.routers.Goals as goal

pub loop-number-preserved : goal.loop-number-preserved
loop-number-preserved c = seen_push (net_router_of 1) chain_router c.loop-number.routers.items _ c.loop-number.number c.in_ok-router.router c.in_ok-push.ensures.items c.in_ok-router.ensures c.loop-number.invariant

pub returns : goal.returns
returns c = table_end chain_router _ c.loop-number.number 32 c.loop-number.auto.number-end c.loop-number-test.false c.loop-number.invariant
