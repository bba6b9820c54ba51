-- The words of the bundle's hosts are those of its network.
use Rattle.std.proofs.Common.{List, ap, arith, ◌∙◌}
use Rattle.std.specs.Prelude.{map, sum_by}
use Rattle.sb_packet.specs.Networks.{NetHost}
use Rattle.sb_flow.specs.Rows.{host_of}
use Rattle.sb_flow.specs.declared.host_plan.HostPlan.{HostPlan}
use Rattle.sb_flow.proofs.Bundles.{host_count}
use Rattle.sb_flow.proofs.HostLimits.{few_hosts, scripts_short}
use Rattle.sb_flow.proofs.words.bundle_words.Goals as goal

pub all_words-requires-clause-many : goal.all_words-requires-clause-many
all_words-requires-clause-many c = let b = c.args.bundle.now in let long = c.as_slice.ensures.len in omega (arith, long, few_hosts b, host_count b)

pub all_words-requires-clause-scripts : goal.all_words-requires-clause-scripts
all_words-requires-clause-scripts c = scripts_short c.args.bundle.now c.as_slice.result.now c.as_slice.ensures.value

pub returns : goal.returns
returns c = c.all_words.ensures ∙ ap (λ (list : List HostPlan). sum_by (λ (h : NetHost). sum_by (λ t. t.count) h.script) (map host_of list)) c.as_slice.ensures.value
