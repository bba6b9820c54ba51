-- Each turn adds the ways of one host.
use Rattle.std.proofs.Common.{ap, sym, ◌∙◌, arith}
use Rattle.sb_flow.specs.Rows.{host_of}
use Rattle.sb_flow.specs.NetworkOf.{network_of}
use Rattle.sb_flow.specs.Tables.{host_table_of}
use Rattle.sb_flow.proofs.Bundles.{host_count, host_of_network, idle_plan}
use Rattle.sb_flow.proofs.Tabled.{enumerated_push, enumerated_end}
use Rattle.sb_flow.proofs.host_paths.all_paths.Goals as goal

pub loop-host-preserved : goal.loop-host-preserved
loop-host-preserved c = enumerated_push (λ p. host_table_of (network_of c.args.bundle.now) p.0 p.1) (network_of c.args.bundle.now).hosts c.loop-host.hosts.items _ c.loop-host.host c.in_ok-paths.paths (host_of idle_plan)
    (omega (arith, host_count c.args.bundle.now, c.len-host-end.ensures, c.loop-host-test.true)) c.in_ok-push.ensures.items
    (c.in_ok-paths.ensures idle_plan ∙ ap (host_table_of (network_of c.args.bundle.now) c.loop-host.host) (sym (host_of_network c.args.bundle.now c.loop-host.host idle_plan))) c.loop-host.invariant

pub returns : goal.returns
returns c = enumerated_end (λ p. host_table_of (network_of c.args.bundle.now) p.0 p.1) (network_of c.args.bundle.now).hosts _ c.loop-host.host (omega (arith, host_count c.args.bundle.now, c.len-host-end.ensures, c.loop-host-test.false)) c.loop-host.invariant
