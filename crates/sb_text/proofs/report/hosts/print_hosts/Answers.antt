-- One host more adds its lines; where the sink fails, a first part of all was written.
use Rattle.std.proofs.Common.{◌≤◌, ◌<◌, ap, sym, length, arith}
use Rattle.std.proofs.lemmas.List.{length-map}
use Rattle.sb_flow.specs.NetworkOf.{network_of}
use Rattle.sb_flow.specs.Rows.{host_of}
use Rattle.sb_flow.proofs.Bundles.{host_of_network, idle_plan}
use Rattle.sb_text.specs.Reports.{host_part}
use Rattle.sb_text.proofs.IndexedLemmas.{lines_all, lines_failed, lines_more}
use Rattle.sb_text.proofs.report.hosts.print_hosts.Goals as goal

pub returns-in_err-print_host_part : goal.returns-in_err-print_host_part
returns-in_err-print_host_part g c =
    let b = c.args.bundle.now in
    let i = c.loop-host.host in
    let below : i < length (network_of b).hosts = omega (arith, length-map b.hosts.items host_of) in
    record {
      printed = λ told tells.
          lines_failed (host_part (network_of b) told c.args.side) g.K.Sink tt c.in_err-print_host_part.field-0.0 c.from_residual.result _ _ _ _ _ _ _ (network_of b).hosts i (host_of idle_plan) c.from_residual.ensures.0 below
          (ap (host_part (network_of b) told c.args.side i) (sym (host_of_network b i idle_plan)))
          (c.loop-host.invariant told tells) (c.in_err-print_host_part.ensures.printed told idle_plan tells);
    }

pub loop-host-preserved : goal.loop-host-preserved
loop-host-preserved g c = λ told tells.
    let b = c.args.bundle.now in
    let i = c.loop-host.host in
    let below : i < length (network_of b).hosts = omega (arith, length-map b.hosts.items host_of) in
    lines_more (host_part (network_of b) told c.args.side) g.K.Sink tt tt tt _ _ _ _ _ _ _ (network_of b).hosts i (host_of idle_plan) below
    (ap (host_part (network_of b) told c.args.side i) (sym (host_of_network b i idle_plan)))
    (c.loop-host.invariant told tells) (c.in_ok-print_host_part.ensures.printed told idle_plan tells)

pub returns : goal.returns
returns g c =
    let b = c.args.bundle.now in
    let all : length (network_of b).hosts ≤ c.loop-host.host = omega (arith, length-map b.hosts.items host_of) in
    record { printed = λ told tells. lines_all (host_part (network_of b) told c.args.side) g.K.Sink tt tt _ _ _ _ (network_of b).hosts c.loop-host.host all (c.loop-host.invariant told tells) }
