-- One host more adds its lines; one that aren't there are the first difference.
use Rattle.std.proofs.Common.{◌≡◌, ◌≤◌, ◌<◌, ◌∙◌, ℕ, ap, sym, length, get_or, arith}
use Rattle.std.specs.Prelude.{None}
use Rattle.std.specs.List.{enumerate_from}
use Rattle.std.proofs.lemmas.List.{length-map}
use Rattle.std.proofs.lemmas.List.FromFn.{length-enumerate_from}
use Rattle.sb_packet.specs.Networks.{NetHost}
use Rattle.sb_packet.specs.Answers.{RunResults}
use Rattle.sb_flow.specs.NetworkOf.{network_of}
use Rattle.sb_flow.specs.Rows.{host_of}
use Rattle.sb_flow.specs.declared.bundle.Bundle.{Bundle}
use Rattle.sb_flow.proofs.Bundles.{host_of_network, idle_plan}
use Rattle.sb_text.specs.Reports.{host_part}
use Rattle.sb_check.proofs.CompareLemmas.{compared_all, compared_failed, compared_more, numbered}
use Rattle.sb_check.proofs.host_lines.take_hosts.Goals as goal

-- the lines are those of the host at that place
lines_are : (b : Bundle) (told : RunResults) (i : ℕ) → i < length (network_of b).hosts
    → host_part (network_of b) told None i (host_of (get_or b.hosts.items i idle_plan)) ≡ host_part (network_of b) told None (get_or (enumerate_from 0 (network_of b).hosts) i (0, host_of idle_plan)).0 (get_or (enumerate_from 0 (network_of b).hosts) i (0, host_of idle_plan)).1
lines_are b told i below =
    ap (host_part (network_of b) told None i) (sym (host_of_network b i idle_plan))
    ∙ ap (λ (p : ℕ × NetHost). host_part (network_of b) told None p.0 p.1) (sym (numbered (network_of b).hosts i (host_of idle_plan) below))

pub returns-in_err-take_host_at : goal.returns-in_err-take_host_at
returns-in_err-take_host_at g c =
    let b = c.args.bundle.now in
    let i = c.loop-host.host in
    let below : i < length (network_of b).hosts = omega (arith, length-map b.hosts.items host_of) in
    record {
      compared = λ told tells.
          compared_failed tt c.in_err-take_host_at.field-0.0 c.from_residual.result (λ p. host_part (network_of b) told None p.0 p.1) (enumerate_from 0 (network_of b).hosts) i (0, host_of idle_plan) _ _ _ _ c.from_residual.ensures.0
          (omega (arith, below, length-enumerate_from 0 (network_of b).hosts)) (lines_are b told i below)
          (c.loop-host.invariant told tells) (c.in_err-take_host_at.ensures.compared told idle_plan tells);
    }

pub loop-host-preserved : goal.loop-host-preserved
loop-host-preserved g c = λ told tells.
    let b = c.args.bundle.now in
    let i = c.loop-host.host in
    let below : i < length (network_of b).hosts = omega (arith, length-map b.hosts.items host_of) in
    compared_more tt tt tt (λ p. host_part (network_of b) told None p.0 p.1) (enumerate_from 0 (network_of b).hosts) i (0, host_of idle_plan) _ _ _ _
    (omega (arith, below, length-enumerate_from 0 (network_of b).hosts)) (lines_are b told i below)
    (c.loop-host.invariant told tells) (c.in_ok-take_host_at.ensures.compared told idle_plan tells)

pub returns : goal.returns
returns g c =
    let b = c.args.bundle.now in
    let all : length (network_of b).hosts ≤ c.loop-host.host = omega (arith, length-map b.hosts.items host_of) in
    record {
      compared = λ told tells. compared_all tt tt (λ p. host_part (network_of b) told None p.0 p.1) (enumerate_from 0 (network_of b).hosts) c.loop-host.host _ _
          (omega (arith, all, length-enumerate_from 0 (network_of b).hosts)) (c.loop-host.invariant told tells);
    }
