-- The journal is whole where all hosts are done, and only there.
use Rattle.std.proofs.Common.{arith}
use Rattle.sb_flow.specs.NetworkOf.{network_of}
use Rattle.sb_flow.proofs.Bundles.{accepted}
use Rattle.std.proofs.lemmas.List.{length-map}
use Rattle.sb_flow.specs.Rows.{device_of, host_of}
use Rattle.sb_check.proofs.WholeScripts.{all_done, lawful_done}
use Rattle.sb_check.proofs.progress.Progress.is_whole.Goals as goal

pub returns-then-not-is_host_done-clause-short : goal.returns-then-not-is_host_done-clause-short
returns-then-not-is_host_done-clause-short c = λ journal reached lawful.
    let b = c.args.bundle.now in
    (rw c.if-not-is_host_done.true at c.is_host_done.ensures.no)
    (λ d there. lawful_done (network_of b) c.args.self.now journal reached b.placed (accepted b).lines lawful c.loop-host.host d (omega (arith, length-map b.devices.items device_of)))

pub returns-clause-whole : goal.returns-clause-whole
returns-clause-whole c = λ journal reached.
    let b = c.args.bundle.now in
    let hosts = c.len-host-end.ensures in
    let end = c.loop-host-test.false in
    all_done (network_of b) c.args.self.now journal reached b.placed
    (λ h d below there. c.loop-host.invariant h d (omega (arith, length-map b.hosts.items host_of, b.hosts.ok.0)) (omega (arith, length-map b.devices.items device_of)))
