-- What is gathered from the ways is what goes over each link.
use Rattle.std.proofs.Common.{◌∙◌, sym}
use Rattle.sb_flow.specs.NetworkOf.{network_of}
use Rattle.sb_flow.proofs.Bundles.{accepted, few_devices, link_count}
use Rattle.sb_flow.proofs.WordBounds.{words_bounded}
use Rattle.sb_flow.proofs.PathTables.{few_ways, paths-from}
use Rattle.sb_flow.proofs.paths.Paths.new.Goals as goal

pub loads-requires-clause-devices : goal.loads-requires-clause-devices
loads-requires-clause-devices c = rw (c.deref.ensures.value, c.in_ok-hosts.ensures) (few_ways (network_of c.args.bundle.now) (few_devices c.args.bundle.now))

pub loads-requires-clause-words : goal.loads-requires-clause-words
loads-requires-clause-words c = rw (c.deref.ensures.value, c.in_ok-hosts.ensures) (λ k up. words_bounded (network_of c.args.bundle.now) k up (accepted c.args.bundle.now))

pub returns : goal.returns
returns c = paths-from (network_of c.args.bundle.now) c.len.result _ _ (accepted c.args.bundle.now) (c.len.ensures ∙ sym (link_count c.args.bundle.now)) c.in_ok-hosts.ensures (rw c.deref.ensures.value at c.in_ok-links.ensures)
