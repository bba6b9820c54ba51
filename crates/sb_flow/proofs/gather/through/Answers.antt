-- No host has more than 32 devices, and each turn fills one place.
use Rattle.std.proofs.Common.{ℕ, arith, length-set}
use Rattle.std.proofs.lemmas.List.FromFn.{fill_by_all}
use Rattle.std.proofs.lemmas.List.Edits.{fill_by_more}
use Rattle.sb_flow.specs.Gathered.{flows_from, mask_of}
use Rattle.sb_flow.proofs.FoundHosts.{flows_from-short}
use Rattle.sb_flow.proofs.gather.through.Goals as goal

pub mask-requires : goal.mask-requires
mask-requires c = rw c.flows_of.ensures (flows_from-short 32 c.args.hosts.now c.loop-id.id c.requires)

pub loop-id-preserved : goal.loop-id-preserved
loop-id-preserved c = (
  omega (arith, length-set {A = ℕ}, c.loop-id.invariant.0),
  λ k below. rw (c.from.ensures, c.mask.ensures.digits, c.flows_of.ensures) (fill_by_more (λ k. mask_of c.args.link (flows_from c.args.hosts.now k)) c.loop-id.through c.loop-id.id 0 (omega (arith, c.loop-id.invariant.0)) c.loop-id.invariant.1 k below),
)

pub returns : goal.returns
returns c = fill_by_all (λ k. mask_of c.args.link (flows_from c.args.hosts.now k)) c.loop-id.through 32 0 c.loop-id.invariant.0 (λ k below. c.loop-id.invariant.1 k (omega arith))
