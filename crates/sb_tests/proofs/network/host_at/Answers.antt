-- The host's own link is the first, whose ring has the network's plan.
use Rattle.std.proofs.Common.{ap, sym, ◌∙◌, ◌*◌, ℕ}
use Rattle.std.specs.Prelude.{slice_get}
use Rattle.sb_packet.specs.Networks.{Network}
use Rattle.sb_flow.specs.Rings.{ring_plan}
use Rattle.sb_host.specs.Asked.{asked_by}
use Rattle.sb_tests.specs.Samples.{sample, sample_host}
use Rattle.sb_tests.proofs.network.host_at.Goals as goal

pub new-requires-clause-planned : goal.new-requires-clause-planned
new-requires-clause-planned g c κs within =
    c.requires.planned ∙ sym (ap (λ (n : Network). ring_plan n (2 * c.args.leg.link)) c.requires.network ∙ ap (λ (k : ℕ). ring_plan sample (2 * k)) c.requires.first)

pub returns-clause-asked : goal.returns-clause-asked
returns-clause-asked g c =
    c.in_ok-host.ensures.asked sample_host (ap (λ (n : Network). slice_get n.hosts 0) c.requires.network) ∙ ap (λ (n : Network). asked_by n sample_host) c.requires.network
