-- The settled network tells how far a transaction came, at each place that its results have.
use Rattle.std.proofs.Common.{ap, ◌∙◌}
use Rattle.sb_packet.specs.Answers.{Outcome}
use Rattle.sb_net.proofs.ResultsTold.{outcome_told}
use Rattle.sb_net.proofs.settling.SettledNetResults.state.Goals as goal

pub state-requires-clause-host : goal.state-requires-clause-host
state-requires-clause-host c =
    let tells = c.requires.there.1 in
    (outcome_told tells.0 tells.1 c.args.self.now c.requires.there.0 c.args.host c.args.index tells.2 tells.3 c.requires.there.2).host_in

pub state-requires-clause-index : goal.state-requires-clause-index
state-requires-clause-index c =
    let tells = c.requires.there.1 in
    (outcome_told tells.0 tells.1 c.args.self.now c.requires.there.0 c.args.host c.args.index tells.2 tells.3 c.requires.there.2).index_in

pub returns : goal.returns
returns c = record {
  state = λ told none tells has.
      let outcome = outcome_told tells.0 tells.1 c.args.self.now told c.args.host c.args.index tells.2 tells.3 has in
      ap (λ (o : Outcome). o.state) (outcome.outcome none) ∙ c.state.ensures.state tells.0 tells.1 outcome.whose none tells.2 outcome.there;
}
