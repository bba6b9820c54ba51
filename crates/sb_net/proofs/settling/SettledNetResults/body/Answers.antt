-- The settled network tells the bytes of a transaction, at each place that its results have.
use Rattle.std.proofs.Common.{ap, ◌∙◌}
use Rattle.sb_packet.specs.Answers.{Outcome}
use Rattle.sb_net.proofs.ResultsTold.{outcome_told}
use Rattle.sb_net.proofs.settling.SettledNetResults.body.Goals as goal

pub body-requires-clause-host : goal.body-requires-clause-host
body-requires-clause-host c =
    let tells = c.requires.there.1 in
    (outcome_told tells.0 tells.1 c.args.self.now c.requires.there.0 c.args.host c.args.index tells.2 tells.3 c.requires.there.2).host_in

pub body-requires-clause-index : goal.body-requires-clause-index
body-requires-clause-index c =
    let tells = c.requires.there.1 in
    (outcome_told tells.0 tells.1 c.args.self.now c.requires.there.0 c.args.host c.args.index tells.2 tells.3 c.requires.there.2).index_in

pub returns : goal.returns
returns c = record {
  body = λ told none tells has.
      let outcome = outcome_told tells.0 tells.1 c.args.self.now told c.args.host c.args.index tells.2 tells.3 has in
      ap (λ (o : Outcome). o.body) (outcome.outcome none) ∙ c.body.ensures.body tells.0 tells.1 outcome.whose none tells.2 outcome.there;
}
