-- What is said of a report is said of that of the input, and by the network of the bundle before it.
use Rattle.std.proofs.Common.{inl, inr, refl}
use Rattle.sb_flow.specs.NetworkOf.{network_of}
use Rattle.sb_flow.proofs.Bundles.{accepted}
use Rattle.sb_top.specs.Judgements.{IsEvidence}
use Rattle.sb_top.proofs.JudgementLemmas.{rejected}
use Rattle.sb_top.proofs.check_command.judge.Goals as goal

pub returns-in-Ok-clause-done : goal.returns-in-Ok-clause-done
returns-in-Ok-clause-done g c = λ zero.
    let told = c.tell.ensures.done zero in record {
      text = _;
      is = record {
        network = network_of c.in-Ok.bundle;
        report = c.in-Some.evidence.report.now;
        evidence = record { bundle = c.in-Some.evidence.bundle.now; parts = c.in-Some.ensures.parts; spelled = c.in-Ok.ensures.ok };
        accepted = accepted c.in-Ok.bundle;
        lawful = c.check.ensures.yes told.0;
        printed = refl;
      };
      gained = told.1;
    }

pub returns-in-Ok-clause-rejected : goal.returns-in-Ok-clause-rejected
returns-in-Ok-clause-rejected g c = λ eight.
    let told = c.tell.ensures.rejected eight in
    let evidence : IsEvidence c.args.input.now (network_of c.in-Ok.bundle) c.in-Some.evidence.report.now = record { bundle = c.in-Some.evidence.bundle.now; parts = c.in-Some.ensures.parts; spelled = c.in-Ok.ensures.ok } in
    record {
      text = _;
      is = rejected c.check.result told.0 told.1 evidence (accepted c.in-Ok.bundle) c.check.ensures.only told.2 (c.check.ensures.fault told.0 told.1 told.2);
      gained = told.3;
    }

pub returns-in-Ok-clause-part : goal.returns-in-Ok-clause-part
returns-in-Ok-clause-part g c = λ five.
    let evidence : IsEvidence c.args.input.now (network_of c.in-Ok.bundle) c.in-Some.evidence.report.now = record { bundle = c.in-Some.evidence.bundle.now; parts = c.in-Some.ensures.parts; spelled = c.in-Ok.ensures.ok } in
    elim (c.tell.ensures.part five) [
      | inl told ↦ record {
        text = _;
        is = inl (record {
          network = network_of c.in-Ok.bundle;
          report = c.in-Some.evidence.report.now;
          evidence = evidence;
          accepted = accepted c.in-Ok.bundle;
          lawful = c.check.ensures.yes told.0;
          printed = refl;
        });
        part = told.1;
      }
      | inr told ↦ record {
        text = _;
        is = inr (inr (rejected c.check.result told.0 told.1 evidence (accepted c.in-Ok.bundle) c.check.ensures.only told.2 (c.check.ensures.fault told.0 told.1 told.2)));
        part = told.3;
      }
    ]
