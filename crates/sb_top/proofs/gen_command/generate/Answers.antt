-- The network that was run is the one that the number generates.
use Rattle.std.proofs.Common.{◌≢◌, arith, refl, subst}
use Rattle.sb_packet.specs.Networks.{Network}
use Rattle.sb_flow.specs.Accepted.{IsAccepted}
use Rattle.sb_flow.proofs.Bundles.{accepted}
use Rattle.sb_gen.specs.Summary.{gen_text}
use Rattle.sb_top.specs.BundleRuns.{RanNetwork, effects_in}
use Rattle.sb_top.proofs.StatusLemmas.{was_done, was_failed}
use Rattle.sb_top.proofs.gen_command.generate.Goals as goal

pub returns-in-Ok-run_bundle-clause-done : goal.returns-in-Ok-run_bundle-clause-done
returns-in-Ok-run_bundle-clause-done g c = λ zero.
    let network = c.in-Ok.ensures.network in
    let effects = effects_in g.F.Fabric c.run_bundle.new.fabric c.run_bundle.new.journal.entries in
    let other : 0 ≢ 5 = omega arith in
    record {
      text = gen_text c.args.number;
      is = record {
        accepted = subst IsAccepted network (accepted c.in-Ok.bundle);
        ran = subst (λ (n : Network). RanNetwork n effects) network c.in-Ok-run_bundle.ensures.run.ran;
        printed = refl;
      };
      gained = c.print_summary.ensures.done (was_done c.print_summary.result 0 c.status_of.result c.status_of.ensures.failed other zero);
    }

pub returns-in-Ok-run_bundle-clause-part : goal.returns-in-Ok-run_bundle-clause-part
returns-in-Ok-run_bundle-clause-part g c = λ five.
    let network = c.in-Ok.ensures.network in
    let effects = effects_in g.F.Fabric c.run_bundle.new.fabric c.run_bundle.new.journal.entries in
    let other : 0 ≢ 5 = omega arith in
    record {
      text = gen_text c.args.number;
      is = record {
        accepted = subst IsAccepted network (accepted c.in-Ok.bundle);
        ran = subst (λ (n : Network). RanNetwork n effects) network c.in-Ok-run_bundle.ensures.run.ran;
        printed = refl;
      };
      part = c.print_summary.ensures.part (was_failed c.print_summary.result 0 c.status_of.result c.status_of.ensures.done other five);
    }
