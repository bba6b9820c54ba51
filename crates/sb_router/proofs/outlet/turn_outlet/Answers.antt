-- turn_outlet: what the port found stands beside what was found before.
use Rattle.std.proofs.Common.{Option, ap, ◌∙◌, subst}
use Rattle.sb_link.specs.declared.answers.Cause.{Cause}
use Rattle.sb_node.specs.Steps.{IsPortTurned}
use Rattle.sb_node.specs.declared.findings.Findings.{Findings}
use Rattle.sb_router.specs.Popping.{lower}
use Rattle.sb_router.proofs.Besides.{port_besides}
use Rattle.sb_router.proofs.outlet.turn_outlet.Goals as goal

pub returns : goal.returns
returns g c =
    let before : Findings = c.args.found.now in
    let found : Findings = c.turn_port.new.found in
    let x = c.args.port.now in
    let y = c.turn_port.new.port in
    let is = c.turn_port.ensures in
    let turned = port_besides before c.args.more x y found (subst (λ (full : Option Cause). IsPortTurned c.args.more x y (record before { full = full }) found) c.take-before.ensures.after is.turned) in
    record {
      turned = record {
        one = turned.one;
        has = record { turned = record { words = is.words; kept = is.kept; fit = is.fit; told = is.told }; finds = turned.has; served = is.served };
        both = ap (λ (full : Option Cause). record found { full = full }) (c.lower-found.ensures.lower ∙ ap (λ (full : Option Cause). lower full found.full) c.take-before.ensures.value) ∙ turned.both;
      };
    }
