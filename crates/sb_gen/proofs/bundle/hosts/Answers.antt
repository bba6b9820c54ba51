-- Each script is drawn from the state behind the scripts before it.
use Rattle.std.proofs.Common.{◌≡◌, ◌∙◌, List, ap, map, sym}
use Rattle.std.specs.Prelude.{codes}
use Rattle.sb_flow.specs.Rows.{host_of}
use Rattle.sb_flow.specs.declared.host_plan.HostPlan.{HostPlan}
use Rattle.sb_gen.specs.Generated.{gen_host}
use Rattle.sb_gen.proofs.States.{no_draw}
use Rattle.sb_gen.proofs.TransactionLists.{script_of_host, state_of_next_host}
use Rattle.sb_gen.proofs.bundle.hosts.Goals as goal

pub returns : goal.returns
returns c =
    let n = c.args.number in
    let at0 = c.new-generator.ensures ∙ sym (no_draw n) in
    let at1 = state_of_next_host n 0 _ _ at0 c.in_ok-first.ensures.state in
    let at2 = state_of_next_host n 1 _ _ at1 c.in_ok-second.ensures.state in
    let at3 = state_of_next_host n 2 _ _ at2 c.in_ok-third.ensures.state in
    let script0 = script_of_host n 0 _ at0 in
    let script1 = script_of_host n 1 _ at1 in
    let script2 = script_of_host n 2 _ at2 in
    let script3 = script_of_host n 3 _ at3 in
    let c0 : host_of c.in_ok-first.first ≡ gen_host n 0 (codes "c0") = c.in_ok-first.ensures.host ∙ cc in
    let c1 : host_of c.in_ok-second.second ≡ gen_host n 1 (codes "c1") = c.in_ok-second.ensures.host ∙ cc in
    let c2 : host_of c.in_ok-third.third ≡ gen_host n 2 (codes "c2") = c.in_ok-third.ensures.host ∙ cc in
    let c3 : host_of c.in_ok-fourth.fourth ≡ gen_host n 3 (codes "c3") = c.in_ok-fourth.ensures.host ∙ cc in
    ap (λ (hosts : List HostPlan). map host_of hosts) c.in_ok-from_array.ensures.items ∙ cc
