-- One host more.
use Rattle.std.proofs.Common.{◌≡◌, ◌≤◌, ◌<◌, List, length, map, get_or, ap, sym, ◌∙◌, arith, subst}
use Rattle.std.proofs.lemmas.List.{take_all}
use Rattle.std.proofs.lemmas.Simd.{map-map}
use Rattle.sb_packet.specs.Networks.{NetHost}
use Rattle.sb_packet.specs.declared.transaction.Txn.{Txn}
use Rattle.sb_flow.specs.NetworkOf.{network_of}
use Rattle.sb_flow.specs.Rows.{host_of}
use Rattle.sb_flow.specs.declared.host_plan.HostPlan.{HostPlan}
use Rattle.sb_flow.proofs.HostLimits.{scripts_short}
use Rattle.sb_check.specs.AnswerNotes.{NotedAnswers, first_noted}
use Rattle.sb_check.proofs.GatheredOpening.{row_more}
use Rattle.sb_check.proofs.gathered.notes_of.Goals as goal

pub new-requires-clause-few : goal.new-requires-clause-few
new-requires-clause-few c =
    let hosts = c.deref-host-items.result.now in
    let short = scripts_short c.args.bundle.now hosts c.deref-host-items.ensures.value c.loop-host.host-index c.host-item.result c.loop-host-test.true in
    let few : length c.host-item.result.script ≤ 65536 = subst (λ (h : HostPlan). length h.script ≤ 65536) (sym c.host-item.is) short in
    omega (arith, few, ap (λ (l : List Txn). length l) c.as_slice.ensures)

pub loop-host-preserved : goal.loop-host-preserved
loop-host-preserved c =
    let f : HostPlan → List NotedAnswers = λ h. map (first_noted (network_of c.args.bundle.now)) h.script in
    let hosts = c.args.bundle.now.hosts.items in
    let value = c.deref-host-items.ensures.value in
    let test = c.loop-host-test.true in
    let inside : c.loop-host.host-index < length hosts = omega (arith, test, ap length value) in
    let at : c.host-item.result ≡ get_or hosts c.loop-host.host-index c.host-item.result = c.host-item.is ∙ ap (λ (l : List HostPlan). get_or l c.loop-host.host-index c.host-item.result) value in
    row_more f hosts c.loop-host.host-index c.host-item.result c.loop-host.notes.items c.push.new.self.items c.in_ok-new.field-0 c.in_ok-push.ensures.items c.loop-host.invariant
    (c.in_ok-new.ensures.first ∙ ap (map (first_noted (network_of c.args.bundle.now))) c.as_slice.ensures) inside at

pub returns : goal.returns
returns c =
    let f : HostPlan → List NotedAnswers = λ h. map (first_noted (network_of c.args.bundle.now)) h.script in
    let g : NetHost → List NotedAnswers = λ h. map (first_noted (network_of c.args.bundle.now)) h.script in
    let hosts = c.args.bundle.now.hosts.items in
    let past = c.loop-host-test.false in
    let all : length hosts ≤ c.loop-host.host-index = omega (arith, past, ap length c.deref-host-items.ensures.value) in
    record { notes = c.loop-host.invariant ∙ ap (map f) (take_all c.loop-host.host-index hosts all) ∙ sym (map-map g host_of hosts) }
