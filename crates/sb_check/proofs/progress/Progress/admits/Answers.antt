-- An entry is admitted just where it is the next of its host at its device, at its target, no wider than the link there, and in order.
use Rattle.std.proofs.Common.{◌≡◌, ◌≤◌, refl, ap, sym, ◌∙◌, arith, Some}
use Rattle.std.proofs.lemmas.List.{length-map}
use Rattle.sb_packet.specs.Networks.{width_to}
use Rattle.sb_packet.specs.Spans.{span_of}
use Rattle.sb_flow.specs.NetworkOf.{network_of}
use Rattle.sb_flow.specs.Rows.{host_of}
use Rattle.sb_check.specs.Progresses.{next_at}
use Rattle.sb_check.specs.declared.progress.Progress.{Progress}
use Rattle.sb_check.proofs.Admitted.{next_is_there, next_word, not_out_of_order, placed, taken_reached, words_are_next}
use Rattle.sb_check.proofs.BundleLookups.{found_id, host_at, no_host, plan_limits}
use Rattle.sb_check.proofs.ScriptWords.{item_there}
use Rattle.sb_check.proofs.progress.Progress.admits.Goals as goal

pub returns-then-not-is_in_order-clause-fault : goal.returns-then-not-is_in_order-clause-fault
returns-then-not-is_in_order-clause-fault c = λ journal reached range lawful.
    let b = c.args.bundle.now in
    not_out_of_order (network_of b) c.args.self.now journal c.args.entry.now b.ids reached range (sym c.is_in_order.ensures ∙ c.if-not-is_in_order.true) lawful

pub returns-then-span-from-clause-fault : goal.returns-then-span-from-clause-fault
returns-then-span-from-clause-fault c = λ journal reached range lawful.
    let b = c.args.bundle.now in
    let narrow = (placed (network_of b) c.args.self.now journal c.args.entry.now b.ids reached range lawful).narrow in
    let wide = c.if-span-from.true in
    let width = c.from.ensures ∙ c.width_to.ensures in
    let span = c.span.ensures in
    omega arith

pub returns-in_default-clause-fault : goal.returns-in_default-clause-fault
returns-in_default-clause-fault c = λ journal reached range lawful.
    let b = c.args.bundle.now in
    no_host b c.args.entry.now.packet.cmd.host (sym c.host_place.ensures.place ∙ c.in_default.is) (placed (network_of b) c.args.self.now journal c.args.entry.now b.ids reached range lawful).host

pub returns-in_default-next_at-clause-fault : goal.returns-in_default-next_at-clause-fault
returns-in_default-next_at-clause-fault c = λ journal reached range lawful.
    let b = c.args.bundle.now in
    let there = c.in-Some.ensures.there in
    let host = item_there (network_of b).hosts c.in-Some.host (omega (arith, there, length-map b.hosts.items host_of)) in
    next_is_there (network_of b) c.args.self.now journal c.args.entry.now b.ids reached range c.in-Some.host host.0 host.1
    (ap (next_at c.args.self.now c.in-Some.host) (sym c.from-device.ensures) ∙ sym c.next_at.ensures ∙ c.in_default-next_at.is)

pub behind-requires-clause-id : goal.behind-requires-clause-id
behind-requires-clause-id c = (plan_limits c.args.bundle.now c.in-Some.host c.index-plan.result.now c.in-Some.ensures.there c.index-plan.ensures).id

pub behind-requires-clause-few : goal.behind-requires-clause-few
behind-requires-clause-few c = (plan_limits c.args.bundle.now c.in-Some.host c.index-plan.result.now c.in-Some.ensures.there c.index-plan.ensures).few

pub returns-in_default-behind-clause-fault : goal.returns-in_default-behind-clause-fault
returns-in_default-behind-clause-fault c = λ journal reached range lawful.
    let b = c.args.bundle.now in
    let before = c.args.self.now in
    let e = c.args.entry.now in
    let h = c.in-Some.host in
    let plan = c.index-plan.result.now in
    let next = c.in-Some-next_at.next in
    let at = host_at b h plan c.in-Some.ensures.there c.index-plan.ensures in
    let own = found_id b.hosts.items e.packet.cmd.host h plan (sym c.host_place.ensures.place ∙ c.in-Some.is) c.index-plan.ensures in
    let was : next_at before h e.device ≡ Some next = ap (next_at before h) (sym c.from-device.ensures) ∙ sym c.next_at.ensures ∙ c.in-Some-next_at.is in
    c.in_default-behind.ensures.none (next_word (network_of b) before journal e b.ids reached range h (host_of plan) next at was).place
    (words_are_next (network_of b) before journal e b.ids reached range h (host_of plan) next at own was lawful)

pub returns-clause-reached : goal.returns-clause-reached
returns-clause-reached c = λ journal reached range.
    let b = c.args.bundle.now in
    let before = c.args.self.now in
    let e = c.args.entry.now in
    let h = c.in-Some.host in
    let plan = c.index-plan.result.now in
    let next = c.in-Some-next_at.next in
    let at = host_at b h plan c.in-Some.ensures.there c.index-plan.ensures in
    let own = found_id b.hosts.items e.packet.cmd.host h plan (sym c.host_place.ensures.place ∙ c.in-Some.is) c.index-plan.ensures in
    let was : next_at before h e.device ≡ Some next = ap (next_at before h) (sym c.from-device.ensures) ∙ sym c.next_at.ensures ∙ c.in-Some-next_at.is in
    let place = (next_word (network_of b) before journal e b.ids reached range h (host_of plan) next at was).place in
    let at_device = c.from-device.ensures in
    let after : Progress = record { hosts = c.set_next.new.self.hosts; last = Some e } in
    let fits = c.if-span-from.false in
    let width = c.from.ensures ∙ c.width_to.ensures in
    let span = c.span.ensures in
    let narrow : span_of e.packet.cmd ≤ width_to (network_of b) e.device = omega arith in
    taken_reached (network_of b) before journal e b.ids reached range after h (host_of plan) next c.in-Some-behind.later (record {
      at = at;
      own = own;
      was = was;
      place = c.in-Some-behind.ensures.place place;
      left = c.in-Some-behind.ensures.left place;
      here = ap (next_at after h) (sym at_device) ∙ c.set_next.ensures.here;
      other_hosts = c.set_next.ensures.host;
      other_devices = λ k d apart. c.set_next.ensures.device k d (λ same. apart (same ∙ at_device));
      last = refl;
      order = sym c.is_in_order.ensures ∙ c.if-not-is_in_order.false;
      narrow = narrow;
    })
