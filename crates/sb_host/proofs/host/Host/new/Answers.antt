-- A new host has offered nothing, and has a table without an answer.
use Rattle.std.proofs.Common.{◌≡◌, ◌∙◌, sym, ap, subst, arith, Some, [], false, ◌*◌}
use Rattle.std.specs.Prelude.{slice_get}
use Rattle.std.proofs.Math.ListN.{get_or}
use Rattle.std.proofs.lemmas.List.{length-map}
use Rattle.std.proofs.lemmas.Option.{slice_get-get_or}
use Rattle.sb_packet.specs.Networks.{NetHost}
use Rattle.sb_link.specs.RingPlans.{RingPlan}
use Rattle.sb_flow.specs.Rings.{ring_plan}
use Rattle.sb_port.specs.Ports.{PortSide}
use Rattle.sb_port.specs.Waiting.{nothing_waits}
use Rattle.sb_node.specs.Sides.{ring_side}
use Rattle.sb_flow.specs.NetworkOf.{network_of}
use Rattle.sb_flow.specs.Rows.{host_of}
use Rattle.sb_flow.proofs.Bundles.{accepted, idle_plan}
use Rattle.sb_host.specs.Asked.{Asked}
use Rattle.sb_host.specs.Progress.{IsMadeFor, TransactionsSide}
use Rattle.sb_host.specs.Places.{AreIssuable, asked_of}
use Rattle.sb_host.proofs.Beginning.{begins_in_order, orders_issuable}
use Rattle.sb_host.proofs.OwnRings.{own_ring_made}
use Rattle.sb_host.proofs.host.Host.new.Goals as goal

pub returns-clause-whole : goal.returns-clause-whole
returns-clause-whole g c =
    let network = network_of c.args.bundle.now in
    let number = c.args.number in
    let host : NetHost = get_or network.hosts number (host_of idle_plan) in
    let there : slice_get network.hosts number ≡ Some host =
    let inside = c.requires.number in slice_get-get_or network.hosts number (host_of idle_plan) (let long = length-map c.args.bundle.now.hosts.items host_of in omega (arith, inside, long)) in
    let t = c.in_ok-transactions.transactions in
    let port = c.new-2.result in
    let ring = ring_side g.F.Rx.RxEnd c.args.leg.answers in
    let asked : t.asked ≡ asked_of c.in_ok-script_plan.script_plan = ap (λ (x : TransactionsSide). x.asked) c.in_ok-transactions.ensures.fresh in
    let new : t ≡ record { asked = t.asked; rows = t.rows; next = 0; part = 0; ended = false } =
    c.in_ok-transactions.ensures.fresh ∙ ap (λ (a : Asked). record { asked = a; rows = t.rows; next = 0; part = 0; ended = false }) (sym asked) in
    let plan : port.plan ≡ g.F.Tx.TxEnd.planned c.args.leg.requests = ap (λ (p : PortSide). p.plan) c.new-2.ensures.fresh in
    let made : IsMadeFor port.plan t.asked =
    subst (λ (p : RingPlan). IsMadeFor p t.asked) (sym (plan ∙ c.requires.planned))
    (subst (λ (a : Asked). IsMadeFor (ring_plan network (2 * c.args.leg.link)) a) (sym (asked ∙ c.in_ok-script_plan.ensures.asked host there))
    (own_ring_made network number c.args.leg.link host (accepted c.args.bundle.now) there c.requires.own)) in
    let state : port.state ≡ record { sent = []; waiting = nothing_waits port.plan.width; close_requested = false; close_sent = false; words_offered = 0 } =
    ap (λ (p : PortSide). p.state) c.new-2.ensures.fresh
    ∙ ap (λ (p : RingPlan). record { sent = []; waiting = nothing_waits p.width; close_requested = false; close_sent = false; words_offered = 0 }) (sym plan) in
    let issuable : AreIssuable t.asked = subst AreIssuable (sym asked) (orders_issuable c.in_ok-script_plan.script_plan) in
    record {
      fit = c.new-2.ensures.fit;
      in_order = begins_in_order t port ring new issuable made state c.requires.unreceived c.in_ok-transactions.ensures.table;
    }
