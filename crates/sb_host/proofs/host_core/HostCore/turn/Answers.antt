-- What the turn answers follows from what the ring and the port did, and the host stays in order.
use Rattle.std.proofs.Common.{◌≡◌, ◌∙◌, sym, ap, subst, Bool, false, arith}
use Rattle.std.specs.Prelude.{◌&&◌}
use Rattle.sb_link.specs.declared.answers.Turn.TheVariants as turns
use Rattle.sb_node.specs.Found.{IsTurnOf}
use Rattle.sb_node.specs.Rested.{rested_port_then}
use Rattle.sb_node.specs.Sides.{ring_side}
use Rattle.sb_node.specs.declared.findings.Findings.{Findings}
use Rattle.sb_host.specs.Progress.{TransactionsSide, left_of}
use Rattle.sb_host.specs.Steps.{HasOfferedNone, IsIssued, IsReceiveStep}
use Rattle.sb_host.specs.Windows.{window_cause}
use Rattle.sb_host.proofs.Ordered.{turned_whole}
use Rattle.sb_host.proofs.Turning.{found_unmoved, host_kept, host_turned, none_offered, none_popped, rested_by_none, still_moved, unmoved_before, wait_unmoved}
use Rattle.sb_host.proofs.host_core.HostCore.turn.Goals as goal

pub issue_next-offered-requires-clause-in_order : goal.issue_next-offered-requires-clause-in_order
issue_next-offered-requires-clause-in_order g c =
    let core = c.args.self.now in
    (ring_side g.U.RxEnd c.receive-popped.new.answers, c.receive-popped.ensures.in_order core.requests c.requires.whole.in_order)

pub returns-then-found-clause-whole : goal.returns-then-found-clause-whole
returns-then-found-clause-whole g c =
    let ring_then = ring_side g.U.RxEnd c.receive-popped.new.answers in
    let s = c.issue_next-offered in
    let p = c.turn_port in
    turned_whole s.new.transactions s.new.requests p.new.port ring_then p.ensures.kept.plan p.ensures.words p.ensures.told p.ensures.fit
    (s.ensures.in_order ring_then (c.receive-popped.ensures.in_order c.args.self.now.requests c.requires.whole.in_order))

pub returns-then-found-clause-kept : goal.returns-then-found-clause-kept
returns-then-found-clause-kept g c =
    let core = c.args.self.now in
    let r = c.receive-popped in
    let s = c.issue_next-offered in
    let p = c.turn_port in
    host_kept s.new.transactions (ring_side g.U.RxEnd core.answers) (ring_side g.U.RxEnd r.new.answers) core.requests s.new.requests p.new.port core.transactions r.new.transactions
    c.args.round r.ensures.rest s.ensures.rest s.ensures.onward s.ensures.kept p.ensures.kept r.ensures.ring

pub returns-then-found-clause-turned : goal.returns-then-found-clause-turned
returns-then-found-clause-turned g c =
    let core = c.args.self.now in
    let ring = ring_side g.U.RxEnd core.answers in
    let ring_then = ring_side g.U.RxEnd c.receive-popped.new.answers in
    let r = c.receive-popped in
    let s = c.issue_next-offered in
    let p = c.turn_port in
    host_turned s.new.transactions ring ring_then core.requests s.new.requests p.new.port core.transactions r.new.transactions
    c.args.round r.result s.result r.new.found s.new.found p.new.found turns.Moved
    (subst (λ (f : Findings). IsReceiveStep ring ring_then f r.new.found r.result) c.new-found.ensures r.ensures.received)
    s.ensures.issued p.ensures.turned s.ensures.kept p.ensures.kept
    c.if-found.true
    s.ensures.sent p.ensures.served (ap left_of r.ensures.rest) p.ensures.words s.ensures.next_offered s.ensures.aimed s.ensures.closes_when_due p.ensures.told

pub returns-clause-whole : goal.returns-clause-whole
returns-clause-whole g c =
    let ring_then = ring_side g.U.RxEnd c.receive-popped.new.answers in
    let s = c.issue_next-offered in
    let p = c.turn_port in
    turned_whole s.new.transactions s.new.requests p.new.port ring_then p.ensures.kept.plan p.ensures.words p.ensures.told p.ensures.fit
    (s.ensures.in_order ring_then (c.receive-popped.ensures.in_order c.args.self.now.requests c.requires.whole.in_order))

pub returns-clause-kept : goal.returns-clause-kept
returns-clause-kept g c =
    let core = c.args.self.now in
    let r = c.receive-popped in
    let s = c.issue_next-offered in
    let p = c.turn_port in
    host_kept s.new.transactions (ring_side g.U.RxEnd core.answers) (ring_side g.U.RxEnd r.new.answers) core.requests s.new.requests p.new.port core.transactions r.new.transactions
    c.args.round r.ensures.rest s.ensures.rest s.ensures.onward s.ensures.kept p.ensures.kept r.ensures.ring

pub returns-clause-turned : goal.returns-clause-turned
returns-clause-turned g c =
    let core = c.args.self.now in
    let ring = ring_side g.U.RxEnd core.answers in
    let ring_then = ring_side g.U.RxEnd c.receive-popped.new.answers in
    let r = c.receive-popped in
    let s = c.issue_next-offered in
    let p = c.turn_port in
    let ends = (s.ensures.in_order ring_then (r.ensures.in_order core.requests c.requires.whole.in_order)).ends in
    host_turned s.new.transactions ring ring_then core.requests s.new.requests p.new.port core.transactions r.new.transactions
    c.args.round r.result s.result r.new.found s.new.found p.new.found c.turn.result
    (subst (λ (f : Findings). IsReceiveStep ring ring_then f r.new.found r.result) c.new-found.ensures r.ensures.received)
    s.ensures.issued p.ensures.turned s.ensures.kept p.ensures.kept
    (subst (λ (b : Bool). IsTurnOf p.new.found b c.turn.result) (c.is_done.ensures ∙ ap (λ (b : Bool). p.new.port.state.close_sent && b) ends) c.turn.ensures)
    s.ensures.sent p.ensures.served (ap left_of r.ensures.rest) p.ensures.words s.ensures.next_offered s.ensures.aimed s.ensures.closes_when_due p.ensures.told

pub returns-clause-rested : goal.returns-clause-rested
returns-clause-rested g c = λ ne.
    let port = c.args.self.now.requests in
    let ring = ring_side g.U.RxEnd c.args.self.now.answers in
    let ring_then = ring_side g.U.RxEnd c.receive-popped.new.answers in
    let middle = c.issue_next-offered.new.requests in
    let r = c.receive-popped in
    let s = c.issue_next-offered in
    let p = c.turn_port in
    let unmoved = found_unmoved p.new.found c.is_done.result c.turn.result c.turn.ensures ne in
    let unmoved_ports = unmoved_before s.new.found.moved p.new.found.moved (still_moved s.new.found.moved middle p.new.port s.new.found p.new.found p.ensures.turned) unmoved in
    let none_out : s.result ≡ false = none_offered s.new.transactions port middle s.result r.new.found s.new.found s.ensures.issued unmoved_ports in
    let stood : HasOfferedNone s.new.transactions port middle r.new.found s.new.found = subst (λ (b : Bool). IsIssued s.new.transactions port middle r.new.found s.new.found b) none_out s.ensures.issued in
    let unmoved_rings : r.new.found.moved ≡ false = sym (wait_unmoved (window_cause s.new.transactions) r.new.found s.new.found stood.found_wait) ∙ unmoved_ports in
    let none_in : r.result ≡ false = none_popped ring ring_then r.result c.new-found.result r.new.found r.ensures.received unmoved_rings in
    let same = r.ensures.unchanged none_in in
    record {
      transactions = record {
        asked = ap (λ (t : TransactionsSide). t.asked) s.ensures.rest ∙ ap (λ (t : TransactionsSide). t.asked) same;
        rows = ap (λ (t : TransactionsSide). t.rows) s.ensures.rest ∙ ap (λ (t : TransactionsSide). t.rows) same;
        ended = ap (λ (t : TransactionsSide). t.ended) s.ensures.rest ∙ ap (λ (t : TransactionsSide). t.ended) same;
        onward = let before = ap (λ (t : TransactionsSide). t.next) same in let onward = s.ensures.onward in omega (arith, before, onward);
        left = s.ensures.left none_out ∙ ap left_of same;
      };
      requests = rested_port_then (rested_by_none s.new.transactions port middle r.new.found s.new.found stood s.ensures.kept) (p.ensures.still unmoved);
      answers = r.ensures.still none_in;
    }
