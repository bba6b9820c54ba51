-- The next packet passes, and the host stays in order behind it.
use Rattle.std.proofs.Common.{◌≡◌, ap, ◌∙◌, arith}
use Rattle.std.proofs.lemmas.Bool.{false_from_ne_true}
use Rattle.sb_port.specs.Ports.{PortSide, offered_words}
use Rattle.sb_packet.specs.Messages.{message_of}
use Rattle.sb_host.specs.Progress.{left_of}
use Rattle.sb_host.proofs.Ordered.{offered_first, offered_in_order}
use Rattle.sb_host.proofs.Passing.{next_passes}
use Rattle.sb_host.proofs.serving.offer_next.Goals as goal

pub offer-requires-clause-passes : goal.offer-requires-clause-passes
offer-requires-clause-passes g c =
    let t = c.args.transactions.now in
    let port = c.args.requests.now in
    let is = c.requires.in_order.1 in
    next_passes t.asked port.plan t.next t.part (offered_words port) (message_of c.issue-packet.result)
    (left_of c.issue-packet.new.self) is.issuable is.made is.offered c.issue-packet.ensures.packet

pub returns-clause-next_offered : goal.returns-clause-next_offered
returns-clause-next_offered g c = λ ready m rest here.
    let t = c.args.transactions.now in
    offered_first m (message_of c.issue-packet.result) rest (left_of c.issue-packet.new.self) (left_of t) (offered_words c.args.requests.now) (offered_words c.offer.new.self)
    c.issue-packet.ensures.packet c.offer.ensures.words here

pub returns-clause-in_order : goal.returns-clause-in_order
returns-clause-in_order g c ring is =
    let t = c.args.transactions.now in
    let port = c.args.requests.now in
    let port_then = c.offer.new.self in
    let rest = c.offer.ensures.rest in
    let closes = is.closes in
    let some = c.requires.some in
    let plan : port_then.plan ≡ port.plan = ap (λ (p : PortSide). p.plan) rest in
    let told : port_then.state.close_requested ≡ port.state.close_requested = ap (λ (p : PortSide). p.state.close_requested) rest in
    offered_in_order t c.issue-packet.new.self port port_then ring (message_of c.issue-packet.result) c.issue-packet.ensures.rest c.issue-packet.ensures.come c.issue-packet.ensures.packet
    plan (told ∙ false_from_ne_true port.state.close_requested (λ asked. let all = closes asked in omega (arith, all, some))) c.offer.ensures.words c.requires.free c.issue-packet.ensures.begun is
