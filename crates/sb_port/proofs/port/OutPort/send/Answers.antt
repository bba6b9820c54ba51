-- send: the first packet that is owed may be sent, and the port stays fit.
use Rattle.std.proofs.Common.{◌≡◌, ◌∷◌, sym, subst, drop, refl}
use Rattle.sb_packet.specs.Messages.{message_of}
use Rattle.sb_link.specs.RingPlans.{RingPlan}
use Rattle.sb_port.specs.Ports.{PortState, IsFit}
use Rattle.sb_port.proofs.Fitness.{may_send, fit_sends}
use Rattle.sb_port.proofs.SameState.{same_state}
use Rattle.sb_port.proofs.Seen.{fit_seen, sends_seen}
use Rattle.sb_port.proofs.port.OutPort.send.Goals as goal

pub try_push-requires : goal.try_push-requires
try_push-requires g c =
    let q = c.self.inside in
    let s : PortState = record { sent = g.T.TxEnd.sent q.tx; waiting = q.outbox; close_requested = q.close_requested; close_sent = q.close_sent; words_offered = q.words_offered } in
    let first : q.outbox.owed ≡ message_of c.unwrap-packet.result.now ∷ drop 1 q.outbox.owed = rw c.unwrap-packet.ensures at c.first.ensures.first in
    record { lawful = may_send (g.T.TxEnd.planned q.tx) s c.unwrap-packet.result.now (drop 1 q.outbox.owed) (fit_seen c.self.view_is c.requires.fit) first }

pub returns-in-Done-clause-tried : goal.returns-in-Done-clause-tried
returns-in-Done-clause-tried g c =
    let q = c.self.inside in
    sends_seen _ c.self.view_is (record {
      packet = c.unwrap-packet.result.now;
      first = rw c.unwrap-packet.ensures at c.first.ensures.first;
      state = same_state _ _ _ _ q.close_requested q.close_sent q.close_sent q.words_offered c.in-Done.ensures.pushed.sent c.advance.ensures.advanced refl;
    })

pub returns-in-Done-clause-fit : goal.returns-in-Done-clause-fit
returns-in-Done-clause-fit g c =
    let q = c.self.inside in
    let s : PortState = record { sent = g.T.TxEnd.sent q.tx; waiting = q.outbox; close_requested = q.close_requested; close_sent = q.close_sent; words_offered = q.words_offered } in
    let t : PortState = record { sent = g.T.TxEnd.sent c.try_push.new.self; waiting = c.advance.new.self; close_requested = q.close_requested; close_sent = q.close_sent; words_offered = q.words_offered } in
    subst (λ (plan : RingPlan). IsFit plan t) (sym c.in-Done.ensures.plan) (fit_sends (g.T.TxEnd.planned q.tx) s t (fit_seen c.self.view_is c.requires.fit) (record {
      packet = c.unwrap-packet.result.now;
      first = rw c.unwrap-packet.ensures at c.first.ensures.first;
      state = same_state _ _ _ _ q.close_requested q.close_sent q.close_sent q.words_offered c.in-Done.ensures.pushed.sent c.advance.ensures.advanced refl;
    }))
