-- send_close: a Close may be sent, and the port stays fit.
use Rattle.std.proofs.Common.{◌≡◌, [], sym, subst, refl, true}
use Rattle.std.specs.Prelude.{None}
use Rattle.sb_link.specs.RingPlans.{RingPlan}
use Rattle.sb_port.specs.Ports.{PortSide, PortState, IsFit}
use Rattle.sb_port.proofs.Fitness.{may_close, fit_closes}
use Rattle.sb_port.proofs.SameState.{same_state}
use Rattle.sb_port.proofs.Seen.{fit_seen}
use Rattle.sb_port.proofs.port.OutPort.send_close.Goals as goal

pub try_push-requires : goal.try_push-requires
try_push-requires g c =
    let q = c.self.inside in
    let s : PortState = record { sent = g.T.TxEnd.sent q.tx; waiting = q.outbox; close_requested = q.close_requested; close_sent = q.close_sent; words_offered = q.words_offered } in
    record { lawful = may_close (g.T.TxEnd.planned q.tx) s (fit_seen c.self.view_is c.requires.fit) c.if-self.false }

pub returns-in-Done-clause-fit : goal.returns-in-Done-clause-fit
returns-in-Done-clause-fit g c =
    let q = c.self.inside in
    let s : PortState = record { sent = g.T.TxEnd.sent q.tx; waiting = q.outbox; close_requested = q.close_requested; close_sent = q.close_sent; words_offered = q.words_offered } in
    let t : PortState = record { sent = g.T.TxEnd.sent c.try_push.new.self; waiting = q.outbox; close_requested = q.close_requested; close_sent = true; words_offered = q.words_offered } in
    subst (λ (plan : RingPlan). IsFit plan t) (sym c.in-Done.ensures.plan) (fit_closes (g.T.TxEnd.planned q.tx) s t (fit_seen c.self.view_is c.requires.fit) (record {
      none_owed = subst (λ (p : PortSide). p.state.waiting.owed ≡ []) (sym c.self.view_is) c.requires.none_owed;
      none_held = subst (λ (p : PortSide). p.state.waiting.held ≡ None) (sym c.self.view_is) c.requires.none_held;
      told = c.if-not-self.false;
      unsent = c.if-self.false;
      state = same_state _ _ _ _ q.close_requested true true q.words_offered c.in-Done.ensures.pushed.sent refl refl;
    }))
