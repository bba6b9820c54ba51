-- step: a port that let go what it held is fit.
use Rattle.std.proofs.Common.{sym, subst}
use Rattle.sb_port.specs.Ports.{PortState, IsFit}
use Rattle.sb_port.specs.Waiting.{Waiting}
use Rattle.sb_port.proofs.Fitness.{fit_released}
use Rattle.sb_port.proofs.Seen.{fit_seen}
use Rattle.sb_port.proofs.port.OutPort.step.Goals as goal

pub send-requires-then-let_go-clause-fit : goal.send-requires-then-let_go-clause-fit
send-requires-then-let_go-clause-fit g c =
    let q = c.self.inside in
    let plan = g.T.TxEnd.planned q.tx in
    let s : PortState = record { sent = g.T.TxEnd.sent q.tx; waiting = q.outbox; close_requested = q.close_requested; close_sent = q.close_sent; words_offered = q.words_offered } in
    subst (λ (w : Waiting). IsFit plan (record s { waiting = w })) (sym c.let_go.ensures.released) (fit_released plan s (fit_seen c.self.view_is c.requires.fit))
