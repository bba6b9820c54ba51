-- offer: the packet fits where it is never cut, its words come behind those before, and the port stays fit.
use Rattle.std.proofs.Common.{◌≡◌, ◌+◌, ◌++◌, ℕ, false, ap, sym, ◌∙◌, subst, length}
use Rattle.sb_packet.specs.Accesses.{accesses_of}
use Rattle.sb_packet.specs.Messages.{message_of}
use Rattle.sb_link.specs.Traffic.{MayPass}
use Rattle.sb_port.specs.Ports.{PortSide, PortState, IsFit, offered_words, port_accesses}
use Rattle.sb_port.specs.Waiting.{Waiting, offered}
use Rattle.sb_port.proofs.Fitness.{fit_offered, fits_uncut, offered_accesses}
use Rattle.sb_port.proofs.Seen.{fit_seen}
use Rattle.sb_port.proofs.port.OutPort.offer.Goals as goal

pub returns-clause-fit : goal.returns-clause-fit
returns-clause-fit g c =
    let q = c.self.inside in
    let packet = c.args.packet.now in
    let plan = g.T.TxEnd.planned q.tx in
    let s : PortState = record { sent = g.T.TxEnd.sent q.tx; waiting = q.outbox; close_requested = q.close_requested; close_sent = q.close_sent; words_offered = q.words_offered } in
    let untold : s.close_requested ≡ false = subst (λ (p : PortSide). p.state.close_requested ≡ false) (sym c.self.view_is) c.requires.untold in
    let passes = subst (λ (p : PortSide). MayPass p.plan (length (offered_words p)) (message_of packet)) (sym c.self.view_is) c.requires.passes in
    let fit : IsFit plan (record s { waiting = offered s.waiting (message_of packet); words_offered = s.words_offered + c.word_count.result }) =
    subst (λ (n : ℕ). IsFit plan (record s { waiting = offered s.waiting (message_of packet); words_offered = s.words_offered + n })) (sym c.word_count.ensures.words)
    (fit_offered plan s packet (fit_seen c.self.view_is c.requires.fit) untold passes) in
    subst (λ (w : Waiting). IsFit plan (record s { waiting = w; words_offered = s.words_offered + c.word_count.result })) (sym c.offer.ensures.offered) fit

pub offer-requires-clause-fits : goal.offer-requires-clause-fits
offer-requires-clause-fits g c =
    let q = c.self.inside in
    let packet = c.args.packet.now in
    let s : PortState = record { sent = g.T.TxEnd.sent q.tx; waiting = q.outbox; close_requested = q.close_requested; close_sent = q.close_sent; words_offered = q.words_offered } in
    let passes = subst (λ (p : PortSide). MayPass p.plan (length (offered_words p)) (message_of packet)) (sym c.self.view_is) c.requires.passes in
    fits_uncut (g.T.TxEnd.planned q.tx) s packet (fit_seen c.self.view_is c.requires.fit) passes

pub returns-clause-words : goal.returns-clause-words
returns-clause-words g c =
    let q = c.self.inside in
    let packet = c.args.packet.now in
    let s : PortState = record { sent = g.T.TxEnd.sent q.tx; waiting = q.outbox; close_requested = q.close_requested; close_sent = q.close_sent; words_offered = q.words_offered } in
    let passes = subst (λ (p : PortSide). MayPass p.plan (length (offered_words p)) (message_of packet)) (sym c.self.view_is) c.requires.passes in
    let words_offered = q.words_offered + c.word_count.result in
    subst (λ (w : Waiting). port_accesses (record s { waiting = w; words_offered = words_offered }) ≡ offered_words c.args.self.now ++ accesses_of packet) (sym c.offer.ensures.offered)
    (offered_accesses (g.T.TxEnd.planned q.tx) s packet words_offered (fit_seen c.self.view_is c.requires.fit) passes
    ∙ ap (λ (p : PortSide). offered_words p ++ accesses_of packet) c.self.view_is)
