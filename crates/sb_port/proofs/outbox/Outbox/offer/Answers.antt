-- offer: a packet that is its only part goes to the merger straight.
use Rattle.std.proofs.Common.{◌≡◌, ◌∙◌, ap, sym, subst, []}
use Rattle.std.specs.Prelude.{Some}
use Rattle.sb_packet.specs.Messages.{message_of}
use Rattle.sb_port.specs.Waiting.{Waiting, listed_packet}
use Rattle.sb_port.proofs.Straight.{none_ready, straight}
use Rattle.sb_port.proofs.outbox.Outbox.offer.Goals as goal

pub returns-in-Held : goal.returns-in-Held
returns-in-Held c =
    let q = c.self.inside in
    let owed = subst (λ (w : Waiting). w.owed ≡ []) (sym c.self.view_is) c.requires.ready in
    record {
      offered = rw (← c.self.view_is) (straight q.ready q.ready q.cutter q.merger c.take.new.self (message_of c.args.packet.now)
          c.self.invariant.0 c.self.invariant.1 owed (sym c.is_one_part.ensures.one ∙ c.if-is_one_part.true)
          (ap listed_packet (none_ready q.ready _ owed) ∙ c.in-Held.ensures.out) c.in-Held.ensures.held c.in-Held.ensures.width);
    }

pub returns-in-Out : goal.returns-in-Out
returns-in-Out c =
    let q = c.self.inside in
    let owed = subst (λ (w : Waiting). w.owed ≡ []) (sym c.self.view_is) c.requires.ready in
    record {
      offered = rw (← c.self.view_is) (straight q.ready (Some c.in-Out.first) q.cutter q.merger c.take.new.self (message_of c.args.packet.now)
          c.self.invariant.0 c.self.invariant.1 owed (sym c.is_one_part.ensures.one ∙ c.if-is_one_part.true)
          c.in-Out.ensures.out c.in-Out.ensures.held c.in-Out.ensures.width);
    }
