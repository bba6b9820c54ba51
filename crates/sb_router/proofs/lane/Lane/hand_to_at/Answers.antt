-- hand_to_at: the port at the place is offered the packet, and no other one.
use Rattle.std.proofs.Common.{sym, refl, subst, arith}
use Rattle.sb_router.specs.Lanes.{no_port}
use Rattle.sb_router.specs.Steps.{IsHandedTo}
use Rattle.sb_router.proofs.Places.{at_place}
use Rattle.sb_router.proofs.lane.Lane.hand_to_at.Goals as goal

pub returns-clause-handed : goal.returns-clause-handed
returns-clause-handed g c =
    let list = c.args.self.now.outlets in
    record {
      port = c.hand_to.new.port;
      handed = subst (λ y. IsHandedTo y c.hand_to.new.port c.args.packet.now) (sym (at_place list.items c.args.place c.index_mut.result.now no_port (omega (arith, c.requires.within, list.ok.0)) c.index_mut.ensures.value)) c.hand_to.ensures.handed;
      state = refl;
    }
