-- The router stands at all its links.
use Rattle.sb_flow.specs.NetworkOf.{network_of}
use Rattle.sb_flow.proofs.Bundles.{accepted}
use Rattle.sb_net.proofs.RoutersMade.{fresh_ins, fresh_outs, router_made}
use Rattle.sb_net.proofs.making.routers.router_at.Goals as goal

pub new-requires-clause-ins : goal.new-requires-clause-ins
new-requires-clause-ins g c κs within = let b = c.args.bundle.now in fresh_ins g.F.Tx.TxEnd g.F.Rx.RxEnd (network_of b) (accepted b) c.args.ins.items c.requires.legs.ins_fresh

pub new-requires-clause-outs : goal.new-requires-clause-outs
new-requires-clause-outs g c κs within = let b = c.args.bundle.now in fresh_outs g.F.Tx.TxEnd g.F.Rx.RxEnd (network_of b) (accepted b) c.args.outs.items c.requires.legs.outs_fresh

pub returns : goal.returns
returns g c =
    let b = c.args.bundle.now in
    let e = c.in_ok-router.ensures in
    record {
      made = router_made g.F.Tx.TxEnd g.F.Rx.RxEnd (network_of b) (accepted b) c.args.number c.requires.number c.args.outs.items c.args.ins.items c.requires.legs c.in_ok-router.router
          e.whole e.requests_in e.requests_out e.answers_in e.answers_out e.down e.up e.forwards_requests e.forwards_answers;
    }
