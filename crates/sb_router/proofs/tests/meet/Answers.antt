-- The port's end met the far one, and all else is as it was.
use Rattle.std.proofs.Common.{◌≡◌, List, get_or, length, sym, ap, ◌∙◌, arith}
use Rattle.std.proofs.lemmas.List.{get_or-set_same, length-set}
use Rattle.sb_node.specs.Kept.{IsPortMet}
use Rattle.sb_packet.specs.declared.item.Item.{Item}
use Rattle.sb_port.specs.Ports.{PortSide, PortState, with_end}
use Rattle.sb_router.specs.Routers.{RouterSide, router_port, router_ports}
use Rattle.sb_router.specs.Lanes.{no_port}
use Rattle.sb_router.proofs.EndPlaces.{port_ports, port_whole}
use Rattle.sb_router.proofs.tests.meet.Goals as goal

pub returns : goal.returns
returns g c =
    let tx = g.F.Tx.TxEnd in
    let r : RouterSide = c.args.router.now in
    let k = c.args.place in
    let was : PortSide = c.port.result.now in
    let port : PortSide = with_end tx was c.hand.new.tx in
    let h = c.hand.ensures in
    let value = c.port.ensures.value in
    let same : port.state ≡ was.state = ap (λ (sent : List Item). (let state : PortState = record was.state { sent = sent } in state)) (h.sent ∙ c.end.ensures.sent) in
    let met : IsPortMet (router_port r k) port = record {
      plan = h.tx_plan ∙ c.end.ensures.plan ∙ ap (λ (p : PortSide). p.plan) value;
      state = same ∙ ap (λ (p : PortSide). p.state) value;
      learnt = let more = h.taken in let at = c.end.ensures.taken in let there = ap (λ (p : PortSide). p.taken) value in omega (arith, more, at, there);
    } in
    record {
      whole = port_whole r k port c.requires.within met c.requires.whole;
      within = ap length (port_ports r k port) ∙ length-set (router_ports r) k port;
      mark = ap (λ (l : List PortSide). (get_or l k no_port).mark) (port_ports r k port) ∙ ap (λ (p : PortSide). p.mark) (get_or-set_same (router_ports r) k port no_port c.requires.within) ∙ h.marks ∙ sym c.pop.ensures.mark;
    }
