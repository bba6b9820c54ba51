-- One port more was put.
use Rattle.sb_net.specs.Apart.{ring_ahead}
use Rattle.sb_net.proofs.PutBy.{next_within, put_next}
use Rattle.sb_net.proofs.settling.apart.put_ports.Goals as goal

pub put_port-requires : goal.put_port-requires
put_port-requires g c = record {
  within = next_within ring_ahead c.args.more.items c.args.ports.now.items c.loop-port.more.items c.pop.new.self.items c.in-Some.port c.loop-port.ports.items c.loop-port.invariant c.in-Some.ensures.items;
}

pub loop-port-preserved : goal.loop-port-preserved
loop-port-preserved g c = put_next ring_ahead c.args.more.items c.args.ports.now.items c.loop-port.more.items c.pop.new.self.items c.in-Some.port c.loop-port.ports.items c.put_port.new.ports.items
    c.loop-port.invariant c.in-Some.ensures.items c.put_port.ensures.put
