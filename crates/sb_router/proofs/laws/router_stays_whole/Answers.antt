use Rattle.sb_router.proofs.EndPlaces.{port_ports, port_rings, port_whole, ring_ports, ring_rings, ring_whole}
use Rattle.sb_router.proofs.laws.router_stays_whole.Goals as goal

pub returns : goal.returns
returns c = record {
  ring = λ r k ring lt met w. ring_whole r k ring lt met w;
  port = λ r k port lt met w. port_whole r k port lt met w;
  ring_rings = λ r k ring. ring_rings r k ring;
  ring_ports = λ r k ring. ring_ports r k ring;
  port_ports = λ r k port. port_ports r k port;
  port_rings = λ r k port. port_rings r k port;
}
