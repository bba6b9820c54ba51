use Rattle.sb_router.proofs.EndPlaces.{port_count, ports_kept, ring_count, rings_kept}
use Rattle.sb_router.proofs.laws.routers_keep_their_places.Goals as goal

pub returns : goal.returns
returns c = record {
  port_count = λ r s kept. port_count r s kept;
  ring_count = λ r s kept. ring_count r s kept;
  ports = λ r s k kept. ports_kept r s kept k;
  rings = λ r s k kept. rings_kept r s kept k;
}
