-- The network of every number is accepted, so its bundle keeps all facts.
use Rattle.std.proofs.Common.{None, subst, sym}
use Rattle.sb_flow.specs.Accepted.{IsAccepted}
use Rattle.sb_flow.specs.Rows.{rows_network}
use Rattle.sb_gen.proofs.GeneratedNetworks.{generated_is_accepted}
use Rattle.sb_gen.proofs.GeneratedRows.{rows_of_number}
use Rattle.sb_gen.proofs.bundle.gen_bundle.Goals as goal

pub invariant_of-result : goal.invariant_of-result
invariant_of-result c =
    let hosts = c.in_ok-hosts.hosts.items in
    let routers = c.in_ok-routers.routers.items in
    let devices = c.in_ok-devices.devices.items in
    let links = c.in_ok-links.links.items in
    let rows = rows_of_number c.args.number hosts routers devices links c.in_ok-hosts.ensures c.in_ok-routers.ensures c.in_ok-devices.ensures c.in_ok-links.ensures in
    let is : IsAccepted (rows_network hosts routers devices links None) = subst IsAccepted (sym rows) (generated_is_accepted c.args.number) in
    record {
      limits = is.limits;
      names = is.names;
      link_names = is.link_names;
      named = is.named;
      ids = is.ids;
      placed = is.placed;
      apart = is.apart;
      images = is.images;
      widths = is.widths;
      ends = is.ends;
      forward = is.forward;
      linked = is.linked;
      routes = is.routes;
      words = is.words;
    }

pub returns : goal.returns
returns c = record {
  network = rows_of_number c.args.number c.in_ok-hosts.hosts.items c.in_ok-routers.routers.items c.in_ok-devices.devices.items c.in_ok-links.links.items
      c.in_ok-hosts.ensures c.in_ok-routers.ensures c.in_ok-devices.ensures c.in_ok-links.ensures;
}
