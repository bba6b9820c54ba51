-- The facts of a bundle are those of its network.
use Rattle.sb_topology.proofs.bundle.bundle_of_rows.Goals as goal

pub invariant_of-result : goal.invariant_of-result
invariant_of-result c = record {
  limits = c.requires.limits;
  names = c.requires.names;
  link_names = c.requires.link_names;
  named = c.requires.named;
  ids = c.requires.ids;
  placed = c.requires.placed;
  apart = c.requires.apart;
  images = c.requires.images;
  widths = c.requires.widths;
  ends = c.requires.ends;
  forward = c.requires.forward;
  linked = c.requires.linked;
  routes = c.requires.routes;
  words = c.requires.words;
}
