-- The links so far are drafted, with their names beside them.
use Rattle.std.proofs.Common.{◌≡◌, [], drop, map}
use Rattle.std.specs.Vec.{vec_len}
use Rattle.sb_fields.specs.Counted.{counted_link}
use Rattle.sb_topology.specs.Names.{links_by}
use Rattle.sb_topology.specs.Held.{draft_link, given_names}
use Rattle.sb_topology.proofs.links.link_drafts.Given as goal

abbrev pub invariant-loop-number : goal.invariant-loop-number
invariant-loop-number l = record {
  links : links_by (given_names l.names) 0 [] (map counted_link l.links) ≡ links_by (given_names l.names) l.number (map draft_link l.drafts.items) (map counted_link (drop l.number l.links));
  earlier : map (λ n. n.now) l.earlier.items ≡ map (λ l. l.name) (map draft_link l.drafts.items);
  many : vec_len l.drafts ≡ l.number;
}
