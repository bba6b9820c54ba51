-- The links so far have widths that links may have.
use Rattle.std.proofs.Common.{◌≡◌, drop, map, not, take}
use Rattle.std.specs.List.{position_from}
use Rattle.sb_flow.specs.Ends.{is_link_width}
use Rattle.sb_flow.specs.Rows.{link_of}
use Rattle.sb_topology.specs.Held.{draft_link}
use Rattle.sb_topology.proofs.widths.link_rows.Given as goal

abbrev pub invariant-loop-number : goal.invariant-loop-number
invariant-loop-number l = record {
  widths : position_from (λ l. not (is_link_width l.width)) 0 (map draft_link l.links) ≡ position_from (λ l. not (is_link_width l.width)) l.number (map draft_link (drop l.number l.links));
  rows : map link_of l.rows.items ≡ map draft_link (take l.number l.links);
}
