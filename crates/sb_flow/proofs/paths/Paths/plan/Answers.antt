-- What was read of the ring's link is that of the bundle's network.
use Rattle.std.proofs.Common.{◌∙◌, ap, arith}
use Rattle.sb_flow.specs.NetworkOf.{network_of}
use Rattle.sb_flow.specs.Tables.{PathTable}
use Rattle.sb_flow.proofs.Bundles.{accepted}
use Rattle.sb_flow.proofs.RingLinks.{ring_link-there}
use Rattle.sb_flow.proofs.RingPlans.{tables_read}
use Rattle.sb_flow.proofs.ReadPlans.{IsRead, read_budget, read_capacity, read_plan, read_width}
use Rattle.sb_flow.proofs.paths.Paths.plan.Goals as goal

pub index-load-requires : goal.index-load-requires
index-load-requires c = omega (
  arith,
  c.from-2.ensures,
  ring_link-there (network_of c.args.bundle.now) c.args.ring c.in-Some.link (accepted c.args.bundle.now) c.in-Some.ensures,
  tables_read (network_of c.args.bundle.now) c.self.inside.links.items (ap (λ (t : PathTable). t.links) (c.self.view_is ∙ c.requires.made)),
  c.self.inside.links.ok.0,
)

-- what was read
read : (c : goal.After-flows) → IsRead c.args.bundle.now c.args.ring c.in-Some.link c.self.inside.links.items c.index-row.result.now c.index-load.result.now
read c = record {
  made = ap (λ (t : PathTable). t.links) (c.self.view_is ∙ c.requires.made);
  named = c.in-Some.ensures;
  row_at = rw c.from.ensures at c.index-row.ensures;
  load_at = rw c.from-2.ensures at c.index-load.ensures;
}

pub invariant_of-result : goal.invariant_of-result
invariant_of-result c =
    let numbers = read_capacity c.args.bundle.now c.args.ring c.in-Some.link c.self.inside.links.items c.index-row.result.now c.index-load.result.now (read c) in
    record {
      wide = read_width c.args.bundle.now c.args.ring c.in-Some.link c.self.inside.links.items c.index-row.result.now c.index-load.result.now (read c);
      some_room = numbers.0;
      most_room = numbers.1;
      budgeted = rw c.budget.ensures (read_budget c.args.bundle.now c.args.ring c.in-Some.link c.self.inside.links.items c.index-row.result.now c.index-load.result.now c.is_up-up.result (read c));
    }

pub returns : goal.returns
returns c =
    let read : IsRead c.args.bundle.now c.args.ring c.in-Some.link c.self.inside.links.items c.index-row.result.now c.index-load.result.now = record {
      made = ap (λ (t : PathTable). t.links) (c.self.view_is ∙ c.requires.made);
      named = c.in-Some.ensures;
      row_at = rw c.from.ensures at c.index-row.ensures;
      load_at = rw c.from-2.ensures at c.index-load.ensures;
    } in
    read_plan c.args.bundle.now c.args.ring c.in-Some.link c.self.inside.links.items c.index-row.result.now c.index-load.result.now c.is_up-up.result c.budget.result _ read c.is_up-up.ensures c.budget.ensures c.flows.ensures
