-- What a plan says, in the words of the definitions.
use Rattle.std.specs.Prelude.{map}
use Rattle.sb_link.specs.RingPlans.{RingFlows, RingPlan}
use Rattle.sb_link.specs.Plans.{ranges_of, bits_of}
use Rattle.sb_link.specs.declared.flows.Flows.{Flows}
use Rattle.sb_link.specs.declared.plan.LinkPlan.{LinkPlan}

-- the flows of a ring, with all their places
abbrev pub flows_of : Flows → RingFlows
flows_of f = record { devices = f.count; ranges = ranges_of f.base f.bytes; through = map bits_of f.through }

-- a plan with all its fields
abbrev pub plan_of : LinkPlan → RingPlan
plan_of p = record { ring = p.ring; up = p.up; width = p.width; capacity = p.capacity; budget = p.budget; flows = flows_of p.flows }
