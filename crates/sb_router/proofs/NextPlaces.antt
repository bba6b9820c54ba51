-- The place to which a packet goes is one of the places.
use Rattle.std.proofs.Common.{◌≡◌, ℕ, ◌<◌, Option, Some, None, refl}
use Rattle.std.specs.Option.{option_and_then}
use Rattle.sb_packet.specs.Messages.{message_of}
use Rattle.sb_link.specs.RingPlans.{NetFlow, RingPlan, message_flow}
use Rattle.sb_packet.specs.declared.packet.Packet.{Packet}
use Rattle.sb_router.specs.Lanes.{Route, next_place}

-- a flow that was found goes there
pub next_flow : (route : Route) (plan : RingPlan) (p : Packet) (o : ℕ) → next_place route plan p ≡ Some o
    → (g : NetFlow) × (message_flow plan.flows (message_of p) ≡ Some g) × (route g ≡ Some o)
next_flow route plan p o e = by_flow (message_flow plan.flows (message_of p)) e
  where
    by_flow : (found : Option NetFlow) → option_and_then route found ≡ Some o → (g : NetFlow) × (found ≡ Some g) × (route g ≡ Some o)
    by_flow (Some g) q = (g, refl, q)
    by_flow None q = let no_way : ⊥ = cc in absurd no_way

-- so its place is within whatever bounds the places of all flows
pub next_within : (route : Route) (plan : RingPlan) (p : Packet) (o n : ℕ) → ((f : NetFlow) (o : ℕ) → route f ≡ Some o → o < n) → next_place route plan p ≡ Some o → o < n
next_within route plan p o n bound e = let found = next_flow route plan p o e in bound found.0 o found.2
