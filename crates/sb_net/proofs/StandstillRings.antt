-- The rings of a network's links by their stages, and that each has room for an item.
use Rattle.std.proofs.Common.{◌≡◌, inl, inr, ℕ, ◌<◌, ◌+◌, ◌*◌, ◌/◌, Bool, true, false, cond, List, length, refl, sym, ap, ◌∙◌, subst, arith}
use Rattle.std.specs.Prelude.{◌&&◌, not, nat_le, nat_lt, filter, map, All, Option, Some, None, get_or, slice_get}
use Rattle.std.specs.List.{range_with_len}
use Rattle.std.specs.Option.{option_map_or}
use Rattle.std.proofs.lemmas.Bool.{and_parts, leb-true}
use Rattle.std.proofs.lemmas.Bool.Decides.{nat_tests}
use Rattle.std.proofs.lemmas.List.Elements.{All-filter, All-map, filter_passes}
use Rattle.std.proofs.lemmas.Option.{slice_get_cases}
use Rattle.sb_packet.specs.Networks.{NetLink, Network}
use Rattle.sb_flow.specs.Rings.{ring_plan}
use Rattle.sb_flow.specs.Ways.{is_some_number, router_after, router_before}
use Rattle.sb_port.specs.Ports.{PortSide}
use Rattle.sb_flow.specs.Accepted.{IsAccepted, is_limited_link}
use Rattle.sb_flow.proofs.RingLinks.{link_limits}
use Rattle.sb_router.specs.Lanes.{InletState}
use Rattle.sb_router.specs.Routers.{DirectionSide}
use Rattle.sb_laws.specs.NetworkLayouts.{HasWays, IsRouted, answer_ring, answer_stage, is_link_to, last_stage, links_into, links_out_of, network_stages, request_ring, ring_count, stage_after, stage_back_after, stage_back_before, stage_before}
use Rattle.sb_laws.specs.RouterSides.{ComesInto, IsAtStage, IsBuiltFor, Leaves, answer_ins, answer_outs, request_ins, request_outs}
use Rattle.sb_laws.specs.Standstills.{Stages}
use Rattle.sb_laws.proofs.CarriedRings.{All-unmap, not_up, up}
use Rattle.sb_laws.proofs.LinksOfWays.{device_or_router}
use Rattle.sb_laws.proofs.NetworkLaidOut.{counted}
use Rattle.sb_flow.proofs.WayCourses.{some_number-is}
use Rattle.sb_laws.proofs.NoFaults.{All-at, all_pass}
use Rattle.sb_laws.proofs.WaysOfRouted.{ways_of_routed}

-- each ring of an accepted network has room for an item
pub has_room : (network : Network) → IsAccepted network → (r : ℕ) → r < ring_count network → 0 < (ring_plan network r).capacity
has_room network accepted r below =
    let inside : r / 2 < length network.links = omega (arith, below) in
    let there : nat_lt (r / 2) (length network.links) ≡ true = grind (arith, nat_tests) in
    rw there (by_link inside (slice_get network.links (r / 2)) refl)
  where
    limited : All (λ l. is_limited_link l ≡ true) network.links
    limited = all_pass is_limited_link network.links (link_limits network accepted.limits)

    by_link : r / 2 < length network.links → (o : Option NetLink) → slice_get network.links (r / 2) ≡ o → 0 < option_map_or (λ (l : NetLink). l.capacity) o 0
    by_link inside None e = elim (slice_get_cases network.links (r / 2)).1 [
      | inl found ↦ absurd (let never : None ≡ Some found.0 = sym e ∙ found.2 in cc)
      | inr past ↦ absurd (let behind = past.0 in omega (arith, inside, behind))
    ]
    by_link inside (Some l) e =
        let parts = and_parts (nat_le 1 l.capacity) (nat_le l.capacity 1024) (All-at (λ l. is_limited_link l ≡ true) network.links (r / 2) l limited e) in
        omega (arith, leb-true 1 l.capacity parts.0)

module _ (network : Network) where
  -- the two rings of a link are there
  pub request_there : (k : ℕ) → k < length network.links → request_ring k < ring_count network
  request_there k there = omega (arith, there)

  pub answer_there : (k : ℕ) → k < length network.links → answer_ring k < ring_count network
  answer_there k there = omega (arith, there)

module _ (network : Network) (routed : IsRouted network) where
  abbrev stages : Stages
  stages = network_stages network

  ways : HasWays network
  ways = ways_of_routed network routed

  request_half : (k : ℕ) → 2 * k / 2 ≡ k
  request_half k = omega arith

  answer_half : (k : ℕ) → (2 * k + 1) / 2 ≡ k
  answer_half k = omega arith

  -- the stages of the two rings of a link are those of the link
  from_request : (k : ℕ) → stages.from (request_ring k) ≡ stage_before network k
  from_request k = ap (λ (b : Bool). cond b (stage_back_before network (2 * k / 2)) (stage_before network (2 * k / 2))) (not_up network ways k) ∙ ap (stage_before network) (request_half k)

  to_request : (k : ℕ) → stages.to (request_ring k) ≡ stage_after network k
  to_request k = ap (λ (b : Bool). cond b (stage_back_after network (2 * k / 2)) (stage_after network (2 * k / 2))) (not_up network ways k) ∙ ap (stage_after network) (request_half k)

  from_answer : (k : ℕ) → stages.from (answer_ring k) ≡ stage_back_before network k
  from_answer k = ap (λ (b : Bool). cond b (stage_back_before network ((2 * k + 1) / 2)) (stage_before network ((2 * k + 1) / 2))) (up network ways k) ∙ ap (stage_back_before network) (answer_half k)

  to_answer : (k : ℕ) → stages.to (answer_ring k) ≡ stage_back_after network k
  to_answer k = ap (λ (b : Bool). cond b (stage_back_after network ((2 * k + 1) / 2)) (stage_after network ((2 * k + 1) / 2))) (up network ways k) ∙ ap (stage_back_after network) (answer_half k)

  -- a host sends over the ring of requests of a link that leaves no router, and over no other
  leaves_as : (k : ℕ) (o : Option ℕ) → router_before network k ≡ o → stages.leaves_host (request_ring k) ≡ option_map_or (λ r. false) o true
  leaves_as k o e = ap (λ (b : Bool). not b && option_map_or (λ r. false) (router_before network (2 * k / 2)) true) (not_up network ways k)
      ∙ ap (λ (n : ℕ). option_map_or (λ r. false) (router_before network n) true) (request_half k) ∙ ap (λ (o : Option ℕ). option_map_or (λ r. false) o true) e

  pub leaves_request : (k : ℕ) → router_before network k ≡ None → stages.leaves_host (request_ring k) ≡ true
  leaves_request k e = leaves_as k None e

  pub answers_leave_no_host : (k : ℕ) → stages.leaves_host (answer_ring k) ≡ false
  answers_leave_no_host k = ap (λ (b : Bool). not b && option_map_or (λ r. false) (router_before network ((2 * k + 1) / 2)) true) (up network ways k)

  -- the rings of the link to a device meet at one stage
  pub device_stage : (d k : ℕ) → is_link_to network d k ≡ true → stages.from (answer_ring k) ≡ stages.to (request_ring k)
  device_stage d k leads = from_answer k ∙ by_router (router_after network k) refl ∙ sym (to_request k)
    where
      by_router : (o : Option ℕ) → router_after network k ≡ o → option_map_or (answer_stage network) o (1 + length network.routers) ≡ option_map_or (λ r. 1 + r) o (1 + length network.routers)
      by_router None e = refl
      by_router (Some r) e = absurd (device_or_router network d k r leads e)

  module _ (r : ℕ) where
    -- what holds of the rings of each link that leads to a router, or leaves it, holds of them all
    over_in : (P : ℕ → Type 0) (ring : ℕ → ℕ) → ((k : ℕ) → k < length network.links → router_after network k ≡ Some r → P (ring k)) → All P (map ring (links_into network (Some r)))
    over_in P ring each = All-map P ring (links_into network (Some r)) (λ i d below.
        let test : ℕ → Bool = λ k. is_some_number r (router_after network k) in
        let all = range_with_len 0 (length network.links) in
        let k = get_or (filter test all) i d in
        each k (All-filter test (λ k. k < length network.links) all (counted network) i d below) (some_number-is r (router_after network k) (filter_passes test all i d below)))

    over_out : (P : ℕ → Type 0) (ring : ℕ → ℕ) → ((k : ℕ) → k < length network.links → router_before network k ≡ Some r → P (ring k)) → All P (map ring (links_out_of network (Some r)))
    over_out P ring each = All-map P ring (links_out_of network (Some r)) (λ i d below.
        let test : ℕ → Bool = λ k. is_some_number r (router_before network k) in
        let all = range_with_len 0 (length network.links) in
        let k = get_or (filter test all) i d in
        each k (All-filter test (λ k. k < length network.links) all (counted network) i d below) (some_number-is r (router_before network k) (filter_passes test all i d below)))

    -- a direction's rings are at its stage where those of its links are
    at_stage : (stage : ℕ) (ins outs : List ℕ) (d : DirectionSide) → IsBuiltFor network ins outs d → All (ComesInto stages stage) ins → All (Leaves stages stage) outs → IsAtStage stages stage d.lane
    at_stage stage ins outs d built come leave = record {
      ins = All-unmap (ComesInto stages stage) (λ (x : InletState). x.ring.plan.ring) d.lane.inlets (subst (All (ComesInto stages stage)) (sym built.comes_by) come);
      outs = All-unmap (Leaves stages stage) (λ (y : PortSide). y.plan.ring) d.lane.outlets (subst (All (Leaves stages stage)) (sym built.sends_by) leave);
    }

    pub requests_at_stage : (d : DirectionSide) → IsBuiltFor network (request_ins network r) (request_outs network r) d → IsAtStage stages (1 + r) d.lane
    requests_at_stage d built = at_stage (1 + r) (request_ins network r) (request_outs network r) d built
        (over_in (ComesInto stages (1 + r)) request_ring (λ k there leads. record {
          is_ring = request_there network k there;
          to = to_request k ∙ ap (λ (o : Option ℕ). option_map_or (λ q. 1 + q) o (1 + length network.routers)) leads;
          ends_here = refl;
        }))
        (over_out (Leaves stages (1 + r)) request_ring (λ k there leaves. record {
          is_ring = request_there network k there;
          from = from_request k ∙ ap (λ (o : Option ℕ). option_map_or (λ q. 1 + q) o 0) leaves;
          no_host = leaves_as k (Some r) leaves;
        }))

    pub answers_at_stage : (d : DirectionSide) → IsBuiltFor network (answer_ins network r) (answer_outs network r) d → IsAtStage stages (answer_stage network r) d.lane
    answers_at_stage d built = at_stage (answer_stage network r) (answer_ins network r) (answer_outs network r) d built
        (over_out (ComesInto stages (answer_stage network r)) answer_ring (λ k there leaves. record {
          is_ring = answer_there network k there;
          to = to_answer k ∙ ap (λ (o : Option ℕ). option_map_or (answer_stage network) o (last_stage network)) leaves;
          ends_here = refl;
        }))
        (over_in (Leaves stages (answer_stage network r)) answer_ring (λ k there leads. record {
          is_ring = answer_there network k there;
          from = from_answer k ∙ ap (λ (o : Option ℕ). option_map_or (answer_stage network) o (1 + length network.routers)) leads;
          no_host = answers_leave_no_host k;
        }))
