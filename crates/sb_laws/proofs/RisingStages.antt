-- The stages of a network rise along each ring, and its ways are made of its rings.
use Rattle.std.proofs.Common.{◌≡◌, ◌≤◌, ◌<◌, ℕ, ◌+◌, ◌/◌, true, false, cond, ◌∷◌, length, refl, sym, arith, subst}
use Rattle.std.specs.Prelude.{reverse, All, Option, Some, None}
use Rattle.std.specs.Option.{option_map_or}
use Rattle.std.proofs.lemmas.List.Elements.{All-map, All-weaker}
use Rattle.sb_packet.specs.Networks.{Network}
use Rattle.sb_link.specs.RingPlans.{NetFlow}
use Rattle.sb_flow.specs.Ways.{router_before, router_after}
use Rattle.sb_flow.specs.Rings.{is_upward}
use Rattle.sb_laws.specs.Standstills.{IsWithin, Rises}
use Rattle.sb_laws.specs.NetworkLayouts.{HasWays, IsRouted, answer_ring, answer_stage, last_stage, network_flows, network_layout, network_stages, request_ring, ring_count, stage_after, stage_back_after, stage_back_before, stage_before}
use Rattle.sb_laws.proofs.LinksOfWays.{links_there}
use Rattle.sb_laws.proofs.RingsOfWays.{All-reverse}
use Rattle.sb_laws.proofs.NetworkLaidOut.{FlowWay, flow_ways, requests_way, answers_way}

module _ (network : Network) (routed : IsRouted network) where
  rises : (k : ℕ) → (stage_before network k < stage_after network k) × (stage_after network k ≤ last_stage network)
  rises k = by_ends (router_before network k) refl (router_after network k) refl
    where
      by_ends : (o : Option ℕ) → router_before network k ≡ o → (p : Option ℕ) → router_after network k ≡ p →
          (option_map_or (λ r. 1 + r) o 0 < option_map_or (λ r. 1 + r) p (1 + length network.routers)) × (option_map_or (λ r. 1 + r) p (1 + length network.routers) ≤ last_stage network)
      by_ends None e None f = (omega arith, omega arith)
      by_ends None e (Some q) f = let there = routed.there k q f in (omega arith, omega arith)
      by_ends (Some r) e None f = let there = routed.there_before k r e in (omega arith, omega arith)
      by_ends (Some r) e (Some q) f = let there = routed.there k q f in let up = routed.forward k r q e f in (omega arith, omega arith)

  rises_back : (k : ℕ) → (stage_back_before network k < stage_back_after network k) × (stage_back_after network k ≤ last_stage network)
  rises_back k = by_ends (router_before network k) refl (router_after network k) refl
    where
      by_ends : (o : Option ℕ) → router_before network k ≡ o → (p : Option ℕ) → router_after network k ≡ p →
          (option_map_or (answer_stage network) p (1 + length network.routers) < option_map_or (answer_stage network) o (last_stage network)) × (option_map_or (answer_stage network) o (last_stage network) ≤ last_stage network)
      by_ends None e None f = (omega arith, omega arith)
      by_ends None e (Some q) f = let there = routed.there k q f in (omega arith, omega arith)
      by_ends (Some r) e None f = let there = routed.there_before k r e in (omega arith, omega arith)
      by_ends (Some r) e (Some q) f = let there = routed.there k q f in let up = routed.forward k r q e f in (omega arith, omega arith)

  pub stages_rise : (ring : ℕ) → Rises (network_stages network) ring
  stages_rise ring =
      let there = rises (ring / 2) in
      let back = rises_back (ring / 2) in
      record {
        rises = elim (is_upward ring) as (λ b. cond b (stage_back_before network (ring / 2)) (stage_before network (ring / 2)) < cond b (stage_back_after network (ring / 2)) (stage_after network (ring / 2))) [ true ↦ back.0 | false ↦ there.0 ];
        within = elim (is_upward ring) as (λ b. cond b (stage_back_after network (ring / 2)) (stage_after network (ring / 2)) ≤ last_stage network) [ true ↦ back.1 | false ↦ there.1 ];
      }

pub ways_within : (network : Network) → HasWays network → All (IsWithin (network_stages network) (network_layout network)) (network_flows network)
ways_within network ways = All-weaker (FlowWay network) (IsWithin (network_stages network) (network_layout network)) (λ f w. within f w) (network_flows network) (flow_ways network ways)
  where
    within : (f : NetFlow) → FlowWay network f → IsWithin (network_stages network) (network_layout network) f
    within f w =
        let links = w.head ∷ w.tail in
        let there = links_there network f.device links w.way in
        record {
          there = subst (All (λ r. r < ring_count network)) (sym (requests_way network f w)) (All-map (λ r. r < ring_count network) request_ring links (All-weaker (λ k. k < length network.links) (λ k. request_ring k < ring_count network) (λ k h. omega arith) links there));
          back = subst (All (λ r. r < ring_count network)) (sym (answers_way network f w)) (All-map (λ r. r < ring_count network) answer_ring (reverse links) (All-weaker (λ k. k < length network.links) (λ k. answer_ring k < ring_count network) (λ k h. omega arith) (reverse links)
              (All-reverse (λ k. k < length network.links) links there)));
        }
