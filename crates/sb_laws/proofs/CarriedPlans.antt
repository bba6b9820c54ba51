-- What may go over a ring by its plan is what the ring carries.
use Rattle.std.proofs.Common.{◌≡◌, ◌<◌, ℕ, true, List, [], sym, ap, ◌∙◌, arith}
use Rattle.std.specs.Prelude.{map, All}
use Rattle.std.specs.List.{list_any}
use Rattle.std.proofs.lemmas.List.Elements.{All-weaker}
use Rattle.sb_packet.specs.Accesses.{Access}
use Rattle.sb_packet.specs.Networks.{Network}
use Rattle.sb_link.specs.RingPlans.{NetFlow}
use Rattle.sb_link.specs.Traffic.{item_accesses, AreInTurn}
use Rattle.sb_flow.specs.Ways.{NetWay}
use Rattle.sb_flow.specs.Rings.{ring_plan, ring_ways, link_ways}
use Rattle.sb_packet.specs.declared.item.Item.{Item}
use Rattle.sb_flow.proofs.LinkMarks.{list_any-map}
use Rattle.sb_laws.specs.Flows.{flows_over, is_of, is_of_ring}
use Rattle.sb_laws.specs.NetworkLayouts.{IsRouted, answer_ring, network_answers, network_requests, request_ring, ring_count, way_flow}
use Rattle.sb_laws.proofs.CarriedRings.{request_ways, answer_ways, flows_there, flows_back}
use Rattle.sb_laws.proofs.PlannedWords.{words_in_turn}
use Rattle.sb_laws.proofs.WaysOfRouted.{ways_of_routed}

module _ (network : Network) (routed : IsRouted network) where
  -- a word of one of some ways is of one of their flows
  of_flows : (ws vs : List NetWay) (fs : List NetFlow) (list : List Access) → ws ≡ vs → fs ≡ map way_flow vs →
      All (λ a. list_any (λ way. is_of network (way_flow way) a) ws ≡ true) list → All (λ a. list_any (λ f. is_of network f a) fs ≡ true) list
  of_flows ws vs fs list same flows all = All-weaker (λ a. list_any (λ way. is_of network (way_flow way) a) ws ≡ true) (λ a. list_any (λ f. is_of network f a) fs ≡ true)
      (λ a e. ap (list_any (λ f. is_of network f a)) flows ∙ list_any-map (λ f. is_of network f a) way_flow vs ∙ ap (list_any (λ way. is_of network (way_flow way) a)) (sym same) ∙ e) list all

  pub planned_requests : (k : ℕ) (list : List Item) → request_ring k < ring_count network → AreInTurn (ring_plan network (request_ring k)) list →
      All (λ a. is_of_ring network (network_requests network) (request_ring k) a ≡ true) (item_accesses list)
  planned_requests k list here turn = of_flows (ring_ways network (request_ring k)) (link_ways network k) (flows_over (network_requests network) (request_ring k)) (item_accesses list)
      (request_ways network (ways_of_routed network routed) k (omega arith)) (flows_there network (ways_of_routed network routed) k) (words_in_turn network routed (request_ring k) [] list turn)

  pub planned_answers : (k : ℕ) (list : List Item) → answer_ring k < ring_count network → AreInTurn (ring_plan network (answer_ring k)) list →
      All (λ a. is_of_ring network (network_answers network) (answer_ring k) a ≡ true) (item_accesses list)
  planned_answers k list here turn = of_flows (ring_ways network (answer_ring k)) (link_ways network k) (flows_over (network_answers network) (answer_ring k)) (item_accesses list)
      (answer_ways network (ways_of_routed network routed) k (omega arith)) (flows_back network (ways_of_routed network routed) k) (words_in_turn network routed (answer_ring k) [] list turn)
