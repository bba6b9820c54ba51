-- What comes to a router for a ring is within the ring's budget, where no flow brings more than it may.
use Rattle.std.proofs.Common.{◌≡◌, ◌≤◌, ℕ, true, false, [], length, ap, arith}
use Rattle.std.specs.Prelude.{filter, sum_by, All, AllPairs, get_or}
use Rattle.std.proofs.lemmas.List.Elements.{All-filter, All-weaker}
use Rattle.sb_packet.specs.Networks.{Network}
use Rattle.sb_link.specs.RingPlans.{NetFlow}
use Rattle.sb_packet.proofs.Lists.{filter_none}
use Rattle.sb_laws.specs.Flows.{CarriesItsFlows, Course, IsOneWay, budget_over, came_for_ring, flows_over, goes_over, is_among_flows, is_of, is_of_ring, words_of_flow}
use Rattle.sb_laws.specs.Moments.{Moment, arrived}
use Rattle.sb_laws.proofs.Sums.{sum_by_le, sum_by_swap, sum_of_one}
use Rattle.sb_laws.proofs.FlowMembers.{not_true, among_from, among_passing}
use Rattle.sb_laws.proofs.Counts.{flows_cover}

module _ (network : Network) (c : Course) (m : Moment) where
  -- a ring has no words of a flow that is not one of its flows
  pub none_of_others : (r : ℕ) (f : NetFlow) → CarriesItsFlows network c m r → is_among_flows f (flows_over c r) ≡ false → words_of_flow network f (arrived m r) ≡ []
  none_of_others r f carried other = filter_none (is_of network f) (arrived m r)
      (All-weaker (λ a. is_of_ring network c r a ≡ true) (λ a. is_of network f a ≡ false)
      (λ a e. not_true (is_of network f a) (λ t. let yes = among_from network f a (flows_over c r) t e in cc)) (arrived m r) carried)

  -- nor of one that does not go over it
  pub none_besides : (r : ℕ) (f : NetFlow) → CarriesItsFlows network c m r → goes_over c r f ≡ false → words_of_flow network f (arrived m r) ≡ []
  none_besides r f carried besides = none_of_others r f carried (not_true (is_among_flows f (flows_over c r)) (λ t. let over = among_passing (goes_over c r) f c.flows t in cc))

  -- a fact of a flow and a number of words of it by each ring that it goes over
  abbrev pub IsModest : NetFlow → Type 0
  IsModest f = (k : ℕ) → goes_over c k f ≡ true → length (words_of_flow network f (arrived m k)) ≤ c.allowance f

  pub came_within : (r : ℕ) → IsOneWay c r → ((k : ℕ) → c.has k ≡ true → CarriesItsFlows network c m k) → All IsModest c.flows → came_for_ring network c m r ≤ budget_over c r
  came_within r one_way carried modest =
      let fs = flows_over c r in
      let count : ℕ → NetFlow → ℕ = λ k f. length (words_of_flow network f (arrived m k)) in
      let covered = sum_by_le (λ k. length (filter (is_of_ring network c r) (arrived m k))) (λ k. sum_by (count k) fs) (c.ins r) (λ i d below. flows_cover network fs (arrived m (get_or (c.ins r) i d))) in
      let turned = sum_by_swap count (c.ins r) fs in
      let each = sum_by_le (λ f. sum_by (λ k. count k f) (c.ins r)) c.allowance fs (All-filter (goes_over c r) (λ f. sum_by (λ k. count k f) (c.ins r) ≤ c.allowance f) c.flows
      (λ i d below. of_flow (get_or c.flows i d) (modest i d below) (one_way.once i d below))) in
      omega arith
    where
      -- of one flow no more comes than it may bring, since it comes by one ring
      of_flow : (f : NetFlow) → IsModest f → AllPairs (λ j k. goes_over c j f ≡ true → goes_over c k f ≡ false) (c.ins r) →
          sum_by (λ k. length (words_of_flow network f (arrived m k))) (c.ins r) ≤ c.allowance f
      of_flow f few once = sum_of_one (λ k. goes_over c k f) (λ k. length (words_of_flow network f (arrived m k))) (c.allowance f) (c.ins r)
          (λ j e inside over. few (get_or (c.ins r) j e) over)
          (λ j e inside besides. ap length (none_besides (get_or (c.ins r) j e) f (carried (get_or (c.ins r) j e) (one_way.here j e inside)) besides))
          once
