-- The laws of routers at the example's: it keeps its promises fresh, halfway and at the end, where it is idle.
use Rattle.std.proofs.Common.{◌≤◌, ◌<◌, ◌+◌, lit≤, lit<, ℕ, zero, suc, length, refl, arith, Some, None}
use Rattle.std.specs.Prelude.{All, Option, sum_by}
use Rattle.sb_packet.specs.declared.packet.Packet.{Packet}
use Rattle.sb_node.proofs.Answering.{one_of}
use Rattle.sb_packet.proofs.NetworkExample.{wired}
use Rattle.sb_flow.proofs.AcceptedExample.{wired_is_accepted}
use Rattle.sb_router.specs.Forwarding.{IsLaid, Passes, Words, held_for, popped_for}
use Rattle.sb_router.specs.Lanes.{offered_at}
use Rattle.sb_router.specs.Ways.{route_of}
use Rattle.sb_router.specs.Routers.{DirectionSide}
use Rattle.sb_router.proofs.Forwards.{has_forwarded}
use Rattle.sb_laws.specs.Moments.{Moment}
use Rattle.sb_laws.specs.NetworkLayouts.{network_answers, network_requests}
use Rattle.sb_laws.specs.Runs.{ForwardsFlow}
use Rattle.sb_laws.specs.RouterSides.{IsRouterAt, IsRouterOf, KeepsAlongWays, answer_ins, answer_outs, course_words, request_ins, request_outs}
use Rattle.sb_laws.proofs.AcceptedNetworks.{low_ids}
use Rattle.sb_laws.proofs.NetworkRouters.{answers_laid, answers_router, requests_laid, requests_router}
use Rattle.sb_laws.proofs.RouterSides.{router_promise}
use Rattle.sb_laws.proofs.RoutersAlongWays.{answers_along, requests_along}
use Rattle.sb_laws.proofs.ExampleNetwork.{small, cpu, posted}
use Rattle.sb_laws.proofs.ExampleLayout.{the_flow}
use Rattle.sb_laws.proofs.ExampleRouted.{small_is_routed}
use Rattle.sb_laws.proofs.ExampleRun.{the_end}
use Rattle.sb_laws.proofs.ExampleHalfway.{halfway}
use Rattle.sb_laws.proofs.ExampleNodes.{fresh}
use Rattle.sb_laws.proofs.ExamplePorts.{IsSettled, end_is_settled, fresh_is_settled, halfway_is_settled}
use Rattle.sb_laws.proofs.ExampleRouter.{HasPassed, answers_are_built, direction_forwards, direction_in, direction_is_whole, end_answers, end_requests, fresh_answers, fresh_requests, halfway_answers, halfway_requests, has_lane, requests_are_built, small_rows}

-- which words go on by the router's two rings
abbrev pub request_words : Words
request_words = course_words small (network_requests small) (request_outs small 0)

abbrev answer_words : Words
answer_words = course_words small (network_answers small) (answer_outs small 0)

-- at least as many words were popped for a port as were offered or are held
abbrev HasFew : Words → DirectionSide → Type 0
HasFew words d = (o : ℕ) → length (offered_at d.lane o) + sum_by (held_for words o) d.lane.inlets ≤ popped_for words d.lane o

fresh_few : HasFew request_words (direction_in fresh 0 2 None)
fresh_few zero = lit≤ tt
fresh_few (suc o) = lit≤ tt

halfway_few : HasFew request_words (direction_in halfway 0 2 (Some posted))
halfway_few zero = lit≤ tt
halfway_few (suc o) = lit≤ tt

end_few : HasFew request_words (direction_in the_end 0 2 None)
end_few zero = lit≤ tt
end_few (suc o) = lit≤ tt

fresh_few_back : HasFew answer_words (direction_in fresh 3 1 None)
fresh_few_back zero = lit≤ tt
fresh_few_back (suc o) = lit≤ tt

halfway_few_back : HasFew answer_words (direction_in halfway 3 1 None)
halfway_few_back zero = lit≤ tt
halfway_few_back (suc o) = lit≤ tt

end_few_back : HasFew answer_words (direction_in the_end 3 1 None)
end_few_back zero = lit≤ tt
end_few_back (suc o) = lit≤ tt

ids_are_low : All (λ host. host.id < 32) small.hosts
ids_are_low = one_of (λ host. host.id < 32) cpu (lit< tt)

-- each direction at a moment, with a packet that is held or none
module _ (m : Moment) (settled : IsSettled m) (held : Option Packet) where
  module _ (passed : HasPassed m 0 2 held) (few : HasFew request_words (direction_in m 0 2 held)) where
    requests_stand : IsRouterAt small (network_requests small) m (request_ins small 0) (request_outs small 0) (direction_in m 0 2 held)
    requests_stand = record {
      built = requests_are_built m held;
      has = has_lane m settled 0 2 held passed;
      whole = direction_is_whole m settled 0 2 held passed;
      forwards = record {
        laid = requests_laid small small_is_routed 0 (direction_in m 0 2 held) (requests_are_built m held);
        forwards = direction_forwards m settled 0 2 held passed request_words few;
      };
    }

    passes : Passes (route_of small_rows) (direction_in m 0 2 held).lane the_flow 0 0
    passes = record { inlet = lit< tt; outlet = lit< tt; through = refl; route_to = refl }

    request_promise : ForwardsFlow small (network_requests small) m the_flow 0 2
    request_promise = router_promise small (network_requests small) m (request_outs small 0) (route_of small_rows) (direction_in m 0 2 held).lane requests_stand.has
        (requests_router small small_is_routed 0 (direction_in m 0 2 held) (requests_are_built m held)) requests_stand.whole the_flow 0 0 passes (has_forwarded requests_stand.forwards.forwards the_flow 0 0 passes)

    requests_kept : KeepsAlongWays small (network_requests small) m
    requests_kept = requests_along small m (λ r. direction_in m 0 2 held) small_is_routed ids_are_low (λ words d f i o h p. has_forwarded h.forwards f i o p) all_stand
      where
        all_stand : (r : ℕ) → r < 1 → IsRouterAt small (network_requests small) m (request_ins small r) (request_outs small r) (direction_in m 0 2 held)
        all_stand zero inside = requests_stand
        all_stand (suc r) inside = absurd (omega arith)

  module _ (passed : HasPassed m 3 1 held) (few : HasFew answer_words (direction_in m 3 1 held)) where
    answers_stand : IsRouterAt small (network_answers small) m (answer_ins small 0) (answer_outs small 0) (direction_in m 3 1 held)
    answers_stand = record {
      built = answers_are_built m held;
      has = has_lane m settled 3 1 held passed;
      whole = direction_is_whole m settled 3 1 held passed;
      forwards = record {
        laid = answers_laid small small_is_routed 0 (direction_in m 3 1 held) (answers_are_built m held);
        forwards = direction_forwards m settled 3 1 held passed answer_words few;
      };
    }

    passes_back : Passes (route_of small_rows) (direction_in m 3 1 held).lane the_flow 0 0
    passes_back = record { inlet = lit< tt; outlet = lit< tt; through = refl; route_to = refl }

    answer_promise : ForwardsFlow small (network_answers small) m the_flow 3 1
    answer_promise = router_promise small (network_answers small) m (answer_outs small 0) (route_of small_rows) (direction_in m 3 1 held).lane answers_stand.has
        (answers_router small small_is_routed 0 (direction_in m 3 1 held) (answers_are_built m held)) answers_stand.whole the_flow 0 0 passes_back (has_forwarded answers_stand.forwards.forwards the_flow 0 0 passes_back)

    answers_kept : KeepsAlongWays small (network_answers small) m
    answers_kept = answers_along small m (λ r. direction_in m 3 1 held) small_is_routed ids_are_low (λ words d f i o h p. has_forwarded h.forwards f i o p) all_stand
      where
        all_stand : (r : ℕ) → r < 1 → IsRouterAt small (network_answers small) m (answer_ins small r) (answer_outs small r) (direction_in m 3 1 held)
        all_stand zero inside = answers_stand
        all_stand (suc r) inside = absurd (omega arith)

pub routers_keep_their_promise : ForwardsFlow small (network_requests small) fresh the_flow 0 2 × ForwardsFlow small (network_requests small) halfway the_flow 0 2 × ForwardsFlow small (network_requests small) the_end the_flow 0 2
routers_keep_their_promise = (
  request_promise fresh fresh_is_settled None fresh_requests fresh_few,
  request_promise halfway halfway_is_settled (Some posted) halfway_requests halfway_few,
  request_promise the_end end_is_settled None end_requests end_few,
)

pub routers_keep_their_promise_back : ForwardsFlow small (network_answers small) fresh the_flow 3 1 × ForwardsFlow small (network_answers small) halfway the_flow 3 1 × ForwardsFlow small (network_answers small) the_end the_flow 3 1
routers_keep_their_promise_back = (
  answer_promise fresh fresh_is_settled None fresh_answers fresh_few_back,
  answer_promise halfway halfway_is_settled None halfway_answers halfway_few_back,
  answer_promise the_end end_is_settled None end_answers end_few_back,
)

pub routers_keep_promises_along_ways : KeepsAlongWays small (network_requests small) fresh × KeepsAlongWays small (network_requests small) halfway × KeepsAlongWays small (network_requests small) the_end
routers_keep_promises_along_ways = (
  requests_kept fresh fresh_is_settled None fresh_requests fresh_few,
  requests_kept halfway halfway_is_settled (Some posted) halfway_requests halfway_few,
  requests_kept the_end end_is_settled None end_requests end_few,
)

pub routers_keep_promises_along_ways_back : KeepsAlongWays small (network_answers small) fresh × KeepsAlongWays small (network_answers small) halfway × KeepsAlongWays small (network_answers small) the_end
routers_keep_promises_along_ways_back = (
  answers_kept fresh fresh_is_settled None fresh_answers fresh_few_back,
  answers_kept halfway halfway_is_settled None halfway_answers halfway_few_back,
  answers_kept the_end end_is_settled None end_answers end_few_back,
)

pub built_routers_belong_together : IsLaid request_words (route_of small_rows) (direction_in fresh 0 2 None).lane × IsLaid answer_words (route_of small_rows) (direction_in fresh 3 1 None).lane
    × IsRouterOf (network_requests small) (request_outs small 0) (direction_in fresh 0 2 None).lane × IsRouterOf (network_answers small) (answer_outs small 0) (direction_in fresh 3 1 None).lane
built_routers_belong_together = (
  requests_laid small small_is_routed 0 (direction_in fresh 0 2 None) (requests_are_built fresh None),
  answers_laid small small_is_routed 0 (direction_in fresh 3 1 None) (answers_are_built fresh None),
  requests_router small small_is_routed 0 (direction_in fresh 0 2 None) (requests_are_built fresh None),
  answers_router small small_is_routed 0 (direction_in fresh 3 1 None) (answers_are_built fresh None),
)

pub accepted_ids_are_low : All (λ host. host.id < 32) wired.hosts
accepted_ids_are_low = low_ids wired wired_is_accepted
