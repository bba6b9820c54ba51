-- The ways and the plans of rings of the example network, computed.
use Rattle.std.proofs.Common.{◌≡◌, refl, [], ◌∷◌, ◌++◌, List, Bool, true, false, Some, None, replicate, length}
use Rattle.std.specs.Prelude.{IsTrue, map}
use Rattle.std.specs.List.{list_any, range_with_len}
use Rattle.std.proofs.lemmas.List.Elements.{All-from_recursion}
use Rattle.sb_packet.specs.Accesses.{Access}
use Rattle.sb_packet.specs.Journals.{flow_part, journal_accesses}
use Rattle.sb_flow.specs.Ways.{aims_at, flow_links, link_down, link_up, network_ways, way_links}
use Rattle.sb_flow.specs.Rings.{IsCarried, carried_accesses, counted_accesses, is_on_way, ring_budget, ring_link, ring_plan, ring_ways}
use Rattle.sb_packet.proofs.NetworkExample.{cpu0, cpu1, wired, wired_run}

-- The first host aims at `m0`, `m1` and `m2`, the second at `m2` and `rom`.
pub aims_of_cpu0 : map (aims_at wired cpu0) (range_with_len 0 5) ≡ true ∷ true ∷ true ∷ false ∷ false ∷ []
aims_of_cpu0 = refl

pub aims_of_cpu1 : map (aims_at wired cpu1) (range_with_len 0 5) ≡ false ∷ false ∷ true ∷ true ∷ false ∷ []
aims_of_cpu1 = refl

-- From the first host to `m0`: its own link, then `r0`'s route, then `r1`'s.
pub way_to_m0 : way_links wired 0 0 ≡ 0 ∷ 2 ∷ 4 ∷ []
way_to_m0 = refl

-- The ways of the flows, in their order.
pub ways_of_wired : map (λ way. way.links) (network_ways wired) ≡ (0 ∷ 2 ∷ 4 ∷ []) ∷ (0 ∷ 2 ∷ 5 ∷ []) ∷ (0 ∷ 3 ∷ 6 ∷ []) ∷ (1 ∷ 3 ∷ 6 ∷ []) ∷ (1 ∷ 3 ∷ 7 ∷ []) ∷ []
ways_of_wired = refl

-- What the second host asks of `m2` leaves `r2` by `l6`, and its answers leave `r2` by `l3`; what it doesn't ask of `m0` has no way.
pub down_at_r2 : link_down wired 2 (record { host = 1; device = 2 }) ≡ Some 6
down_at_r2 = refl

pub up_at_r2 : link_up wired 2 (record { host = 1; device = 2 }) ≡ Some 3
up_at_r2 = refl

pub not_at_r1 : link_down wired 1 (record { host = 1; device = 2 }) ≡ None
not_at_r1 = refl

pub no_way_to_m0 : flow_links wired (record { host = 1; device = 0 }) ≡ []
no_way_to_m0 = refl

-- The far ends of the wire have rings 16 and 17.
pub far_ends : map (ring_link wired) (14 ∷ 15 ∷ 16 ∷ 17 ∷ 18 ∷ []) ≡ Some 7 ∷ Some 7 ∷ Some 3 ∷ Some 3 ∷ None ∷ []
far_ends = refl

-- The budgets of all rings: posted words don't count where answers go.
pub budgets_of_wired : map (ring_budget wired) (range_with_len 0 19) ≡ 11 ∷ 10 ∷ 7 ∷ 7 ∷ 10 ∷ 9 ∷ 8 ∷ 8 ∷ 8 ∷ 8 ∷ 2 ∷ 1 ∷ 3 ∷ 3 ∷ 5 ∷ 5 ∷ 8 ∷ 8 ∷ 0 ∷ []
budgets_of_wired = refl

-- Three flows go over the wire, and the two of the first host's other devices don't.
pub flows_over_the_wire : map (λ way. way.device) (ring_ways wired 6) ≡ 2 ∷ 2 ∷ 3 ∷ []
flows_over_the_wire = refl

-- Of what the first host asks of `m1`, the read counts where answers go, and the posted write doesn't.
pub counted_down_and_up : map (λ ring. map (λ way. length (counted_accesses wired ring way)) (ring_ways wired ring)) (10 ∷ 11 ∷ []) ≡ (2 ∷ []) ∷ (1 ∷ []) ∷ []
counted_down_and_up = refl

-- a host that may ask `m2` alone
abbrev third_alone : List Bool
third_alone = false ∷ false ∷ true ∷ replicate 29 false

-- The plan of the link to `m2`, where answers go: both hosts' flows to it, and the ranges of the four devices.
pub plan_from_m2 : ring_plan wired 13 ≡ record {
  ring = 13;
  up = true;
  width = 16;
  capacity = 1;
  budget = 3;
  flows = record {
    devices = 4;
    ranges = record { base = 65536; bytes = 4096 } ∷ record { base = 131072; bytes = 4096 } ∷ record { base = 196608; bytes = 4096 } ∷ record { base = 262144; bytes = 4096 } ∷ replicate 28 (record { base = 0; bytes = 0 });
    through = third_alone ∷ third_alone ∷ replicate 30 (replicate 32 false);
  };
}
plan_from_m2 = refl

-- What the link to `m2` carried in the example run: the words that `m2` stepped.
pub carried_to_m2 : IsCarried wired wired_run 12 (journal_accesses wired_run 2)
carried_to_m2 = record {
  parts = All-from_recursion (λ way. flow_part wired way.host way.device (journal_accesses wired_run 2) ≡ carried_accesses wired wired_run 12 way) (ring_ways wired 12) (refl, (refl, tt));
  no_others = All-from_recursion (λ a. IsTrue (list_any (is_on_way wired a) (ring_ways wired 12))) (journal_accesses wired_run 2) (refl, (refl, (refl, tt)));
}

-- And where the answers go: the answers to them, here the second host's first.
abbrev answers_from_m2 : List Access
answers_from_m2 = carried_accesses wired wired_run 13 (record { host = cpu1; device = 2; links = [] }) ++ carried_accesses wired wired_run 13 (record { host = cpu0; device = 2; links = [] })

pub carried_from_m2 : IsCarried wired wired_run 13 answers_from_m2
carried_from_m2 = record {
  parts = All-from_recursion (λ way. flow_part wired way.host way.device answers_from_m2 ≡ carried_accesses wired wired_run 13 way) (ring_ways wired 13) (refl, (refl, tt));
  no_others = All-from_recursion (λ a. IsTrue (list_any (is_on_way wired a) (ring_ways wired 13))) answers_from_m2 (refl, (refl, (refl, tt)));
}
