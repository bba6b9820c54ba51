-- The layout of the example's network: its one flow goes over rings 0 and 2 to the device, and over rings 3 and 1 back.
use Rattle.std.proofs.Common.{◌≡◌, ◌≢◌, ◌≤◌, ◌<◌, lit≤, lit<, ℕ, zero, suc, Bool, true, false, refl, arith, List, [], ◌∷◌, length}
use Rattle.std.specs.Prelude.{All, AllPairs, Contains}
use Rattle.std.proofs.lemmas.List.Elements.{All-nil, All-from_recursion}
use Rattle.sb_packet.specs.Scripts.{IsTransaction}
use Rattle.sb_link.specs.RingPlans.{NetFlow}
use Rattle.sb_packet.proofs.FoundAnswers.{eq_below}
use Rattle.sb_node.proofs.Answering.{one_of}
use Rattle.sb_laws.specs.Flows.{Course, IsOneWay, answered_of, asked_words, flows_over, goes_over, is_among_flows}
use Rattle.sb_laws.specs.Layouts.{Layout, HasScripts, IsLayout, ring_home}
use Rattle.sb_laws.proofs.ExampleNetwork.{cpu, small}

abbrev pub the_flow : NetFlow
the_flow = record { host = 0; device = 0 }

abbrev pub is_request_ring : ℕ → Bool
is_request_ring zero = true
is_request_ring (suc zero) = false
is_request_ring (suc (suc zero)) = true
is_request_ring (suc (suc (suc n))) = false

abbrev pub is_answer_ring : ℕ → Bool
is_answer_ring zero = false
is_answer_ring (suc zero) = true
is_answer_ring (suc (suc zero)) = false
is_answer_ring (suc (suc (suc zero))) = true
is_answer_ring (suc (suc (suc (suc n)))) = false

-- ring 2 leaves the router, which ring 0 leads into; back, ring 1 leaves it and ring 3 leads into it
abbrev pub request_ins : ℕ → List ℕ
request_ins zero = []
request_ins (suc zero) = []
request_ins (suc (suc zero)) = 0 ∷ []
request_ins (suc (suc (suc n))) = []

abbrev pub answer_ins : ℕ → List ℕ
answer_ins zero = []
answer_ins (suc zero) = 3 ∷ []
answer_ins (suc (suc n)) = []

-- three words there, and two back
abbrev pub small_layout : Layout
small_layout = record {
  requests = record { flows = the_flow ∷ []; first = λ f. 0; rest = λ f. 2 ∷ []; allowance = λ f. 3; has = is_request_ring; ins = request_ins };
  answers = record { flows = the_flow ∷ []; first = λ f. 3; rest = λ f. 1 ∷ []; allowance = λ f. 2; has = is_answer_ring; ins = answer_ins };
  into = λ d. 2;
}

-- no two elements of one are to be compared
no_pairs : {A : Type 0} (R : A → A → Type 0) (xs : List A) → length xs ≤ 1 → AllPairs R xs
no_pairs R xs few i j d below inside = absurd (omega arith)

pub scripts_of_small : HasScripts small
scripts_of_small = record {
  transactions = one_of (λ host. All IsTransaction host.script) cpu (All-from_recursion IsTransaction cpu.script (
    record { size = lit≤ tt; some = lit< tt; most = lit≤ tt; atomic = tt; body = refl; aligned = refl; page = lit≤ tt; range = lit< tt },
    (
      record { size = lit≤ tt; some = lit< tt; most = lit≤ tt; atomic = tt; body = refl; aligned = refl; page = lit≤ tt; range = lit< tt },
      (record { size = lit≤ tt; some = lit< tt; most = lit≤ tt; atomic = tt; body = refl; aligned = refl; page = lit≤ tt; range = lit< tt }, tt),
    ),
  ));
  few = one_of (λ host. length host.script ≤ 65536) cpu (lit≤ tt);
  ids = no_pairs (λ a b. a.id ≢ b.id) (cpu ∷ []) (lit≤ tt);
}

-- a host or a device that there isn't asks for nothing, or is asked for nothing
nothing_else : (h d : ℕ) → (let f : NetFlow = record { host = h; device = d } in is_among_flows f (the_flow ∷ []) ≡ false → asked_words small f ≡ [])
nothing_else zero zero e = absurd (cc)
nothing_else zero (suc d) e = rw (eq_below 0 (suc d) (omega arith)) refl
nothing_else (suc h) d e = rw (eq_below 0 (suc h) (omega arith)) refl

abbrev IsOnce : Course → ℕ → NetFlow → Type 0
IsOnce c r f = AllPairs (λ j k. goes_over c j f ≡ true → goes_over c k f ≡ false) (c.ins r)

one_way : (r : ℕ) → IsOneWay small_layout.requests r
one_way r = record { here = here r; once = one_of (IsOnce small_layout.requests r) the_flow (no_pairs (λ j k. goes_over small_layout.requests j the_flow ≡ true → goes_over small_layout.requests k the_flow ≡ false) (request_ins r) (few r)) }
  where
    here : (q : ℕ) → All (λ k. is_request_ring k ≡ true) (request_ins q)
    here zero = All-nil (λ k. is_request_ring k ≡ true)
    here (suc zero) = All-nil (λ k. is_request_ring k ≡ true)
    here (suc (suc zero)) = one_of (λ k. is_request_ring k ≡ true) 0 refl
    here (suc (suc (suc n))) = All-nil (λ k. is_request_ring k ≡ true)

    few : (q : ℕ) → length (request_ins q) ≤ 1
    few zero = lit≤ tt
    few (suc zero) = lit≤ tt
    few (suc (suc zero)) = lit≤ tt
    few (suc (suc (suc n))) = lit≤ tt

one_way_back : (r : ℕ) → IsOneWay small_layout.answers r
one_way_back r = record { here = here r; once = one_of (IsOnce small_layout.answers r) the_flow (no_pairs (λ j k. goes_over small_layout.answers j the_flow ≡ true → goes_over small_layout.answers k the_flow ≡ false) (answer_ins r) (few r)) }
  where
    here : (q : ℕ) → All (λ k. is_answer_ring k ≡ true) (answer_ins q)
    here zero = All-nil (λ k. is_answer_ring k ≡ true)
    here (suc zero) = one_of (λ k. is_answer_ring k ≡ true) 3 refl
    here (suc (suc n)) = All-nil (λ k. is_answer_ring k ≡ true)

    few : (q : ℕ) → length (answer_ins q) ≤ 1
    few zero = lit≤ tt
    few (suc zero) = lit≤ tt
    few (suc (suc n)) = lit≤ tt

-- It is a layout of the network.
pub small_is_laid_out : IsLayout small small_layout
small_is_laid_out = record {
  scripts = scripts_of_small;
  same_flows = refl;
  hosts = one_of (λ f. Contains (0 ∷ []) f.host) the_flow (0, lit< tt, refl);
  devices = one_of (λ f. f.device < 1) the_flow (lit< tt);
  all_flows = λ f e. nothing_else f.host f.device e;
  asked = one_of (λ f. length (asked_words small f) ≤ 3) the_flow (lit≤ tt);
  answered = one_of (λ f. length (answered_of small f) ≤ 2) the_flow (lit≤ tt);
  one_way = one_way;
  one_way_back = one_way_back;
  into_has = λ d there. refl;
  into_flows = λ d there. one_of (λ f. f.device ≡ d) the_flow (omega arith);
  leads = one_of (λ f. goes_over small_layout.requests 2 f ≡ true) the_flow refl;
  back_flows = one_of (λ f. flows_over small_layout.answers 3 ≡ flows_over small_layout.requests 2) the_flow refl;
  back_has = one_of (λ f. is_answer_ring (ring_home small_layout f) ≡ true) the_flow refl;
}
