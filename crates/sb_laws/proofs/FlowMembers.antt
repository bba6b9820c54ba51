-- Which flows a word is of, and which flows are among others.
use Rattle.std.proofs.Common.{◌≡◌, ℕ, zero, suc, Bool, true, false, List, [], ◌∷◌, refl, sym, ◌∙◌, arith, subst}
use Rattle.std.specs.Prelude.{◌==◌, ◌||◌, filter, All, Option, Some, None}
use Rattle.std.specs.List.{list_any}
use Rattle.std.specs.Option.{option_map_or}
use Rattle.std.proofs.lemmas.Bool.Decides.{nat_tests}
use Rattle.std.proofs.lemmas.List.Elements.{All-head, All-tail, All-filter, filter_passes}
use Rattle.std.proofs.lemmas.Bool.{and_parts}
use Rattle.sb_packet.specs.Accesses.{Access}
use Rattle.sb_packet.specs.Networks.{Network, device_at}
use Rattle.sb_packet.specs.Journals.{device_address}
use Rattle.sb_link.specs.RingPlans.{NetFlow}
use Rattle.sb_laws.specs.Flows.{is_of, is_same_flow, is_among_flows}

pub not_true : (b : Bool) → (b ≡ true → ⊥) → b ≡ false
not_true true never = absurd (never refl)
not_true false never = refl

flow_from : (a b c d : ℕ) → a ≡ c → b ≡ d → (let x : NetFlow = record { host = a; device = b } in let y : NetFlow = record { host = c; device = d } in x ≡ y)
flow_from a b c d e f = rw (e, f) refl

-- flows of one host and one device are one
pub same_flow : (f g : NetFlow) → is_same_flow f g ≡ true → g ≡ f
same_flow f g e =
    let host : g.host ≡ f.host = grind (arith, nat_tests) in
    let device : g.device ≡ f.device = grind (arith, nat_tests) in
    flow_from g.host g.device f.host f.device host device

-- a number that is told as each of two is told as both
one_number : (o : Option ℕ) (d e : ℕ) → option_map_or (λ k. k == d) o false ≡ true → option_map_or (λ k. k == e) o false ≡ true → (d == e) ≡ true
one_number None d e p q = absurd (let never : false ≡ true = p in cc)
one_number (Some k) d e p q = grind (arith, nat_tests)

pub same_flow_from : (f g : NetFlow) → f.host ≡ g.host → (f.device == g.device) ≡ true → is_same_flow f g ≡ true
same_flow_from f g e d = let same : (f.host == g.host) ≡ true = grind (arith, nat_tests) in rw (same, d) refl

module _ (network : Network) where
  -- what it is that a word is of a flow
  pub of_host : (f : NetFlow) (a : Access) → is_of network f a ≡ true → a.host ≡ f.host
  of_host f a e = let same = (and_parts (a.host == f.host) (option_map_or (λ k. k == f.device) (device_at network (device_address a)) false) e).0 in grind (arith, nat_tests)

  pub of_device : (f : NetFlow) (a : Access) → is_of network f a ≡ true → option_map_or (λ k. k == f.device) (device_at network (device_address a)) false ≡ true
  of_device f a e = (and_parts (a.host == f.host) (option_map_or (λ k. k == f.device) (device_at network (device_address a)) false) e).1

  -- a word is of one flow alone
  pub one_flow : (f g : NetFlow) (a : Access) → is_of network f a ≡ true → is_of network g a ≡ true → is_same_flow f g ≡ true
  one_flow f g a p q =
      same_flow_from f g (sym (of_host f a p) ∙ of_host g a q) (one_number (device_at network (device_address a)) f.device g.device (of_device f a p) (of_device g a q))

  -- a word of f that is of one of some flows: f is among them
  pub among_from : (f : NetFlow) (a : Access) (fs : List NetFlow) → is_of network f a ≡ true → list_any (λ g. is_of network g a) fs ≡ true → is_among_flows f fs ≡ true
  among_from f a [] p e = e
  among_from f a (g ∷ fs) p e = by_test (is_of network g a) refl (among_from f a fs p) e
    where
      by_test : (b : Bool) → is_of network g a ≡ b → (list_any (λ h. is_of network h a) fs ≡ true → is_among_flows f fs ≡ true) → (b || list_any (λ h. is_of network h a) fs) ≡ true →
          (is_same_flow f g || is_among_flows f fs) ≡ true
      by_test true t later k = rw (one_flow f g a p t) refl
      by_test false t later k = elim (is_same_flow f g) as (λ b. (b || is_among_flows f fs) ≡ true) [ true ↦ refl | false ↦ later k ]

  -- one of some flows that a word is of
  pub some_flow : (a : Access) (fs : List NetFlow) → list_any (λ g. is_of network g a) fs ≡ true → (f : NetFlow) × (is_among_flows f fs ≡ true) × (is_of network f a ≡ true)
  some_flow a [] e = absurd (let never : false ≡ true = e in cc)
  some_flow a (g ∷ fs) e = by_test (is_of network g a) refl (some_flow a fs) e
    where
      by_test : (b : Bool) → is_of network g a ≡ b → (list_any (λ h. is_of network h a) fs ≡ true → (f : NetFlow) × (is_among_flows f fs ≡ true) × (is_of network f a ≡ true)) →
          (b || list_any (λ h. is_of network h a) fs) ≡ true → (f : NetFlow) × (is_among_flows f (g ∷ fs) ≡ true) × (is_of network f a ≡ true)
      by_test true t later k = (g, rw (same_flow_from g g refl (grind (arith, nat_tests))) refl, t)
      by_test false t later k =
          let rest = later k in
          (rest.0, elim (is_same_flow rest.0 g) as (λ b. (b || is_among_flows rest.0 fs) ≡ true) [ true ↦ refl | false ↦ rest.1 ], rest.2)

-- a fact of each of some flows holds of one that is among them
pub at_flow : (P : NetFlow → Type 0) (f : NetFlow) (fs : List NetFlow) → All P fs → is_among_flows f fs ≡ true → P f
at_flow P f [] h e = absurd (let never : false ≡ true = e in cc)
at_flow P f (g ∷ fs) h e = by_test (is_same_flow f g) refl (at_flow P f fs (All-tail P g fs h)) e
  where
    by_test : (b : Bool) → is_same_flow f g ≡ b → (is_among_flows f fs ≡ true → P f) → (b || is_among_flows f fs) ≡ true → P f
    by_test true t later k = subst P (same_flow f g t) (All-head P g fs h)
    by_test false t later k = later k

-- a flow among those that pass a test passes it, and is among all
pub among_passing : (test : NetFlow → Bool) (f : NetFlow) (fs : List NetFlow) → is_among_flows f (filter test fs) ≡ true → test f ≡ true
among_passing test f fs e = at_flow (λ g. test g ≡ true) f (filter test fs) (filter_passes test fs) e

pub among_all : (test : NetFlow → Bool) (f : NetFlow) (fs : List NetFlow) → is_among_flows f (filter test fs) ≡ true → is_among_flows f fs ≡ true
among_all test f fs e = at_flow (λ g. is_among_flows g fs ≡ true) f (filter test fs) (All-filter test (λ g. is_among_flows g fs ≡ true) fs (all_among fs)) e
  where
    itself : (g : NetFlow) → is_same_flow g g ≡ true
    itself g = same_flow_from g g refl (grind (arith, nat_tests))

    or_right : (a b : Bool) → b ≡ true → (a || b) ≡ true
    or_right true b h = refl
    or_right false b h = h

    all_among : (gs : List NetFlow) → All (λ g. is_among_flows g gs ≡ true) gs
    all_among [] k d below = absurd (omega arith)
    all_among (h ∷ gs) zero d below = rw (itself h) refl
    all_among (h ∷ gs) (suc k) d below = or_right (is_same_flow _ h) (is_among_flows _ gs) (all_among gs k d (omega arith))
