-- A host at its leg is the host of its place.
use Rattle.std.proofs.Common.{◌≡◌, ℕ, ◌<◌, List, [], ◌∷◌, ◌++◌, length, refl, sym, ap, ◌∙◌, subst, arith}
use Rattle.std.specs.Prelude.{All, Some, map, slice_get}
use Rattle.std.proofs.lemmas.List.{length-append, length-map}
use Rattle.sb_link.specs.declared.ends.RxEnd as rx
use Rattle.sb_link.specs.declared.ends.TxEnd as tx
use Rattle.sb_packet.specs.Networks.{NetHost, Network}
use Rattle.sb_link.specs.RingPlans.{RingPlan}
use Rattle.sb_flow.specs.Ways.{first_link}
use Rattle.sb_port.specs.Ports.{PortSide, fresh_port}
use Rattle.sb_port.specs.declared.leg.OutLeg.{OutLeg}
use Rattle.sb_node.specs.Sides.{RingSide, ring_side}
use Rattle.sb_flow.specs.Accepted.{IsAccepted}
use Rattle.sb_host.specs.Asked.{asked_by}
use Rattle.sb_host.specs.Hosts.{HostSide, IsWholeHost}
use Rattle.sb_laws.specs.NetworkLayouts.{answer_ring, request_ring}
use Rattle.sb_member.specs.declared.member.Member.TheVariants.{Host}
use Rattle.sb_net.specs.Legs.{AreLegsAt, IsMadeAt, IsOutLeg, links_out}
use Rattle.sb_net.proofs.NodeLinks.{host_link}

-- the last of some things that have one link
pub only_thing : {A : Type 0} (link : A → ℕ) (xs ys : List A) (a : A) (k : ℕ) → map link xs ≡ k ∷ [] → xs ≡ ys ++ a ∷ [] → (xs ≡ a ∷ []) × (link a ≡ k)
only_thing link xs [] a k one e = (e, let own : link a ∷ [] ≡ k ∷ [] = sym (ap (map link) e) ∙ one in cc)
only_thing link xs (y ∷ ys) a k one e = absurd (let many = ap (λ (zs : List ℕ). length zs) one in
    let long = ap (λ zs. length zs) e in omega (arith, many, long, length-map xs link, length-append ys (a ∷ [])))

pub some_thing : {A : Type 0} (link : A → ℕ) (xs : List A) (k : ℕ) → map link xs ≡ k ∷ [] → 0 < length xs
some_thing link xs k one = let many = ap (λ (zs : List ℕ). length zs) one in omega (arith, many, length-map xs link)

module _ {F T U : Type 0} (tx : tx.Ghosts T) (rx : rx.Ghosts U) (network : Network) (good : IsAccepted network) (n : ℕ) (lt : n < length network.hosts) (outs : List (OutLeg F T U)) (legs : AreLegsAt tx rx network n outs []) where
  abbrev pub host_link_here : ℕ
  host_link_here = (host_link network good n lt).0

  pub host_links : links_out outs ≡ host_link_here ∷ []
  host_links = legs.outs_here ∙ (host_link network good n lt).1.own

  module _ (rest : List (OutLeg F T U)) (leg : OutLeg F T U) (popped : outs ≡ rest ++ leg ∷ []) where
    pub host_outs : outs ≡ leg ∷ []
    host_outs = (only_thing (λ (leg : OutLeg F T U). leg.link) outs rest leg host_link_here host_links popped).0

    host_linked : leg.link ≡ host_link_here
    host_linked = (only_thing (λ (leg : OutLeg F T U). leg.link) outs rest leg host_link_here host_links popped).1

    pub host_leg : IsOutLeg tx rx network leg
    host_leg = subst (λ xs. All (IsOutLeg tx rx network) xs) host_outs legs.outs_fresh 0 leg (omega arith)

    pub host_own : first_link network n ≡ Some leg.link
    host_own = (host_link network good n lt).1.first ∙ ap (λ k. Some k) (sym host_linked)

    pub host_made : (h : HostSide) → IsWholeHost h → ((host : NetHost) → slice_get network.hosts n ≡ Some host → h.transactions.asked ≡ asked_by network host)
        → h.requests ≡ fresh_port tx leg.requests → h.answers ≡ ring_side rx leg.answers → IsMadeAt tx rx network n outs [] (Host h)
    host_made h whole asked requests answers = subst (λ xs. IsMadeAt tx rx network n xs [] (Host h)) (sym host_outs) (record {
      whole = whole;
      ports = ap (λ p. p ∷ []) requests;
      rings = ap (λ p. p ∷ []) answers;
      kind = record {
        host = λ low. record {
          asked = asked;
          asks_by = λ k first. ap (λ (p : PortSide). p.plan.ring) requests ∙ ap (λ (p : RingPlan). p.ring) host_leg.asks ∙ ap request_ring (same_link k first);
          answered_by = λ k first. ap (λ (r : RingSide). r.plan.ring) answers ∙ ap (λ (p : RingPlan). p.ring) host_leg.learns ∙ ap answer_ring (same_link k first);
        };
        router = λ r low e. absurd (omega (arith, lt, e));
        device = λ d low e. absurd (omega (arith, lt, e));
      };
      unserved = refl;
    })
      where
        same_link : (k : ℕ) → first_link network n ≡ Some k → leg.link ≡ k
        same_link k first = let some : Some leg.link ≡ Some k = sym host_own ∙ first in cc

-- what has no links is nothing
pub no_things : {A : Type 0} (link : A → ℕ) (xs : List A) → map link xs ≡ [] → xs ≡ []
no_things link [] none = refl
no_things link (x ∷ xs) none = absurd (let never = ap (λ (zs : List ℕ). length zs) none in omega (arith, never))
