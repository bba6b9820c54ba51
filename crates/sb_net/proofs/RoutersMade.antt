-- A router at its legs is the router of its place.
use Rattle.std.proofs.Common.{◌≡◌, ℕ, ◌<◌, true, false, List, [], ◌∷◌, ◌++◌, length, refl, sym, ap, ◌∙◌, subst, arith}
use Rattle.std.specs.Prelude.{All, Some, map}
use Rattle.std.proofs.lemmas.List.{length-map}
use Rattle.std.proofs.lemmas.List.Elements.{All-head, All-map, All-tail, All-weaker}
use Rattle.sb_link.specs.declared.ends.RxEnd as rx
use Rattle.sb_link.specs.declared.ends.TxEnd as tx
use Rattle.sb_packet.specs.Networks.{Network}
use Rattle.sb_link.specs.RingPlans.{RingPlan}
use Rattle.sb_flow.specs.Rings.{ring_plan}
use Rattle.sb_packet.specs.declared.item.Item.{Item}
use Rattle.sb_port.specs.Ports.{PortSide, fresh_port}
use Rattle.sb_port.specs.declared.leg.InLeg.{InLeg}
use Rattle.sb_port.specs.declared.leg.OutLeg.{OutLeg}
use Rattle.sb_node.specs.Sides.{ring_side}
use Rattle.sb_flow.specs.Accepted.{IsAccepted}
use Rattle.sb_router.specs.Forwarding.{Forwards, Words}
use Rattle.sb_router.specs.Lanes.{InletState, IsFreshPair, fresh_inlet}
use Rattle.sb_router.specs.Ways.{IsTableOf, route_of}
use Rattle.sb_router.specs.Routers.{IsWholeRouter, RouterSide}
use Rattle.sb_laws.specs.NetworkLayouts.{IsRouted, answer_ring, links_into, links_out_of, network_answers, network_requests, request_ring}
use Rattle.sb_laws.specs.RouterSides.{HasTable, IsBuiltFor, answer_ins, answer_outs, course_words, request_ins, request_outs, ring_ins, ring_outs}
use Rattle.sb_laws.proofs.AcceptedNetworks.{accepted_is_routed, low_ids}
use Rattle.sb_laws.proofs.NetworkRouters.{answers_laid, requests_laid}
use Rattle.sb_laws.proofs.RouterTables.{answer_tables, request_tables}
use Rattle.sb_member.specs.declared.member.Member.TheVariants.{Router}
use Rattle.sb_net.specs.Legs.{AreLegsAt, IsInLeg, IsMadeAt, IsOutLeg, links_in, links_out}
use Rattle.sb_net.specs.Standing.{IsRouterBuilt, router_number}
use Rattle.sb_net.proofs.NodeLinks.{router_ins, router_outs}

-- what is seen of things that were made of others is what is wanted of these
made_of : {A B C : Type 0} (make : A → B) (see : B → C) (want : A → C) (xs : List A) → All (λ x. see (make x) ≡ want x) xs → map see (map make xs) ≡ map want xs
made_of make see want [] all = refl
made_of make see want (x ∷ xs) all =
    ap (λ y. y ∷ map see (map make xs)) (All-head (λ x. see (make x) ≡ want x) x xs all) ∙ ap (λ ys. want x ∷ ys) (made_of make see want xs (All-tail (λ x. see (make x) ≡ want x) x xs all))

one_by_one : {A B C : Type 0} (f : A → B) (g : B → C) (xs : List A) → map (λ x. g (f x)) xs ≡ map g (map f xs)
one_by_one f g [] = refl
one_by_one f g (x ∷ xs) = ap (λ ys. g (f x) ∷ ys) (one_by_one f g xs)

-- a ring's plan is that of its number
own_plan : (network : Network) (p : RingPlan) (k : ℕ) → p ≡ ring_plan network k → p ≡ ring_plan network p.ring
own_plan network p k e = e ∙ ap (ring_plan network) (sym (ap (λ (p : RingPlan). p.ring) e))

module _ {F T U : Type 0} (tx : tx.Ghosts T) (rx : rx.Ghosts U) (network : Network) (good : IsAccepted network) where
  pub fresh_outs : (outs : List (OutLeg F T U)) → All (IsOutLeg tx rx network) outs → All (λ leg. IsFreshPair tx rx leg.requests leg.answers) outs
  fresh_outs outs all = All-weaker (IsOutLeg tx rx network) (λ (leg : OutLeg F T U). IsFreshPair tx rx leg.requests leg.answers)
      (λ leg h. record { unsent = h.unasked; unreceived = h.unlearnt }) outs all

  pub fresh_ins : (ins : List (InLeg F T U)) → All (IsInLeg tx rx network) ins → All (λ leg. IsFreshPair tx rx leg.answers leg.requests) ins
  fresh_ins ins all = All-weaker (IsInLeg tx rx network) (λ (leg : InLeg F T U). IsFreshPair tx rx leg.answers leg.requests)
      (λ leg h. record { unsent = h.untold; unreceived = h.unheard }) ins all

  module _ (n : ℕ) (lt : n < length network.routers) (outs : List (OutLeg F T U)) (ins : List (InLeg F T U)) (legs : AreLegsAt tx rx network (router_number network n) outs ins)
      (r : RouterSide) (whole : IsWholeRouter r)
      (requests_in : r.requests.lane.inlets ≡ map (λ leg. fresh_inlet rx leg.requests) ins) (requests_out : r.requests.lane.outlets ≡ map (λ leg. fresh_port tx leg.requests) outs)
      (answers_in : r.answers.lane.inlets ≡ map (λ leg. fresh_inlet rx leg.answers) outs) (answers_out : r.answers.lane.outlets ≡ map (λ leg. fresh_port tx leg.answers) ins)
      (down : IsTableOf network false n (links_out outs) r.requests.rows) (up : IsTableOf network true n (links_in ins) r.answers.rows)
      (forwards_requests : (words : Words) → Forwards words (route_of r.requests.rows) r.requests.lane) (forwards_answers : (words : Words) → Forwards words (route_of r.answers.rows) r.answers.lane) where
    routed : IsRouted network
    routed = accepted_is_routed network good

    out_links : links_out outs ≡ links_out_of network (Some n)
    out_links = legs.outs_here ∙ router_outs network good n lt

    in_links : links_in ins ≡ links_into network (Some n)
    in_links = legs.ins_here ∙ router_ins network good n lt

    -- the rings of each direction, by their numbers and their plans
    comes_by_down : ring_ins r.requests.lane ≡ request_ins network n
    comes_by_down = ap (map (λ (x : InletState). x.ring.plan.ring)) requests_in
        ∙ made_of (λ (leg : InLeg F T U). fresh_inlet rx leg.requests) (λ (x : InletState). x.ring.plan.ring) (λ leg. request_ring leg.link) ins (All-weaker (IsInLeg tx rx network) (λ (leg : InLeg F T U). (rx.planned leg.requests).ring ≡ request_ring leg.link) (λ leg h. ap (λ (p : RingPlan). p.ring) h.hears) ins legs.ins_fresh)
        ∙ one_by_one (λ (leg : InLeg F T U). leg.link) request_ring ins ∙ ap (map request_ring) in_links

    sends_by_down : ring_outs r.requests.lane ≡ request_outs network n
    sends_by_down = ap (map (λ (y : PortSide). y.plan.ring)) requests_out
        ∙ made_of (λ (leg : OutLeg F T U). fresh_port tx leg.requests) (λ (y : PortSide). y.plan.ring) (λ leg. request_ring leg.link) outs (All-weaker (IsOutLeg tx rx network) (λ (leg : OutLeg F T U). (tx.planned leg.requests).ring ≡ request_ring leg.link) (λ leg h. ap (λ (p : RingPlan). p.ring) h.asks) outs legs.outs_fresh)
        ∙ one_by_one (λ (leg : OutLeg F T U). leg.link) request_ring outs ∙ ap (map request_ring) out_links

    comes_by_up : ring_ins r.answers.lane ≡ answer_ins network n
    comes_by_up = ap (map (λ (x : InletState). x.ring.plan.ring)) answers_in
        ∙ made_of (λ (leg : OutLeg F T U). fresh_inlet rx leg.answers) (λ (x : InletState). x.ring.plan.ring) (λ leg. answer_ring leg.link) outs (All-weaker (IsOutLeg tx rx network) (λ (leg : OutLeg F T U). (rx.planned leg.answers).ring ≡ answer_ring leg.link) (λ leg h. ap (λ (p : RingPlan). p.ring) h.learns) outs legs.outs_fresh)
        ∙ one_by_one (λ (leg : OutLeg F T U). leg.link) answer_ring outs ∙ ap (map answer_ring) out_links

    sends_by_up : ring_outs r.answers.lane ≡ answer_outs network n
    sends_by_up = ap (map (λ (y : PortSide). y.plan.ring)) answers_out
        ∙ made_of (λ (leg : InLeg F T U). fresh_port tx leg.answers) (λ (y : PortSide). y.plan.ring) (λ leg. answer_ring leg.link) ins (All-weaker (IsInLeg tx rx network) (λ (leg : InLeg F T U). (tx.planned leg.answers).ring ≡ answer_ring leg.link) (λ leg h. ap (λ (p : RingPlan). p.ring) h.tells) ins legs.ins_fresh)
        ∙ one_by_one (λ (leg : InLeg F T U). leg.link) answer_ring ins ∙ ap (map answer_ring) in_links

    in_plans_down : All (λ x. x.ring.plan ≡ ring_plan network x.ring.plan.ring) r.requests.lane.inlets
    in_plans_down = subst (All (λ (x : InletState). x.ring.plan ≡ ring_plan network x.ring.plan.ring)) (sym requests_in) (All-map (λ (x : InletState). x.ring.plan ≡ ring_plan network x.ring.plan.ring) (λ (leg : InLeg F T U). fresh_inlet rx leg.requests) ins
        (All-weaker (IsInLeg tx rx network) (λ (leg : InLeg F T U). rx.planned leg.requests ≡ ring_plan network (rx.planned leg.requests).ring) (λ leg h. own_plan network (rx.planned leg.requests) (request_ring leg.link) h.hears) ins legs.ins_fresh))

    out_plans_down : All (λ y. y.plan ≡ ring_plan network y.plan.ring) r.requests.lane.outlets
    out_plans_down = subst (All (λ (y : PortSide). y.plan ≡ ring_plan network y.plan.ring)) (sym requests_out) (All-map (λ (y : PortSide). y.plan ≡ ring_plan network y.plan.ring) (λ (leg : OutLeg F T U). fresh_port tx leg.requests) outs
        (All-weaker (IsOutLeg tx rx network) (λ (leg : OutLeg F T U). tx.planned leg.requests ≡ ring_plan network (tx.planned leg.requests).ring) (λ leg h. own_plan network (tx.planned leg.requests) (request_ring leg.link) h.asks) outs legs.outs_fresh))

    in_plans_up : All (λ x. x.ring.plan ≡ ring_plan network x.ring.plan.ring) r.answers.lane.inlets
    in_plans_up = subst (All (λ (x : InletState). x.ring.plan ≡ ring_plan network x.ring.plan.ring)) (sym answers_in) (All-map (λ (x : InletState). x.ring.plan ≡ ring_plan network x.ring.plan.ring) (λ (leg : OutLeg F T U). fresh_inlet rx leg.answers) outs
        (All-weaker (IsOutLeg tx rx network) (λ (leg : OutLeg F T U). rx.planned leg.answers ≡ ring_plan network (rx.planned leg.answers).ring) (λ leg h. own_plan network (rx.planned leg.answers) (answer_ring leg.link) h.learns) outs legs.outs_fresh))

    out_plans_up : All (λ y. y.plan ≡ ring_plan network y.plan.ring) r.answers.lane.outlets
    out_plans_up = subst (All (λ (y : PortSide). y.plan ≡ ring_plan network y.plan.ring)) (sym answers_out) (All-map (λ (y : PortSide). y.plan ≡ ring_plan network y.plan.ring) (λ (leg : InLeg F T U). fresh_port tx leg.answers) ins
        (All-weaker (IsInLeg tx rx network) (λ (leg : InLeg F T U). tx.planned leg.answers ≡ ring_plan network (tx.planned leg.answers).ring) (λ leg h. own_plan network (tx.planned leg.answers) (answer_ring leg.link) h.tells) ins legs.ins_fresh))

    table_down : HasTable network false n (links_out_of network (Some n)) r.requests
    table_down = record {
      table = subst (λ links. IsTableOf network false n links r.requests.rows) out_links down;
      within = λ f o e. let low = whole.requests.routed f o e in omega (arith, low, ap (λ (ys : List PortSide). length ys) requests_out, length-map outs (λ leg. fresh_port tx leg.requests), ap (λ (xs : List ℕ). length xs) out_links, length-map outs (λ (leg : OutLeg F T U). leg.link));
    }

    table_up : HasTable network true n (links_into network (Some n)) r.answers
    table_up = record {
      table = subst (λ links. IsTableOf network true n links r.answers.rows) in_links up;
      within = λ f o e. let low = whole.answers.routed f o e in omega (arith, low, ap (λ (ys : List PortSide). length ys) answers_out, length-map ins (λ leg. fresh_port tx leg.answers), ap (λ (xs : List ℕ). length xs) in_links, length-map ins (λ (leg : InLeg F T U). leg.link));
    }

    built_down : IsBuiltFor network (request_ins network n) (request_outs network n) r.requests
    built_down = record {
      comes_by = comes_by_down;
      sends_by = sends_by_down;
      in_plans = in_plans_down;
      out_plans = out_plans_down;
      table = request_tables network n r.requests routed (low_ids network good) sends_by_down out_plans_down table_down;
    }

    built_up : IsBuiltFor network (answer_ins network n) (answer_outs network n) r.answers
    built_up = record {
      comes_by = comes_by_up;
      sends_by = sends_by_up;
      in_plans = in_plans_up;
      out_plans = out_plans_up;
      table = answer_tables network n r.answers routed (low_ids network good) sends_by_up out_plans_up table_up;
    }

    built : IsRouterBuilt network n r
    built = record {
      requests = built_down;
      answers = built_up;
      forwards_requests = record { laid = requests_laid network routed n r.requests built_down; forwards = forwards_requests (course_words network (network_requests network) (request_outs network n)) };
      forwards_answers = record { laid = answers_laid network routed n r.answers built_up; forwards = forwards_answers (course_words network (network_answers network) (answer_outs network n)) };
    }

    rings_down : map (λ (x : InletState). x.ring) r.requests.lane.inlets ≡ map (λ leg. ring_side rx leg.requests) ins
    rings_down = ap (map (λ (x : InletState). x.ring)) requests_in
        ∙ made_of (λ (leg : InLeg F T U). fresh_inlet rx leg.requests) (λ (x : InletState). x.ring) (λ leg. ring_side rx leg.requests) ins
        (All-weaker (IsInLeg tx rx network) (λ (leg : InLeg F T U). (fresh_inlet rx leg.requests).ring ≡ ring_side rx leg.requests) (λ leg h. ap (λ (list : List Item). record { plan = rx.planned leg.requests; mark = rx.mark leg.requests; received = list; known = rx.known leg.requests }) (sym h.unheard)) ins legs.ins_fresh)

    rings_up : map (λ (x : InletState). x.ring) r.answers.lane.inlets ≡ map (λ leg. ring_side rx leg.answers) outs
    rings_up = ap (map (λ (x : InletState). x.ring)) answers_in
        ∙ made_of (λ (leg : OutLeg F T U). fresh_inlet rx leg.answers) (λ (x : InletState). x.ring) (λ leg. ring_side rx leg.answers) outs
        (All-weaker (IsOutLeg tx rx network) (λ (leg : OutLeg F T U). (fresh_inlet rx leg.answers).ring ≡ ring_side rx leg.answers) (λ leg h. ap (λ (list : List Item). record { plan = rx.planned leg.answers; mark = rx.mark leg.answers; received = list; known = rx.known leg.answers }) (sym h.unlearnt)) outs legs.outs_fresh)

    pub router_made : IsMadeAt tx rx network (router_number network n) outs ins (Router r)
    router_made = record {
      whole = whole;
      ports = ap (λ ys. ys ++ r.answers.lane.outlets) requests_out ∙ ap (λ ys. map (λ (leg : OutLeg F T U). fresh_port tx leg.requests) outs ++ ys) answers_out;
      rings = ap (λ ys. ys ++ map (λ (x : InletState). x.ring) r.answers.lane.inlets) rings_down ∙ ap (λ ys. map (λ (leg : InLeg F T U). ring_side rx leg.requests) ins ++ ys) rings_up;
      kind = record {
        host = λ low. absurd (omega (arith, low));
        router = λ k low e. let same : n ≡ k = omega (arith, e) in subst (λ k. IsRouterBuilt network k r) same built;
        device = λ d low e. absurd (omega (arith, lt, e));
      };
      unserved = refl;
    }
