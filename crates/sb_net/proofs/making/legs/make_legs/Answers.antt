-- Both rings have numbers that come next.
use Rattle.std.proofs.Common.{◌≡◌, ◌+◌, ◌*◌, refl, ap, ◌∙◌, arith}
use Rattle.sb_link.specs.RingPlans.{RingPlan}
use Rattle.sb_flow.specs.Rings.{ring_plan}
use Rattle.sb_flow.specs.NetworkOf.{network_of}
use Rattle.sb_link.specs.PlanOf.{plan_of}
use Rattle.sb_net.proofs.LegsMade.{new_ring, one_more, one_more_unsettled}
use Rattle.sb_net.proofs.making.legs.make_legs.Goals as goal

pub make-requires : goal.make-requires
make-requires g c =
    let network = network_of c.args.bundle.now in
    let number : 2 * c.from.result ≡ 2 * c.args.link = omega (arith, c.from.ensures) in
    record { new = new_ring network (2 * c.args.link) c.plan-down.result.ring (g.F.Fabric.made c.args.fabric.now) c.requires.made (ap (λ (p : RingPlan). p.ring) c.plan-down.ensures ∙ number) }

pub make-requires-2 : goal.make-requires-2
make-requires-2 g c =
    let network = network_of c.args.bundle.now in
    let number : 2 * c.from.result ≡ 2 * c.args.link = omega (arith, c.from.ensures) in
    let next : 2 * c.from-2.result + 1 ≡ 2 * c.args.link + 1 = omega (arith, c.from-2.ensures) in
    let planned : plan_of c.plan-down.result ≡ ring_plan network (2 * c.args.link) = c.plan-down.ensures ∙ ap (ring_plan network) number in
    record {
      new = new_ring network (2 * c.args.link + 1) c.plan-up.result.ring (g.F.Fabric.made c.make.new.self)
          (one_more network (2 * c.args.link) (2 * c.args.link + 1) (g.F.Fabric.made c.args.fabric.now) (g.F.Fabric.made c.make.new.self) (plan_of c.plan-down.result) c.requires.made planned c.in_ok-ask.ensures.made refl)
          (ap (λ (p : RingPlan). p.ring) c.plan-up.ensures ∙ next);
    }

pub returns-clause-made : goal.returns-clause-made
returns-clause-made g c =
    let network = network_of c.args.bundle.now in
    let number : 2 * c.from.result ≡ 2 * c.args.link = omega (arith, c.from.ensures) in
    let next : 2 * c.from-2.result + 1 ≡ 2 * c.args.link + 1 = omega (arith, c.from-2.ensures) in
    let planned : plan_of c.plan-down.result ≡ ring_plan network (2 * c.args.link) = c.plan-down.ensures ∙ ap (ring_plan network) number in
    let planned_too : plan_of c.plan-up.result ≡ ring_plan network (2 * c.args.link + 1) = c.plan-up.ensures ∙ ap (ring_plan network) next in
    one_more network (2 * c.args.link + 1) (2 * c.args.link + 2) (g.F.Fabric.made c.make.new.self) (g.F.Fabric.made c.make-2.new.self) (plan_of c.plan-up.result)
    (one_more network (2 * c.args.link) (2 * c.args.link + 1) (g.F.Fabric.made c.args.fabric.now) (g.F.Fabric.made c.make.new.self) (plan_of c.plan-down.result) c.requires.made planned c.in_ok-ask.ensures.made refl)
    planned_too c.in_ok-tell.ensures.made (omega arith)

pub returns-clause-unsettled : goal.returns-clause-unsettled
returns-clause-unsettled g c =
    let number : c.plan-down.result.ring ≡ 2 * c.args.link = ap (λ (p : RingPlan). p.ring) c.plan-down.ensures ∙ omega (arith, c.from.ensures) in
    let next : c.plan-up.result.ring ≡ 2 * c.args.link + 1 = ap (λ (p : RingPlan). p.ring) c.plan-up.ensures ∙ omega (arith, c.from-2.ensures) in
    one_more_unsettled (g.F.Fabric.settled c.make.new.self) (g.F.Fabric.settled c.make-2.new.self) (2 * c.args.link + 1) (2 * c.args.link + 2)
    (one_more_unsettled (g.F.Fabric.settled c.args.fabric.now) (g.F.Fabric.settled c.make.new.self) (2 * c.args.link) (2 * c.args.link + 1) c.requires.unsettled
    c.make.ensures.settled (rw (← number) c.in_ok-ask.ensures.unsettled) refl)
    c.make-2.ensures.settled (rw (← next) c.in_ok-tell.ensures.unsettled) (omega arith)

pub returns-clause-carried : goal.returns-clause-carried
returns-clause-carried g c = λ ring. c.make-2.ensures.carried ring ∙ c.make.ensures.carried ring

pub returns-clause-legs : goal.returns-clause-legs
returns-clause-legs g c =
    let network = network_of c.args.bundle.now in
    let number : 2 * c.from.result ≡ 2 * c.args.link = omega (arith, c.from.ensures) in
    let next : 2 * c.from-2.result + 1 ≡ 2 * c.args.link + 1 = omega (arith, c.from-2.ensures) in
    let planned : plan_of c.plan-down.result ≡ ring_plan network (2 * c.args.link) = c.plan-down.ensures ∙ ap (ring_plan network) number in
    let planned_too : plan_of c.plan-up.result ≡ ring_plan network (2 * c.args.link + 1) = c.plan-up.ensures ∙ ap (ring_plan network) next in
    let a = c.in_ok-ask.ensures in
    let b = c.in_ok-tell.ensures in
    record {
      out_link = refl;
      in_link = refl;
      asks = a.tx_plan ∙ planned;
      hears = a.rx_plan ∙ planned;
      tells = b.tx_plan ∙ planned_too;
      learns = b.rx_plan ∙ planned_too;
      unasked = a.sent;
      unheard = a.received;
      untold = b.sent;
      unlearnt = b.received;
      requests_mark = a.marks;
      answers_mark = b.marks;
    }
