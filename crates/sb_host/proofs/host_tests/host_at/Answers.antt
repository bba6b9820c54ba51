-- The rings are new ones of the host's own link, and the host has three transactions.
use Rattle.std.proofs.Common.{◌≡◌, ◌≢◌, ◌+◌, ◌*◌, ℕ, List, [], ◌∷◌, ◌++◌, Some, length, arith, sym, ap, subst, ◌∙◌}
use Rattle.std.specs.Prelude.{IsSome, slice_get}
use Rattle.std.proofs.lemmas.List.{length-map}
use Rattle.std.proofs.lemmas.List.Elements.{All-nil, All-cons}
use Rattle.sb_packet.specs.Networks.{Network}
use Rattle.sb_link.specs.RingPlans.{RingPlan}
use Rattle.sb_flow.specs.Rings.{ring_link, ring_plan}
use Rattle.sb_flow.specs.Ways.{first_link}
use Rattle.sb_link.specs.Ends.{IsNewRing}
use Rattle.sb_link.specs.PlanOf.{plan_of}
use Rattle.sb_flow.specs.NetworkOf.{network_of}
use Rattle.sb_flow.specs.Rows.{host_of}
use Rattle.sb_host.specs.Asked.{Asked, line_in}
use Rattle.sb_host.specs.SmallNetwork.{small}
use Rattle.sb_host.proofs.SmallNetwork.{small_host}
use Rattle.sb_host.proofs.host_tests.host_at.Goals as goal

pub plan-requires-clause-there : goal.plan-requires-clause-there
plan-requires-clause-there g c =
    subst (λ (n : Network). IsSome (ring_link n (2 * c.from-ring.result))) (sym c.requires.small)
    (subst (λ (k : ℕ). IsSome (ring_link small (2 * k))) (sym c.from-ring.ensures) (small_host c.args.number c.requires.number).1.down)

pub make-requires : goal.make-requires
make-requires g c = record { new = subst (λ (made : List RingPlan). IsNewRing c.plan.result.ring made) (sym c.requires.new) (All-nil (λ plan. plan.ring ≢ c.plan.result.ring)) }

pub plan-requires-2-clause-there : goal.plan-requires-2-clause-there
plan-requires-2-clause-there g c =
    subst (λ (n : Network). IsSome (ring_link n (2 * c.from-ring.result + 1))) (sym c.requires.small)
    (subst (λ (k : ℕ). IsSome (ring_link small (2 * k + 1))) (sym c.from-ring.ensures) (small_host c.args.number c.requires.number).1.up)

pub make-requires-2 : goal.make-requires-2
make-requires-2 g c =
    let ring = c.plan-2.result.ring in
    let first : c.plan.result.ring ≡ 2 * c.from-ring.result = ap (λ (p : RingPlan). p.ring) c.plan.ensures in
    let second : ring ≡ 2 * c.from-ring.result + 1 = ap (λ (p : RingPlan). p.ring) c.plan-2.ensures in
    let made = c.in_ok-requests.ensures.made ∙ ap (λ (list : List RingPlan). list ++ plan_of c.plan.result ∷ []) c.requires.new in
    record {
      new = subst (λ (list : List RingPlan). IsNewRing ring list) (sym made)
          (All-cons (λ plan. plan.ring ≢ ring) (plan_of c.plan.result) [] (λ same. absurd (omega (arith, first, second, same))) (All-nil (λ plan. plan.ring ≢ ring)));
    }

pub new-requires-2-clause-number : goal.new-requires-2-clause-number
new-requires-2-clause-number g c κs within =
    let two : length c.args.bundle.now.hosts.items ≡ 2 = sym (length-map c.args.bundle.now.hosts.items host_of) ∙ ap (λ (n : Network). length n.hosts) c.requires.small in
    let below = c.requires.number in
    omega (arith, two, below)

pub new-requires-2-clause-own : goal.new-requires-2-clause-own
new-requires-2-clause-own g c κs within = ap (λ (n : Network). first_link n c.args.number) c.requires.small ∙ (small_host c.args.number c.requires.number).1.link

pub new-requires-2-clause-planned : goal.new-requires-2-clause-planned
new-requires-2-clause-planned g c κs within = c.in_ok-requests.ensures.tx_plan ∙ c.plan.ensures ∙ ap (λ (k : ℕ). ring_plan (network_of c.args.bundle.now) (2 * k)) c.from-ring.ensures

pub returns-clause-lines : goal.returns-clause-lines
returns-clause-lines g c =
    let network = network_of c.args.bundle.now in
    let is = (small_host c.args.number c.requires.number).1 in
    let host = (small_host c.args.number c.requires.number).0 in
    let there : slice_get network.hosts c.args.number ≡ Some host = ap (λ (n : Network). slice_get n.hosts c.args.number) c.requires.small ∙ is.there in
    ap (λ (a : Asked). length a.lines) (c.in_ok-new.ensures.asked host there) ∙ length-map host.script (line_in network) ∙ is.lines
