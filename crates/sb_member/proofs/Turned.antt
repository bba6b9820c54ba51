-- A network whose nodes took their turns.
use Rattle.std.proofs.Common.{◌≡◌, ℕ, ◌<◌, List, [], ◌∷◌, length, refl, sym, ap, ◌∙◌, subst, arith}
use Rattle.std.specs.Prelude.{All, slice_index_or}
use Rattle.sb_drive.specs.Rounds.{EachReaches}
use Rattle.sb_link.specs.RingPlans.{RingPlan}
use Rattle.sb_node.specs.Kept.{IsKeptPort, IsKeptRing}
use Rattle.sb_router.specs.Lanes.{no_port, no_ring}
use Rattle.sb_router.proofs.EndPlaces as routers
use Rattle.sb_router.specs.Routers.{IsKeptRouter, RouterSide, router_ports, router_rings}
use Rattle.sb_member.specs.Members.{IsKeptMember, IsWholeMember, IsMemberTurn}
use Rattle.sb_member.specs.Ends.{ports_of, rings_of}
use Rattle.sb_member.specs.Joints.{IsJoined, joint_at, no_node, node_at}
use Rattle.sb_member.specs.declared.joint.Joint.{Joint}
use Rattle.sb_member.specs.declared.member.Member.{Member}
use Rattle.sb_member.specs.declared.member.Member.TheVariants.{Host, Router, Device}
use Rattle.sb_member.proofs.EndsChanged.{below_one}

-- as many ends, each kept
pub record AreKept {A : Type 0} (kept : A → A → Type 0) (xs ys : List A) (none : A) : Type 0 where
  pub count : length ys ≡ length xs
  pub each : (k : ℕ) → k < length xs → kept (slice_index_or xs k none) (slice_index_or ys k none)

one_kept : {A : Type 0} (kept : A → A → Type 0) (none x y : A) → kept x y → AreKept kept (x ∷ []) (y ∷ []) none
one_kept kept none x y h = record { count = refl; each = λ k lt. subst (λ i. kept (slice_index_or (x ∷ []) i none) (slice_index_or (y ∷ []) i none)) (sym (below_one k lt)) h }

router_ports_kept : (x y : RouterSide) → IsKeptRouter x y → AreKept IsKeptPort (router_ports x) (router_ports y) no_port
router_ports_kept x y h = record { count = routers.port_count x y h; each = λ k lt. routers.ports_kept x y h k }

router_rings_kept : (x y : RouterSide) → IsKeptRouter x y → AreKept IsKeptRing (router_rings x) (router_rings y) no_ring
router_rings_kept x y h = record { count = routers.ring_count x y h; each = λ k lt. routers.rings_kept x y h k }

module _ {F T U : Type 0} where
  pub ports_kept : (round : ℕ) (x y : Member F T U) → IsKeptMember round x y → AreKept IsKeptPort (ports_of x) (ports_of y) no_port
  ports_kept round (Host x) (Host y) h = one_kept IsKeptPort no_port x.requests y.requests h.requests
  ports_kept round (Router x) (Router y) h = router_ports_kept x y h
  ports_kept round (Device x) (Device y) h = one_kept IsKeptPort no_port x.answers y.answers h.answers
  ports_kept round (Host x) (Router y) h = absurd h
  ports_kept round (Host x) (Device y) h = absurd h
  ports_kept round (Router x) (Host y) h = absurd h
  ports_kept round (Router x) (Device y) h = absurd h
  ports_kept round (Device x) (Host y) h = absurd h
  ports_kept round (Device x) (Router y) h = absurd h

  pub rings_kept : (round : ℕ) (x y : Member F T U) → IsKeptMember round x y → AreKept IsKeptRing (rings_of x) (rings_of y) no_ring
  rings_kept round (Host x) (Host y) h = one_kept IsKeptRing no_ring x.answers y.answers h.answers
  rings_kept round (Router x) (Router y) h = router_rings_kept x y h
  rings_kept round (Device x) (Device y) h = one_kept IsKeptRing no_ring x.requests y.requests h.requests
  rings_kept round (Host x) (Router y) h = absurd h
  rings_kept round (Host x) (Device y) h = absurd h
  rings_kept round (Router x) (Host y) h = absurd h
  rings_kept round (Router x) (Device y) h = absurd h
  rings_kept round (Device x) (Host y) h = absurd h
  rings_kept round (Device x) (Router y) h = absurd h

  -- each node of a network is kept
  abbrev pub EachKept : ℕ → List (Member F T U) → List (Member F T U) → Type 0
  EachKept round before after = (k : ℕ) → k < length before → IsKeptMember round (node_at before k) (node_at after k)

  pub joined_then : (round : ℕ) (joints : List Joint) (before after : List (Member F T U)) → length after ≡ length before → EachKept round before after → All IsWholeMember after → IsJoined joints before → IsJoined joints after
  joined_then round joints before after long kept whole n = record {
    whole = whole;
    placed = λ r below. let p = n.placed r below in let j = joint_at joints r in
        let from = ports_kept round (node_at before j.from) (node_at after j.from) (kept j.from p.from) in
        let to = rings_kept round (node_at before j.to) (node_at after j.to) (kept j.to p.to) in
        let a = p.from in let b = p.to in let c = p.out in let d = p.into in
        record {
          from = omega (arith, a, long);
          to = omega (arith, b, long);
          apart = p.apart;
          out = let same = from.count in omega (arith, c, same);
          into = let same = to.count in omega (arith, d, same);
          marks = (from.each j.out p.out).mark ∙ p.marks ∙ sym (to.each j.into p.into).mark;
        };
    sent_by = λ r below. let p = n.placed r below in let j = joint_at joints r in
        ap (λ (plan : RingPlan). plan.ring) ((ports_kept round (node_at before j.from) (node_at after j.from) (kept j.from p.from)).each j.out p.out).plan ∙ n.sent_by r below;
    received_by = λ r below. let p = n.placed r below in let j = joint_at joints r in
        ap (λ (plan : RingPlan). plan.ring) ((rings_kept round (node_at before j.to) (node_at after j.to) (kept j.to p.to)).each j.into p.into).plan ∙ n.received_by r below;
  }

  -- an element of a list, so that there is one
  element : (xs : List (Member F T U)) (k : ℕ) → k < length xs → Member F T U
  element [] k lt = absurd (omega (arith, lt))
  element (x ∷ xs) k lt = x

  pub each_kept : (round : ℕ) (before after : List (Member F T U)) → EachReaches IsKeptMember (λ x r t y. IsMemberTurn r x t y) round before after → EachKept round before after
  each_kept round before after each k lt = each k no_node lt
