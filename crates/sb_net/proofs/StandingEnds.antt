-- What stands at each ring of a network is the end that its joint names, and each port of a whole node is fit.
use Rattle.std.proofs.Common.{◌≡◌, ℕ, ◌<◌, true, List, [], ◌∷◌, ◌++◌, length, sym, ap, subst, arith}
use Rattle.std.specs.Prelude.{nat_lt, slice_index_or, if◌then◌else◌}
use Rattle.std.proofs.lemmas.Bool.Decides.{nat_tests}
use Rattle.std.proofs.lemmas.List.Elements.{All-append, All-get_or}
use Rattle.sb_port.specs.Ports.{IsFit}
use Rattle.sb_router.specs.Lanes.{no_port, no_ring}
use Rattle.sb_router.specs.Forwarding.{IsWholeOutlet}
use Rattle.sb_member.specs.Ends.{port_at, ports_of}
use Rattle.sb_member.specs.Joints.{joint_at, receiver_of, sender_of}
use Rattle.sb_member.specs.Members.{IsWholeMember}
use Rattle.sb_member.specs.declared.joint.Joint.{Joint}
use Rattle.sb_member.specs.declared.member.Member.{Member}
use Rattle.sb_member.specs.declared.member.Member.TheVariants.{Host, Router, Device}
use Rattle.sb_member.proofs.EndsChanged.{below_one}
use Rattle.sb_net.specs.RingEnds.{port_here, ring_here}

-- a number below another passes the test
pub is_below : (a b : ℕ) → a < b → nat_lt a b ≡ true
is_below a b lt = grind (arith, nat_tests)

module _ {F T U : Type 0} where
  -- each port of a whole node is fit
  pub fits : (m : Member F T U) (o : ℕ) → IsWholeMember m → o < length (ports_of m) → IsFit (port_at m o).plan (port_at m o).state
  fits (Host h) o w lt = subst (λ k. IsFit (slice_index_or (h.requests ∷ []) k no_port).plan (slice_index_or (h.requests ∷ []) k no_port).state) (sym (below_one o lt)) w.fit
  fits (Device d) o w lt = subst (λ k. IsFit (slice_index_or (d.answers ∷ []) k no_port).plan (slice_index_or (d.answers ∷ []) k no_port).state) (sym (below_one o lt)) w.fit
  fits (Router r) o w lt = (All-get_or IsWholeOutlet (r.requests.lane.outlets ++ r.answers.lane.outlets) o no_port lt
      (All-append IsWholeOutlet r.requests.lane.outlets r.answers.lane.outlets w.requests.outlets w.answers.outlets)).fit

module _ {F T U : Type 0} (joints : List Joint) (nodes : List (Member F T U)) where
  -- the port in front of a ring of the network, and the end behind it
  pub port_stands : (r : ℕ) → r < length joints → port_here joints nodes r ≡ sender_of nodes (joint_at joints r)
  port_stands r lt = ap (λ b. if b then sender_of nodes (joint_at joints r) else no_port) (is_below r (length joints) lt)

  pub ring_stands : (r : ℕ) → r < length joints → ring_here joints nodes r ≡ receiver_of nodes (joint_at joints r)
  ring_stands r lt = ap (λ b. if b then receiver_of nodes (joint_at joints r) else no_ring) (is_below r (length joints) lt)
