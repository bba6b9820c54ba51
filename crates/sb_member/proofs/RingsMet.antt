-- A ring is handed over between two nodes of a list.
use Rattle.std.proofs.Common.{◌≡◌, ◌≢◌, ℕ, zero, suc, ◌+◌, ◌<◌, Bool, List, [], ◌∷◌, ◌++◌, length, set, take, refl, sym, ap, ◌∙◌, subst, arith}
use Rattle.std.specs.Prelude.{slice_index_or}
use Rattle.sb_member.specs.Ends.{HaveJoined, HaveMetAt, port_at, ring_at, member_with_port, member_with_ring}
use Rattle.sb_member.specs.Joints.{MeetAlong, HasRingMet, IsRingPlaced, joint_at, no_node, node_at}
use Rattle.sb_member.specs.declared.joint.Joint.{Joint}
use Rattle.sb_member.specs.declared.member.Member.{Member}

-- two places are set in either order
pub set_swap : {A : Type 0} (xs : List A) (i k : ℕ) (x y : A) → i ≢ k → set (set xs i x) k y ≡ set (set xs k y) i x
set_swap [] i k x y apart = refl
set_swap (z ∷ xs) zero zero x y apart = absurd (apart refl)
set_swap (z ∷ xs) zero (suc k) x y apart = refl
set_swap (z ∷ xs) (suc i) zero x y apart = refl
set_swap (z ∷ xs) (suc i) (suc k) x y apart = ap (λ list. z ∷ list) (set_swap xs i k x y (λ e. apart (ap suc e)))

-- the first joints and one more
taken_next : (joints : List Joint) (k : ℕ) → k < length joints → take (suc k) joints ≡ take k joints ++ joint_at joints k ∷ []
taken_next [] k lt = absurd (omega (arith, lt))
taken_next (j ∷ joints) zero lt = refl
taken_next (j ∷ joints) (suc k) lt = ap (λ (list : List Joint). j ∷ list) (taken_next joints k (omega (arith, lt)))

pub taken_further : (joints : List Joint) (k : ℕ) → k < length joints → take (k + 1) joints ≡ take k joints ++ joint_at joints k ∷ []
taken_further joints k lt = let next : k + 1 ≡ suc k = omega arith in ap (λ (n : ℕ). take n joints) next ∙ taken_next joints k lt

-- within a list, whatever stands for a missing element
pub within_list : {A : Type 0} (xs : List A) (k : ℕ) (d e : A) → k < length xs → slice_index_or xs k d ≡ slice_index_or xs k e
within_list [] k d e lt = absurd (omega (arith, lt))
within_list (x ∷ xs) zero d e lt = refl
within_list (x ∷ xs) (suc k) d e lt = within_list xs k d e (omega (arith, lt))

module _ {F T U : Type 0} where
  pub met_in : (list : List (Member F T U)) (j : Joint) (a a_then b b_then : Member F T U) → IsRingPlaced list j
      → a ≡ slice_index_or list j.from a → b ≡ slice_index_or list j.to b → HaveMetAt j.out j.into a a_then b b_then
      → HasRingMet j list (set (set list j.from a_then) j.to b_then)
  met_in list j a a_then b b_then p is_a is_b met =
      let at_a : node_at list j.from ≡ a = within_list list j.from no_node a p.from ∙ sym is_a in
      let at_b : node_at list j.to ≡ b = within_list list j.to no_node b p.to ∙ sym is_b in
      record {
        port_then = met.port_then;
        ring_then = met.ring_then;
        nodes = ap (λ (y : Member F T U). set (set list j.from y) j.to b_then) (met.sender ∙ ap (λ (y : Member F T U). member_with_port y j.out met.port_then) (sym at_a))
            ∙ ap (λ (y : Member F T U). set (set list j.from (member_with_port (node_at list j.from) j.out met.port_then)) j.to y) (met.receiver ∙ ap (λ (y : Member F T U). member_with_ring y j.into met.ring_then) (sym at_b));
        joined = subst (λ (y : Member F T U). HaveJoined (port_at y j.out) met.port_then (ring_at (node_at list j.to) j.into) met.ring_then) (sym at_a)
            (subst (λ (y : Member F T U). HaveJoined (port_at a j.out) met.port_then (ring_at y j.into) met.ring_then) (sym at_b) met.joined);
      }

  -- one ring more is handed over
  pub meets_more : (joints : List Joint) (j : Joint) (before middle after : List (Member F T U)) → MeetAlong joints before middle → HasRingMet j middle after → MeetAlong (joints ++ j ∷ []) before after
  meets_more [] j before middle after h one = (after, subst (λ (nodes : List (Member F T U)). HasRingMet j nodes after) h one, refl)
  meets_more (i ∷ joints) j before middle after h one = (h.0, h.1, meets_more joints j h.0 middle after h.2 one)
