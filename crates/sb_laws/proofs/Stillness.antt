-- A round without a move is the end: from the last stage backwards no ring is full, and from the first stage forwards each ring is done.
use Rattle.std.proofs.Common.{◌≡◌, ◌≤◌, ◌<◌, ℕ, zero, suc, ◌+◌, Bool, true, false, ◌⊎◌, inl, inr, refl, ap, ◌∙◌, arith, length}
use Rattle.std.specs.Prelude.{Option, Some, None}
use Rattle.std.proofs.lemmas.Bool.{cases_lt}
use Rattle.sb_link.specs.Traffic.{has_close}
use Rattle.sb_laws.specs.Standstills.{IsFinished, IsHostWaiting, IsQuietReceiver, IsQuietSender, IsReceiverBlocked, IsStandstill, IsTrueRing, RoundEnd, Stages, is_closed, is_ended}
use Rattle.sb_laws.proofs.Prefixes.{whole_prefix}
use Rattle.sb_laws.proofs.FlowMembers.{not_true}
use Rattle.sb_laws.proofs.Courses.{closed_link}

is_none : {A : Type 0} (o : Option A) → ((x : A) → o ≡ Some x → ⊥) → o ≡ None
is_none None never = refl
is_none (Some x) never = absurd (never x refl)

module _ (stages : Stages) (s : RoundEnd) (still : IsStandstill stages s) where
  ended_all : (r : ℕ) → IsTrueRing s r → is_ended s r ≡ true → length (s.at.sent r) ≤ length (s.at.received r)
  ended_all r ring e = let same = ap length (closed_link s.at r ring.link e) in omega arith

  -- a ring is not full where no ring of the stage that it leads to is
  one_not_full : (r : ℕ) → r < stages.rings → ((p : ℕ) → p < stages.rings → stages.from p ≡ stages.to r → s.full p ≡ true → ⊥) → s.full r ≡ true → ⊥
  one_not_full r here later full = by_in (stages.comes_in r) refl
    where
      inside : stages.comes_in r ≡ false → stages.goes_out r ≡ false → ⊥
      inside i o = by_close (is_ended s r) refl
        where
          ring : IsTrueRing s r
          ring = still.rings r here i o

          by_cause : (s.empty r ≡ true) ⊎ (((p : ℕ) × (s.holds r ≡ Some p)) ⊎ IsReceiverBlocked stages s r) → ⊥
          by_cause (inl e) = let all = ring.empty e in let more = ring.full full in absurd (omega arith)
          by_cause (inr (inl (p, h))) = let held = (still.receivers r here o).held p h in later p held.0 held.1 held.2
          by_cause (inr (inr b)) = later b.by b.is_ring b.here b.full

          by_close : (b : Bool) → is_ended s r ≡ b → ⊥
          by_close true e = let all = ended_all r ring e in let more = ring.full full in absurd (omega arith)
          by_close false e = by_cause ((still.receivers r here o).drained e)

      by_out : (b : Bool) → stages.goes_out r ≡ b → stages.comes_in r ≡ false → ⊥
      by_out true o i = let room = (still.wires r here).out_not_full o in cc
      by_out false o i = inside i o

      by_in : (b : Bool) → stages.comes_in r ≡ b → ⊥
      by_in true i = let room = (still.wires r here).in_not_full i in cc
      by_in false i = by_out (stages.goes_out r) refl i

  none_full_from : (n r : ℕ) → r < stages.rings → stages.last ≤ stages.to r + n → s.full r ≡ true → ⊥
  none_full_from zero r here near = one_not_full r here
      (λ p ring at full. let up = (still.rising p ring).rises in let top = (still.rising p ring).within in absurd (omega arith))
  none_full_from (suc n) r here near = one_not_full r here
      (λ p ring at full. let up = (still.rising p ring).rises in none_full_from n p ring (omega arith) full)

  -- so no ring is full
  pub none_full : (r : ℕ) → r < stages.rings → s.full r ≡ true → ⊥
  none_full r here = none_full_from stages.last r here (omega arith)

  -- nothing is kept in front of any
  pub quiet_sender : (r : ℕ) → r < stages.rings → stages.comes_in r ≡ false → IsQuietSender s r
  quiet_sender r here i = record { room = not_true (s.full r) (none_full r here); owes = owes; merges = merges; sent = (still.senders r here i).port.settled owes merges }
    where
      owes : s.owes r ≡ false
      owes = not_true (s.owes r) (λ o. none_full r here ((still.senders r here i).port.owes o))

      merges : s.merges r ≡ false
      merges = not_true (s.merges r) (λ o. none_full r here ((still.senders r here i).port.merges o))

  -- and nothing behind any: all that was sent was received
  pub quiet_receiver : (r : ℕ) → r < stages.rings → stages.goes_out r ≡ false → IsQuietReceiver stages s r
  quiet_receiver r here o = record { holds = is_none (s.holds r) holds_no; received = λ i. received i (is_ended s r) refl; ended = λ i. ended i (is_ended s r) refl }
    where
      holds_no : (p : ℕ) → s.holds r ≡ Some p → ⊥
      holds_no p h = let held = (still.receivers r here o).held p h in none_full p held.0 held.2

      empty_by : (s.empty r ≡ true) ⊎ (((p : ℕ) × (s.holds r ≡ Some p)) ⊎ IsReceiverBlocked stages s r) → s.empty r ≡ true
      empty_by (inl e) = e
      empty_by (inr (inl (p, h))) = absurd (holds_no p h)
      empty_by (inr (inr b)) = absurd (none_full b.by b.is_ring b.full)

      received : stages.comes_in r ≡ false → (b : Bool) → is_ended s r ≡ b → s.at.received r ≡ s.at.sent r
      received i true e = closed_link s.at r (still.rings r here i o).link e
      received i false e =
          let ring = still.rings r here i o in
          whole_prefix ring.link.in_order (ring.empty (empty_by ((still.receivers r here o).drained e)))

      ended : stages.comes_in r ≡ true → (b : Bool) → is_ended s r ≡ b → is_ended s r ≡ true
      ended i true e = e
      ended i false e = let something = (still.wires r here).in_not_empty i in let empty = empty_by ((still.receivers r here o).drained e) in cc

  module _ (none_waits : (r : ℕ) → r < stages.rings → s.waits r ≡ false) where
    -- from the first stage on: where all rings from earlier stages are done, so is this one
    next_finished : (r : ℕ) → r < stages.rings → ((p : ℕ) → p < stages.rings → stages.from p < stages.from r → IsFinished stages s p) → IsFinished stages s r
    next_finished r here earlier = record { closed = close_sent; ended = λ o. got o (stages.comes_in r) refl }
      where
        by_host : stages.comes_in r ≡ false → (b : Bool) → stages.leaves_host r ≡ b → s.told r ≡ true
        by_host i true h = by_told (s.told r) refl
          where
            by_cause : (s.waits r ≡ true) ⊎ (s.full r ≡ true) → s.told r ≡ true
            by_cause (inl w) = let never = none_waits r here in cc
            by_cause (inr f) = absurd (none_full r here f)

            by_told : (b : Bool) → s.told r ≡ b → s.told r ≡ true
            by_told true t = t
            by_told false t = by_cause ((still.senders r here i).host h t)
        by_host i false h = (still.senders r here i).node h
            (λ p ring o at. let up = (still.rising p ring).rises in ((earlier p ring (omega arith)).ended o, (quiet_receiver p ring o).holds))

        close_sent : stages.comes_in r ≡ false → is_closed s r ≡ true
        close_sent i = let quiet = quiet_sender r here i in (still.senders r here i).port.closed (by_host i (stages.leaves_host r) refl) quiet.owes quiet.merges

        got : stages.goes_out r ≡ false → (b : Bool) → stages.comes_in r ≡ b → is_ended s r ≡ true
        got o true i = (quiet_receiver r here o).ended i
        got o false i = ap has_close ((quiet_receiver r here o).received i) ∙ close_sent i

    finished_below : (n r : ℕ) → r < stages.rings → stages.from r < n → IsFinished stages s r
    finished_below zero r here near = absurd (omega arith)
    finished_below (suc n) r here near = next_finished r here (λ p ring before. finished_below n p ring (omega arith))

    pub finished : (r : ℕ) → r < stages.rings → IsFinished stages s r
    finished r here = finished_below (suc (stages.from r)) r here (omega arith)

  some_waits : (n : ℕ) → n ≤ stages.rings → ((r : ℕ) → r < n → s.waits r ≡ false) ⊎ IsHostWaiting stages s
  some_waits zero below = inl (λ r here. absurd (omega arith))
  some_waits (suc n) below = by_last (s.waits n) refl (some_waits n (omega arith))
    where
      by_last : (b : Bool) → s.waits n ≡ b → ((r : ℕ) → r < n → s.waits r ≡ false) ⊎ IsHostWaiting stages s → ((r : ℕ) → r < suc n → s.waits r ≡ false) ⊎ IsHostWaiting stages s
      by_last b t (inr w) = inr w
      by_last true t (inl none) = inr (record { at = n; is_ring = omega arith; waits = t })
      by_last false t (inl none) = inl (λ r here. elim (cases_lt r n) as (λ c. s.waits r ≡ false) [ inl inside ↦ none r inside | inr beyond ↦ ap s.waits (let same : r ≡ n = omega arith in same) ∙ t ])

  -- a host waits, or each ring is done
  pub end_or_wait : ((r : ℕ) → r < stages.rings → IsFinished stages s r) ⊎ IsHostWaiting stages s
  end_or_wait = by_wait (some_waits stages.rings (omega arith))
    where
      by_wait : ((r : ℕ) → r < stages.rings → s.waits r ≡ false) ⊎ IsHostWaiting stages s → ((r : ℕ) → r < stages.rings → IsFinished stages s r) ⊎ IsHostWaiting stages s
      by_wait (inl none) = inl (finished none)
      by_wait (inr w) = inr w
