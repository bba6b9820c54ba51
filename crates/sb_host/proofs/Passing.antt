-- Each packet of a host may be offered at its turn.
use Rattle.std.proofs.Common.{◌≡◌, ◌≤◌, ◌<◌, ◌+◌, ℕ, zero, suc, arith, sym, ap, subst, ◌∙◌, length, List, [], ◌∷◌, ◌++◌, drop, true, false, length-append, append_assoc}
use Rattle.std.specs.Prelude.{All, flat_map, if◌then◌else◌}
use Rattle.std.proofs.lemmas.List.Elements.{All-nil, All-append, All-head, All-tail, All-drop, All-weaker}
use Rattle.std.proofs.lemmas.List.FromFn.{length-map-range_with_len}
use Rattle.sb_packet.specs.Accesses.{Access, access_at, message_accesses}
use Rattle.sb_packet.specs.Messages.{Message}
use Rattle.sb_link.specs.RingPlans.{RingPlan}
use Rattle.sb_packet.specs.Scripts.{IsTransaction}
use Rattle.sb_packet.specs.Cuts.{IsFine, IsSound, cut_parts}
use Rattle.sb_link.specs.Traffic.{IsPlanned, MayPass}
use Rattle.sb_packet.proofs.Lists.{All-right}
use Rattle.sb_packet.proofs.FineParts.{fine_cut, transaction_sound, transaction_whole}
use Rattle.sb_host.specs.declared.transaction_plan.TransactionPlan.{TransactionPlan}
use Rattle.sb_host.specs.Asked.{Asked, asked_accesses, asked_packets, line_message, packets_from, sent_packets}
use Rattle.sb_host.specs.Progress.{HasOffered, IsMadeFor, packets_left}
use Rattle.sb_host.specs.Places.{AreIssuable}

-- what holds of all packets holds of those from a transaction on
from_line : (P : Message → Type 0) (asked : Asked) (n i : ℕ) (lines : List TransactionPlan) → All P (packets_from asked i lines) → All P (packets_from asked (i + n) (drop n lines))
from_line P asked zero i lines all = let none : i + 0 ≡ i = omega arith in rw none all
from_line P asked (suc n) i [] all = All-nil P
from_line P asked (suc n) i (l ∷ lines) all =
    let next : i + suc n ≡ i + 1 + n = omega arith in
    rw next (from_line P asked n (i + 1) lines (All-right P (sent_packets asked i l) (packets_from asked (i + 1) lines) all))

-- what holds of all packets holds of those that are left
pub all_left : (P : Message → Type 0) (asked : Asked) (next part : ℕ) → All P (asked_packets asked) → All P (packets_left asked next part)
all_left P asked next part all =
    let here : 0 + next ≡ next = omega arith in
    All-drop P part (packets_from asked next (drop next asked.lines))
    (subst (λ (n : ℕ). All P (packets_from asked n (drop next asked.lines))) here (from_line P asked next 0 asked.lines all))

-- the packets of one transaction are sound
sound_line : (asked : Asked) (i : ℕ) (l : TransactionPlan) → IsTransaction l.txn → i < 65536 → All IsSound (sent_packets asked i l)
sound_line asked i l t few =
    elim (l.aimed) as (λ b. All IsSound (if b then cut_parts 32 (line_message asked i l) else [])) [
      | true ↦ All-weaker (IsFine 32) IsSound (λ m fine. fine.sound) (cut_parts 32 (line_message asked i l))
          (fine_cut 32 (line_message asked i l) (omega arith) (transaction_sound asked.id asked.qos asked.prot i l.txn t few) (transaction_whole asked.id asked.qos asked.prot i l.txn t))
      | false ↦ All-nil IsSound
    ]

sound_lines : (asked : Asked) (i : ℕ) (lines : List TransactionPlan) → All (λ l. IsTransaction l.txn) lines → i + length lines ≤ 65536 → All IsSound (packets_from asked i lines)
sound_lines asked i [] all few = All-nil IsSound
sound_lines asked i (l ∷ lines) all few =
    All-append IsSound (sent_packets asked i l) (packets_from asked (i + 1) lines)
    (sound_line asked i l (All-head (λ x. IsTransaction x.txn) l lines all) (omega arith))
    (sound_lines asked (i + 1) lines (All-tail (λ x. IsTransaction x.txn) l lines all) (omega arith))

-- the packets of a host are sound
pub sound_packets : (asked : Asked) → AreIssuable asked → All IsSound (asked_packets asked)
sound_packets asked is = let few = is.few in sound_lines asked 0 asked.lines is.lines (omega (arith, few))

-- The next packet may be offered.
pub next_passes : (asked : Asked) (plan : RingPlan) (next part : ℕ) (offered : List Access) (m : Message) (rest : List Message) → AreIssuable asked → IsMadeFor plan asked
    → HasOffered asked next part offered → packets_left asked next part ≡ m ∷ rest → MayPass plan (length offered) m
next_passes asked plan next part offered m rest issuable made so_far left = record {
  sound = All-head IsSound m rest (subst (All IsSound) left (all_left IsSound asked next part (sound_packets asked issuable)));
  planned = All-head (IsPlanned plan) m rest (subst (All (IsPlanned plan)) left (all_left (IsPlanned plan) asked next part made.planned));
  room =
      let words : length (message_accesses m) ≡ m.count = length-map-range_with_len (access_at m) 0 m.count in
      let whole : offered ++ (message_accesses m ++ flat_map message_accesses rest) ≡ asked_accesses asked =
      ap (λ (list : List Message). offered ++ flat_map message_accesses list) (sym left) ∙ so_far in
      let all = ap length whole in
      let first = length-append offered (message_accesses m ++ flat_map message_accesses rest) in
      let second = length-append (message_accesses m) (flat_map message_accesses rest) in
      let room = made.room in
      omega (arith, words, all, first, second, room);
}

-- What was offered, with the next packet, and the packets behind it are all words.
pub next_offered : (asked : Asked) (next part next_then part_then : ℕ) (offered : List Access) (m : Message) → HasOffered asked next part offered
    → packets_left asked next part ≡ m ∷ packets_left asked next_then part_then → HasOffered asked next_then part_then (offered ++ message_accesses m)
next_offered asked next part next_then part_then offered m so_far left =
    append_assoc offered (message_accesses m) (flat_map message_accesses (packets_left asked next_then part_then))
    ∙ ap (λ (list : List Message). offered ++ flat_map message_accesses list) (sym left) ∙ so_far
