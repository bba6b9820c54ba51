-- What a device's rings carry: a request of one of their flows lies in the device's memory, and its answer is of the same flow.
use Rattle.std.proofs.Common.{◌≡◌, ℕ, zero, suc, ◌+◌, ◌*◌, ◌/◌, ◌^◌, ◌<◌, ◌≤◌, Bool, true, false, true≢false, cond, List, [], ◌∷◌, length, refl, sym, ap, ◌∙◌, arith, eq-eqb}
use Rattle.std.specs.Prelude.{nat_le, not, Option, Some, None, slice_get}
use Rattle.std.specs.List.{position_from}
use Rattle.std.specs.Option.{option_map, option_map_or}
use Rattle.std.proofs.Math.Nat.{mul-le-mul_right}
use Rattle.std.proofs.lemmas.Bool.{leb-true, and_parts}
use Rattle.std.proofs.Math.Pow.{pow_pos}
use Rattle.sb_packet.specs.Messages.{Message, message_of, message_span}
use Rattle.sb_packet.specs.Journals.{is_request}
use Rattle.sb_packet.specs.Memories.{MemoryState}
use Rattle.sb_packet.specs.Cuts.{IsSound, device_place, reply_place}
use Rattle.sb_link.specs.RingPlans.{RingPlan, RingFlows, holds_span, device_ranges, goes_through, goes_home, message_flow, is_allowed}
use Rattle.sb_link.specs.Traffic.{IsPlanned}
use Rattle.sb_packet.specs.declared.packet.Packet.{Packet}
use Rattle.sb_packet.proofs.Opcodes.{some_words}
use Rattle.sb_mem.specs.AnswerPackets.{IsAnswerTo, IsInRange}
use Rattle.sb_device.specs.Plans.{IsPlannedFor}
use Rattle.sb_device.proofs.SoundAnswers.{not_asked, there, answered_span, sound_answer}

-- the first place that passes a test isn't before the first place of the list
place_from : {A : Type 0} (test : A → Bool) (i k : ℕ) (xs : List A) → position_from test i xs ≡ Some k → i ≤ k
place_from test i k [] e = let no_way : ⊥ = cc in absurd no_way
place_from test i k (x ∷ xs) e = by_test (test x) (λ later. place_from test (i + 1) k xs later) e where
  by_test : (b : Bool) → (position_from test (i + 1) xs ≡ Some k → i + 1 ≤ k) → cond b (Some i) (position_from test (i + 1) xs) ≡ Some k → i ≤ k
  by_test true more e = let same : i ≡ k = cc in omega arith
  by_test false more e = let later = more e in omega arith

-- what stands at the first place that passes a test passes it
place_passes : {A : Type 0} (test : A → Bool) (i j k : ℕ) (xs : List A) (x : A) → position_from test i xs ≡ Some k → k ≡ i + j → slice_get xs j ≡ Some x → test x ≡ true
place_passes test i j k [] x e at is = let no_way : ⊥ = cc in absurd no_way
place_passes test i zero k (y ∷ ys) x e at is = by_test (test y) refl e where
  by_test : (b : Bool) → test y ≡ b → cond b (Some i) (position_from test (i + 1) ys) ≡ Some k → test x ≡ true
  by_test true passes e = let same : y ≡ x = cc in ap test (sym same) ∙ passes
  by_test false fails e = let more = place_from test (i + 1) k ys e in absurd (omega arith)
place_passes test i (suc j) k (y ∷ ys) x e at is = by_test (test y) (λ later. place_passes test (i + 1) j k ys x later (omega arith) is) e where
  by_test : (b : Bool) → (position_from test (i + 1) ys ≡ Some k → test x ≡ true) → cond b (Some i) (position_from test (i + 1) ys) ≡ Some k → test x ≡ true
  by_test true more e = let same : i ≡ k = cc in absurd (omega arith)
  by_test false more e = more e

-- a flow that goes through, found by the place of its device
found_flow : (flows : RingFlows) (host : ℕ) (found : Option ℕ) → option_map_or (goes_through flows) (option_map (λ d. record { host = host; device = d }) found) false ≡ true
    → (d : ℕ) × (found ≡ Some d) × (goes_through flows (record { host = host; device = d }) ≡ true)
found_flow flows host None e = absurd (true≢false (sym e))
found_flow flows host (Some d) e = (d, refl, e)

-- the flow of a message that goes home
home_flow : (flows : RingFlows) (m : Message) → goes_home m ≡ true
    → message_flow flows m ≡ option_map (λ d. record { host = m.host; device = d }) (position_from (holds_span (device_place m) (message_span m)) 0 (device_ranges flows))
home_flow flows m home = rw home refl

-- a request is counted as going home
request_goes_home : (m : Message) → is_request m.op ≡ true → goes_home m ≡ true
request_goes_home m asked = rw asked refl

-- an address among those of a host tells the host
home_of : (place host : ℕ) → host * 2 ^ 40 ≤ place → place < (host + 1) * 2 ^ 40 → place / 2 ^ 40 ≡ host
home_of place host low high = omega arith

-- a request of one of the flows lies in the memory of the device that they lead to
pub request_in_range : (number : ℕ) (memory : MemoryState) (requests answers : RingPlan) (p : Packet) → IsPlannedFor number memory requests answers
    → IsPlanned requests (message_of p) → is_request p.cmd.op ≡ true → IsInRange memory p
request_in_range number memory requests answers p made planned asked =
    let m = message_of p in
    let e = sym (ap (λ flow. option_map_or (goes_through requests.flows) flow false) (home_flow requests.flows m (request_goes_home m asked))) ∙ planned.allowed in
    let f = found_flow requests.flows m.host (position_from (holds_span (device_place m) (message_span m)) 0 (device_ranges requests.flows)) e in
    let own : f.0 ≡ number = made.own (record { host = m.host; device = f.0 }) f.2 in
    let holds = place_passes (holds_span (device_place m) (message_span m)) 0 number f.0 (device_ranges requests.flows) (record { base = memory.base; bytes = length memory.bytes }) f.1 (omega arith) made.range in
    let place : device_place m ≡ p.dst = rw asked refl in
    let h = and_parts (nat_le memory.base (device_place m)) (nat_le (device_place m + message_span m) (memory.base + length memory.bytes)) holds in
    let low = leb-true memory.base (device_place m) h.0 in
    let high = leb-true (device_place m + message_span m) (memory.base + length memory.bytes) h.1 in
    record { low = omega (arith, low, place); high = omega (arith, high, place) }

-- a message speaks of some byte
some_span : (p : Packet) → 0 < message_span (message_of p)
some_span p = let words = some_words p.cmd.op p.cmd.len in let bytes : 0 < 2 ^ p.cmd.size = pow_pos p.cmd.size in
    let least = mul-le-mul_right (2 ^ p.cmd.size) words in omega (arith, bytes, least)

-- a sound answer goes back among the addresses of its host
answer_goes_home : (a : Packet) → is_request a.cmd.op ≡ false → IsSound (message_of a) → goes_home (message_of a) ≡ true
answer_goes_home a answers sound =
    let m = message_of a in
    let place : reply_place m ≡ a.dst = rw answers refl in
    let low = sound.low in
    let high = sound.high in
    let some = some_span a in
    let home : a.dst / 2 ^ 40 ≡ a.cmd.host = home_of a.dst a.cmd.host (omega (arith, place, low)) (omega (arith, place, high, some)) in
    rw answers (eq-eqb (a.dst / 2 ^ 40) a.cmd.host home)

-- two messages are of one flow where they are of one host and lie alike at the device
same_flow : (flows : RingFlows) (m n : Message) → goes_home m ≡ true → goes_home n ≡ true → n.host ≡ m.host → device_place n ≡ device_place m → message_span n ≡ message_span m
    → message_flow flows n ≡ message_flow flows m
same_flow flows m n home_m home_n host place span =
    home_flow flows n home_n
    ∙ ap (λ h. option_map (λ d. record { host = h; device = d }) (position_from (holds_span (device_place n) (message_span n)) 0 (device_ranges flows))) host
    ∙ ap (λ x. option_map (λ d. record { host = m.host; device = d }) (position_from (holds_span x (message_span n)) 0 (device_ranges flows))) place
    ∙ ap (λ x. option_map (λ d. record { host = m.host; device = d }) (position_from (holds_span (device_place m) x) 0 (device_ranges flows))) span
    ∙ sym (home_flow flows m home_m)

-- the answer to a sound request of one of the flows may go back by the other ring
pub answer_planned : (number : ℕ) (memory : MemoryState) (requests answers : RingPlan) (p a : Packet) → IsPlannedFor number memory requests answers
    → IsPlanned requests (message_of p) → is_request p.cmd.op ≡ true → IsAnswerTo p a → IsSound (message_of p) → IsPlanned answers (message_of a)
answer_planned number memory requests answers p a made planned asked answer sound =
    let replies = not_asked p a asked answer in
    let flow = same_flow requests.flows (message_of p) (message_of a) (request_goes_home (message_of p) asked) (answer_goes_home a replies (sound_answer p a asked answer sound))
    answer.host (there p a asked answer) (answered_span p a asked answer) in
    record {
      direction = replies ∙ ap not (sym made.up);
      allowed = ap (λ flows. is_allowed flows (message_of a)) made.flows ∙ ap (λ f. option_map_or (goes_through requests.flows) f false) flow ∙ planned.allowed;
    }
