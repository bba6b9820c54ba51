-- Two sound messages are sound together: the first one, which doesn't end its transaction, ends before its page does.
use Rattle.std.proofs.Common.{◌≡◌, ◌≤◌, ◌<◌, ℕ, ◌+◌, ◌*◌, ◌%◌, ◌^◌, refl, arith, false, true, Bool}
use Rattle.std.specs.Prelude.{◌≢◌, if◌then◌else◌}
use Rattle.std.proofs.Math.Nat.{mul-le-mul_right, one-le-pow}
use Rattle.sb_packet.specs.Messages.{Message, message_span}
use Rattle.sb_packet.specs.Journals.{is_request}
use Rattle.sb_packet.specs.Cuts.{device_place, reply_place, IsSound, IsFine}
use Rattle.sb_cut.specs.Merges.{merge, AreMergeable}
use Rattle.sb_cut.proofs.MergedWords.{whole_merge, merge_is_narrow}

abbrev chosen : Bool → ℕ → ℕ → ℕ
chosen b x y = if b then x else y

-- both addresses are raised alike
raised : (b : Bool) (x y k : ℕ) → chosen b (x + k) (y + k) ≡ chosen b x y + k
raised true x y k = refl
raised false x y k = refl

-- bytes that end within a page and not at its border end before it
ends_before : (place bytes : ℕ) → place % 4096 + bytes ≤ 4096 → (place + bytes) % 4096 ≢ 0 → place % 4096 + bytes < 4096
ends_before place bytes within border = omega arith

within_page : (place bytes : ℕ) → place % 4096 + bytes < 4096 → (place + bytes) % 4096 ≡ place % 4096 + bytes
within_page place bytes h = omega arith

-- a message has bytes
pub some_bytes : (count size : ℕ) → 0 < count → 0 < count * 2 ^ size
some_bytes count size some =
    let word : 1 ≤ 2 ^ size = one-le-pow size 2 (omega arith) in
    let more : 1 * 2 ^ size ≤ count * 2 ^ size = mul-le-mul_right (2 ^ size) some in
    omega arith

-- where the second begins: behind the first, at the device and where it is answered
pub place_behind : (width : ℕ) (a b : Message) → AreMergeable width a b → device_place b ≡ device_place a + message_span a
place_behind width a b can = rw (← can.op, can.dst, can.src) (raised (is_request a.op) a.dst a.src (message_span a))

pub reply_behind : (width : ℕ) (a b : Message) → AreMergeable width a b → reply_place b ≡ reply_place a + message_span a
reply_behind width a b can = rw (← can.op, can.dst, can.src) (raised (is_request a.op) a.src a.dst (message_span a))

pub sound_merge : (width : ℕ) (a b : Message) → AreMergeable width a b → IsSound a → IsSound b → 0 < b.count → IsSound (merge a b)
sound_merge width a b can first second some =
    let s = 2 ^ a.size in
    let place = place_behind width a b can in
    let reply = reply_behind width a b can in
    let page_a : device_place a % 4096 + a.count * s ≤ 4096 = first.page in
    let page_b : (device_place a + a.count * s) % 4096 + b.count * s ≤ 4096 = rw (← place, can.size) second.page in
    let border : (device_place a + a.count * s) % 4096 ≢ 0 = first.border can.unended in
    let before : device_place a % 4096 + a.count * s < 4096 = ends_before (device_place a) (a.count * s) page_a border in
    let exact : (device_place a + a.count * s) % 4096 ≡ device_place a % 4096 + a.count * s = within_page (device_place a) (a.count * s) before in
    let sum : (a.count + b.count) * s ≡ a.count * s + b.count * s = omega arith in
    let page : device_place a % 4096 + (a.count + b.count) * s ≤ 4096 = omega (arith, exact, page_b, sum) in
    let ends : device_place a + (a.count + b.count) * s ≡ device_place b + b.count * 2 ^ b.size = rw (place, ← can.size) (omega arith) in
    let high_b : reply_place a + a.count * s + b.count * s ≤ (a.host + 1) * 2 ^ 40 = rw (← reply, can.host, can.size) second.high in
    record {
      page = page;
      border = λ e. rw ends (second.border e);
      low = first.low;
      high = omega (arith, high_b, sum);
      exclusive = λ e. absurd (let shared : a.ex ≡ false = can.first_shared in cc);
    }

-- What a link may carry, it may carry together.
pub fine_merge : (width : ℕ) (a b : Message) → AreMergeable width a b → IsFine width a → IsFine width b → IsFine width (merge a b)
fine_merge width a b can first second = record {
  sound = sound_merge width a b can first.sound second.sound second.whole.some;
  whole = whole_merge width a b can first.whole second.whole;
  narrow = merge_is_narrow width a b can;
}
