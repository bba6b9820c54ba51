-- A transaction that six draws make can be issued.
use Rattle.std.proofs.Common.{◌≡◌, ◌≤◌, ◌<◌, ℕ, zero, suc, ◌+◌, ◌-◌, ◌*◌, ◌/◌, ◌%◌, ◌^◌, length, refl, arith}
use Rattle.std.proofs.lemmas.List.FromFn.{length-map-range_with_len}
use Rattle.sb_packet.specs.Scripts.{HasBody, IsOneWordIfAtomic, IsTransaction}
use Rattle.sb_packet.specs.declared.transaction.Kind.{Kind}
use Rattle.sb_packet.specs.declared.transaction.Kind.TheVariants.{Atomic, Posted, Read, Write}
use Rattle.sb_gen.specs.Drawn.{body_of_kind, drawn_kind, drawn_count, drawn_span, drawn_transaction, rising_bytes, words_of_kind}
use Rattle.sb_gen.specs.declared.draws.Draws.{Draws}

-- 1 to 16 words
pub some_words : (kind : Kind) (draw : ℕ) → 0 < words_of_kind kind draw
some_words Read draw = omega arith
some_words Write draw = omega arith
some_words Posted draw = omega arith
some_words (Atomic atomic) draw = omega arith

pub few_words : (kind : Kind) (draw : ℕ) → words_of_kind kind draw ≤ 16
few_words Read draw = omega arith
few_words Write draw = omega arith
few_words Posted draw = omega arith
few_words (Atomic atomic) draw = omega arith

one_word : (kind : Kind) (draw : ℕ) → IsOneWordIfAtomic kind (words_of_kind kind draw)
one_word Read draw = tt
one_word Write draw = tt
one_word Posted draw = tt
one_word (Atomic atomic) draw = refl

-- so many bytes
length-rising_bytes : (first span : ℕ) → length (rising_bytes first span) ≡ span
length-rising_bytes first span = length-map-range_with_len (λ j. (first + j) % 256) 0 span

whole_body : (kind : Kind) (first span : ℕ) → HasBody kind span (body_of_kind kind first span)
whole_body Read first span = refl
whole_body Write first span = length-rising_bytes first span
whole_body Posted first span = length-rising_bytes first span
whole_body (Atomic atomic) first span = length-rising_bytes first span

-- where a transaction of so many words of 2 ^ size bytes lies, from a device's page on
pub record IsPlaced (base page size count place : ℕ) : Type 0 where
  pub aligned : (1048576 * (base + 1) + 4096 * page + 2 ^ size * place) % 2 ^ size ≡ 0
  pub inside : (1048576 * (base + 1) + 4096 * page + 2 ^ size * place) % 4096 + count * 2 ^ size ≤ 4096
  pub low : 1048576 * (base + 1) + 4096 * page + 2 ^ size * place < 2 ^ 56
  pub small : count * 2 ^ size ≤ 128

placed : (base page size count draw : ℕ) → base < 4 → page < 16 → size ≤ 3 → 0 < count → count ≤ 16 → IsPlaced base page size count (draw % (4096 / 2 ^ size - count + 1))
placed base page zero count draw hb hp hs some few = record { aligned = omega arith; inside = omega arith; low = omega arith; small = omega arith }
placed base page (suc zero) count draw hb hp hs some few = record { aligned = omega arith; inside = omega arith; low = omega arith; small = omega arith }
placed base page (suc (suc zero)) count draw hb hp hs some few = record { aligned = omega arith; inside = omega arith; low = omega arith; small = omega arith }
placed base page (suc (suc (suc zero))) count draw hb hp hs some few = record { aligned = omega arith; inside = omega arith; low = omega arith; small = omega arith }
placed base page (suc (suc (suc (suc more)))) count draw hb hp hs some few = absurd (omega arith)

pub drawn_place : (d : Draws) → IsPlaced (d.device % 4) (d.page % 16) (d.size % 4) (drawn_count d) (d.place % (4096 / 2 ^ (d.size % 4) - drawn_count d + 1))
drawn_place d = placed (d.device % 4) (d.page % 16) (d.size % 4) (drawn_count d) d.place (omega arith) (omega arith) (omega arith) (some_words (drawn_kind d) d.words) (few_words (drawn_kind d) d.words)

pub drawn_is_transaction : (d : Draws) → IsTransaction (drawn_transaction d)
drawn_is_transaction d =
    let place = drawn_place d in
    let few = few_words (drawn_kind d) d.words in
    record {
      size = omega arith;
      some = some_words (drawn_kind d) d.words;
      most = omega arith;
      atomic = one_word (drawn_kind d) d.words;
      body = whole_body (drawn_kind d) d.kind (drawn_span d);
      aligned = place.aligned;
      page = place.inside;
      range = place.low;
    }
