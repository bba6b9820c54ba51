-- The packets of a transaction lie within it, so the ring from its host is made for them.
use Rattle.std.proofs.Common.{◌≡◌, ◌≤◌, ◌<◌, ℕ, zero, suc, ◌+◌, ◌-◌, ◌*◌, ◌^◌, Bool, true, false, cond, [], ◌∷◌, refl, ap, ◌∙◌, arith}
use Rattle.std.specs.Prelude.{◌||◌, All}
use Rattle.std.proofs.Math.Nat.{mul-le-mul_right}
use Rattle.std.proofs.lemmas.List.Elements.{All-cons, All-nil, All-weaker}
use Rattle.sb_packet.specs.Cuts.{cut_parts, first_part, is_one_part, other_parts, parts_in, words_in}
use Rattle.sb_packet.specs.Messages.{Message, message_span}
use Rattle.sb_packet.proofs.CutWords.{more_than_fit}

-- a message asks for some of the bytes of another
pub record IsPart (whole part : Message) : Type 0 where
  pub op : part.op ≡ whole.op
  pub host : part.host ≡ whole.host
  pub some : 0 < part.count
  pub size : part.size ≡ whole.size
  pub from : whole.dst ≤ part.dst
  pub to : part.dst + message_span part ≤ whole.dst + message_span whole

part_of_itself : (m : Message) → 0 < m.count → IsPart m m
part_of_itself m some = record { op = refl; host = refl; some = some; size = refl; from = omega arith; to = omega arith }

part_of_part : (x y z : Message) → IsPart x y → IsPart y z → IsPart x z
part_of_part x y z a b = record {
  op = b.op ∙ a.op;
  host = b.host ∙ a.host;
  some = b.some;
  size = b.size ∙ a.size;
  from = let one = a.from in let two = b.from in omega (arith, one, two);
  to = let one = a.to in let two = b.to in omega (arith, one, two);
}

wide : (a b : Bool) → (a || b) ≡ false → b ≡ false
wide true b e = absurd (cc)
wide false b e = e

first_is_part : (width : ℕ) (m : Message) → 0 < words_in width m → words_in width m < m.count → IsPart m (first_part width m)
first_is_part width m word less = record {
  op = refl;
  host = refl;
  some = word;
  size = refl;
  from = omega arith;
  to = let fits : words_in width m * 2 ^ m.size ≤ m.count * 2 ^ m.size = mul-le-mul_right (2 ^ m.size) (omega (arith, less)) in omega (arith, fits);
}

others_are_part : (width : ℕ) (m : Message) → words_in width m < m.count → IsPart m (other_parts width m)
others_are_part width m less = record {
  op = refl;
  host = refl;
  some = omega (arith, less);
  size = refl;
  from = omega arith;
  to =
      let back : words_in width m + (m.count - words_in width m) ≡ m.count = omega (arith, less) in
      let spread : (words_in width m + (m.count - words_in width m)) * 2 ^ m.size ≡ m.count * 2 ^ m.size = ap (λ (n : ℕ). n * 2 ^ m.size) back in
      omega (arith, spread);
}

parts_are_within : (n width : ℕ) (m : Message) → 0 < m.count → 0 < words_in width m → All (IsPart m) (parts_in n width m)
parts_are_within zero width m some word = All-cons (IsPart m) m [] (part_of_itself m some) (All-nil (IsPart m))
parts_are_within (suc n) width m some word = by_test (is_one_part width m) refl (λ less. parts_are_within n width (other_parts width m) (omega (arith, less)) word)
  where
    by_test : (b : Bool) → is_one_part width m ≡ b → (words_in width m < m.count → All (IsPart (other_parts width m)) (parts_in n width (other_parts width m))) → All (IsPart m) (cond b (m ∷ []) (first_part width m ∷ parts_in n width (other_parts width m)))
    by_test true e later = All-cons (IsPart m) m [] (part_of_itself m some) (All-nil (IsPart m))
    by_test false e later =
        let less = more_than_fit width m e in
        All-cons (IsPart m) (first_part width m) (parts_in n width (other_parts width m)) (first_is_part width m word less)
        (All-weaker (IsPart (other_parts width m)) (IsPart m) (λ p part. part_of_part m (other_parts width m) p (others_are_part width m less) part) (parts_in n width (other_parts width m)) (later less))

-- All parts of a message lie within it.
pub parts_lie_within : (width : ℕ) (m : Message) → 0 < m.count → 0 < words_in width m → All (IsPart m) (cut_parts width m)
parts_lie_within width m some word = parts_are_within m.count width m some word
