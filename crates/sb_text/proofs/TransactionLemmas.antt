-- How long the body of a transaction is.
use Rattle.std.proofs.Common.{◌≡◌, ◌<◌, ◌*◌, ◌^◌, ℕ, List, length, Some, Ok, arith}
use Rattle.std.proofs.lemmas.Bool.Decides.{nat_tests}
use Rattle.std.proofs.Math.Pow.{pow_pos}
use Rattle.sb_packet.specs.Scripts.{HasBody}
use Rattle.sb_packet.specs.declared.transaction.Kind.{Kind}
use Rattle.sb_packet.specs.declared.transaction.Kind.TheVariants.{Read, Write, Posted, Atomic}
use Rattle.sb_text.specs.Sentences.{body_of, count_of, whole_words}

-- as many whole words as the bytes fill are as long as the bytes
whole : (size : ℕ) (body : List ℕ) (count : ℕ) → whole_words size body ≡ Some count → length body ≡ count * 2 ^ size
whole size body count h = let some : 0 < 2 ^ size = pow_pos size in grind (arith, nat_tests)

-- a transaction's body is as long as its words, where it has one
pub has_body : (kind : Kind) (size told : ℕ) (last body : List ℕ) (count : ℕ) → body_of kind last ≡ Ok body → count_of kind size told body ≡ Some count → HasBody kind (count * 2 ^ size) body
has_body Read size told last body count brought counted = cc
has_body Write size told last body count brought counted = whole size body count counted
has_body Posted size told last body count brought counted = whole size body count counted
has_body (Atomic atomic) size told last body count brought counted = whole size body count counted
