-- What holds of each opcode: how many words it speaks of, and whether it carries them.
use Rattle.std.proofs.Common.{◌≡◌, ◌<◌, ℕ, refl, arith, true, false, None, inl, inr}
use Rattle.std.specs.Prelude.{◌⊎◌}
use Rattle.sb_word.specs.declared.command.Op.{Op}
use Rattle.sb_word.specs.declared.command.Op.TheVariants.{ReqRd, ReqWr, ReqWrPosted, ReqAtomic, RespRd, RespWr}
use Rattle.sb_packet.specs.Messages.{atomic_of}
use Rattle.sb_packet.specs.Spans.{carried_by, word_count_by}
use Rattle.sb_packet.specs.Cuts.{is_atomic}

-- each command is of a word
pub some_words : (op : Op) (len : ℕ) → 0 < word_count_by op len
some_words ReqRd len = omega arith
some_words ReqWr len = omega arith
some_words ReqWrPosted len = omega arith
some_words ReqAtomic len = omega arith
some_words RespRd len = omega arith
some_words RespWr len = omega arith

-- an atomic is of one
pub atomic_of_one_word : (op : Op) (len : ℕ) → is_atomic op ≡ true → word_count_by op len ≡ 1
atomic_of_one_word ReqAtomic len h = refl
atomic_of_one_word ReqRd len h = absurd (cc)
atomic_of_one_word ReqWr len h = absurd (cc)
atomic_of_one_word ReqWrPosted len h = absurd (cc)
atomic_of_one_word RespRd len h = absurd (cc)
atomic_of_one_word RespWr len h = absurd (cc)

-- nothing else is one of the atomics
pub no_atomic : (op : Op) (len : ℕ) → is_atomic op ≡ false → atomic_of op len ≡ None
no_atomic ReqAtomic len h = absurd (cc)
no_atomic ReqRd len h = refl
no_atomic ReqWr len h = refl
no_atomic ReqWrPosted len h = refl
no_atomic RespRd len h = refl
no_atomic RespWr len h = refl

-- a packet carries all that it speaks of, or nothing
pub carries_none_or_all : (op : Op) → ((n : ℕ) → carried_by op n ≡ 0) ⊎ ((n : ℕ) → carried_by op n ≡ n)
carries_none_or_all ReqRd = inl (λ n. refl)
carries_none_or_all RespWr = inl (λ n. refl)
carries_none_or_all ReqWr = inr (λ n. refl)
carries_none_or_all ReqWrPosted = inr (λ n. refl)
carries_none_or_all ReqAtomic = inr (λ n. refl)
carries_none_or_all RespRd = inr (λ n. refl)
