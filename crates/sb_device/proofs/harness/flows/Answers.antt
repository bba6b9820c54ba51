-- Only the lowest bit of each row is set.
use Rattle.std.proofs.Common.{◌≡◌, ◌⊎◌, inl, inr, ⊎_elim, ℕ, zero, suc, [], true, false, true≢false, refl, sym, ap, ◌∙◌}
use Rattle.std.specs.Prelude.{map, replicate, slice_index_or, ◌==◌, ◌/◌, ◌^◌, ◌%◌}
use Rattle.std.specs.List.{range_with_len}
use Rattle.sb_link.specs.Plans.{bits_of}
use Rattle.sb_link.proofs.Truths.{none_set}
use Rattle.sb_device.proofs.harness.flows.Goals as goal

-- each row is the bits of 1, or stands behind the last
each_row : (n h : ℕ) → (slice_index_or (map bits_of (replicate n 1)) h [] ≡ bits_of 1) ⊎ (slice_index_or (map bits_of (replicate n 1)) h [] ≡ [])
each_row zero h = inr refl
each_row (suc n) zero = inl refl
each_row (suc n) (suc h) = each_row n h

-- of the bits of 1 the first is set
first_set : (d : ℕ) → slice_index_or (bits_of 1) d false ≡ true → d ≡ 0
first_set zero e = refl
first_set (suc d) e = absurd (true≢false (sym e ∙ none_set (map (λ k. 1 / 2 ^ k % 2 == 1) (range_with_len 1 31)) d refl))

pub returns-clause-own : goal.returns-clause-own
returns-clause-own c = λ f through. ⊎_elim
    (λ row. first_set f.device (sym (ap (λ bits. slice_index_or bits f.device false) row) ∙ through))
    (λ row. absurd (true≢false (sym (sym (ap (λ bits. slice_index_or bits f.device false) row) ∙ through))))
    (each_row 32 f.host)
