-- The rings of the tests' network are made for its device.
use Rattle.std.proofs.Common.{◌≡◌, ℕ, zero, suc, ◌-◌, ◌*◌, Bool, true, false, true≢false, List, [], ◌++◌, length, refl, sym, ap, ◌∙◌, subst}
use Rattle.std.specs.Prelude.{Option, Some, drop, replicate, slice_index_or}
use Rattle.std.proofs.lemmas.List.{length-replicate}
use Rattle.sb_packet.specs.Memories.{MemoryState}
use Rattle.sb_link.specs.RingPlans.{AddressRange, RingPlan}
use Rattle.sb_flow.specs.Rings.{flow_table, ring_plan, ring_ways}
use Rattle.sb_link.proofs.Truths.{none_set, none_in_row}
use Rattle.sb_device.specs.Plans.{IsPlannedFor}
use Rattle.sb_tests.specs.Samples.{sample}

-- which flows go over the device's rings
abbrev sample_table : List (List Bool)
sample_table = flow_table (ring_ways sample 2)

-- only the first host's flow to the first device does
sample_own : (h d : ℕ) → slice_index_or (slice_index_or sample_table h []) d false ≡ true → d ≡ 0
sample_own h zero e = refl
sample_own zero (suc d) e = absurd (true≢false (sym e ∙ none_set (drop 1 (slice_index_or sample_table 0 [])) d refl))
sample_own (suc h) (suc d) e = absurd (true≢false (sym e ∙ none_set (slice_index_or (drop 1 sample_table) h []) (suc d) (none_in_row (drop 1 sample_table) h refl)))

-- a range
abbrev the_range : ℕ → ℕ → Option AddressRange
the_range base bytes = Some (record { base = base; bytes = bytes })

-- no bytes
abbrev no_bytes : List ℕ
no_bytes = []

-- an empty page at 4,096
page_at : (m : MemoryState) → m ≡ record { base = 4096; bytes = no_bytes ++ replicate (1 * 4096 - length no_bytes) 0; readonly = false } → the_range 4096 4096 ≡ the_range m.base (length m.bytes)
page_at m is = sym (ap (the_range 4096) (length-replicate {A = ℕ} (1 * 4096 - length no_bytes) 0)) ∙ sym (ap (λ (m : MemoryState). the_range m.base (length m.bytes)) is)

-- the device's rings are made for it
pub planned_for : (m : MemoryState) (requests answers : RingPlan) → requests ≡ ring_plan sample 2 → answers ≡ ring_plan sample 3 → m ≡ record { base = 4096; bytes = no_bytes ++ replicate (1 * 4096 - length no_bytes) 0; readonly = false } → IsPlannedFor 0 m requests answers
planned_for m requests answers down up is =
    subst (λ (r : RingPlan). IsPlannedFor 0 m r answers) (sym down) (subst (λ (a : RingPlan). IsPlannedFor 0 m (ring_plan sample 2) a) (sym up) (record {
      down = refl;
      up = refl;
      flows = refl;
      own = λ f through. sample_own f.host f.device through;
      range = page_at m is;
    }))
