-- The example's device is whole, fresh, halfway and at the end.
use Rattle.std.proofs.Common.{◌≡◌, lit≤, lit<, ℕ, zero, suc, true≢false, [], refl, sym, ◌∙◌}
use Rattle.std.specs.Prelude.{drop, false, true, slice_index_or}
use Rattle.std.proofs.lemmas.List.Elements.{All-nil, All-from_recursion}
use Rattle.sb_packet.specs.Memories.{memory_after}
use Rattle.sb_packet.specs.Networks.{opening_memory}
use Rattle.sb_flow.specs.Rings.{ring_plan}
use Rattle.sb_link.proofs.Truths.{none_set, none_in_row}
use Rattle.sb_device.specs.Devices.{IsWholeDevice}
use Rattle.sb_device.specs.Plans.{IsPlannedFor}
use Rattle.sb_device.specs.Served.{entry_accesses}
use Rattle.sb_laws.proofs.ExampleNetwork.{small, steps}
use Rattle.sb_laws.proofs.ExampleRun.{the_end}
use Rattle.sb_laws.proofs.ExampleHalfway.{halfway, first_step}
use Rattle.sb_laws.proofs.ExampleNodes.{fresh, device_in}
use Rattle.sb_laws.proofs.ExamplePorts.{end_is_settled, fresh_is_settled, halfway_is_settled, is_fit}
use Rattle.sb_laws.proofs.ExampleRouter.{small_table}

-- all flows over its rings are to it
own : (h d : ℕ) → slice_index_or (slice_index_or small_table h []) d false ≡ true → d ≡ 0
own h zero e = refl
own zero (suc d) e = absurd (true≢false (sym e ∙ none_set (drop 1 (slice_index_or small_table 0 [])) d refl))
own (suc h) (suc d) e = absurd (true≢false (sym e ∙ none_set (slice_index_or (drop 1 small_table) h []) (suc d) (none_in_row (drop 1 small_table) h refl)))

planned_fresh : IsPlannedFor 0 (opening_memory small 0) (ring_plan small 2) (ring_plan small 3)
planned_fresh = record { down = refl; up = refl; flows = refl; own = λ f through. own f.host f.device through; range = refl }

planned_halfway : IsPlannedFor 0 (memory_after (opening_memory small 0) (entry_accesses first_step)) (ring_plan small 2) (ring_plan small 3)
planned_halfway = record { down = refl; up = refl; flows = refl; own = λ f through. own f.host f.device through; range = refl }

planned_at_end : IsPlannedFor 0 (memory_after (opening_memory small 0) (entry_accesses steps)) (ring_plan small 2) (ring_plan small 3)
planned_at_end = record { down = refl; up = refl; flows = refl; own = λ f through. own f.host f.device through; range = refl }

pub fresh_device_is_whole : IsWholeDevice (device_in fresh [] 3)
fresh_device_is_whole = record {
  fit = is_fit fresh fresh_is_settled 3 (lit< tt);
  in_order = record { planned = planned_fresh; journalled = refl; own_entries = All-nil (λ e. e.device ≡ 0); room = lit≤ tt; closes = refl };
}

pub halfway_device_is_whole : IsWholeDevice (device_in halfway first_step 2)
halfway_device_is_whole = record {
  fit = is_fit halfway halfway_is_settled 3 (lit< tt);
  in_order = record { planned = planned_halfway; journalled = refl; own_entries = All-from_recursion (λ e. e.device ≡ 0) first_step (refl, tt); room = lit≤ tt; closes = refl };
}

pub end_device_is_whole : IsWholeDevice (device_in the_end steps 0)
end_device_is_whole = record {
  fit = is_fit the_end end_is_settled 3 (lit< tt);
  in_order = record { planned = planned_at_end; journalled = refl; own_entries = All-from_recursion (λ e. e.device ≡ 0) steps (refl, (refl, (refl, tt))); room = lit≤ tt; closes = refl };
}
