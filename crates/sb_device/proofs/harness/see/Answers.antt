-- Both rings have the same flows, which lead to the device and its one page.
use Rattle.std.proofs.Common.{◌≡◌, ℕ, ◌+◌, ◌-◌, ◌*◌, List, [], ◌∷◌, ◌++◌, length, Bool, true, false, refl, sym, ap, ◌∙◌, subst, arith, length-append}
use Rattle.std.specs.Prelude.{Option, Some, replicate}
use Rattle.std.proofs.lemmas.List.{length-replicate}
use Rattle.sb_link.specs.PlanOf.{flows_of, plan_of}
use Rattle.sb_link.specs.declared.flows.Flows.{Flows}
use Rattle.sb_link.specs.declared.plan.LinkPlan.{LinkPlan}
use Rattle.sb_packet.specs.Memories.{MemoryState}
use Rattle.sb_link.specs.RingPlans.{AddressRange, RingPlan, NetFlow, device_ranges, goes_through}
use Rattle.std.specs.Prelude.{slice_get}
use Rattle.sb_device.specs.Plans.{IsPlannedFor}
use Rattle.sb_device.proofs.harness.see.Goals as goal

-- a range
abbrev the_range : ℕ → ℕ → Option AddressRange
the_range base bytes = Some (record { base = base; bytes = bytes })

-- a page at 0x1000
page_of : (m : MemoryState) (image : List ℕ) (r : Bool) → length image ≡ 1 → m ≡ record { base = 4096; bytes = image ++ replicate (1 * 4096 - length image) 0; readonly = r }
    → the_range 4096 4096 ≡ the_range m.base (length m.bytes)
page_of m image r one is =
    let whole : length (image ++ replicate (1 * 4096 - length image) 0) ≡ 4096 =
    length-append image (replicate (1 * 4096 - length image) 0) ∙ ap (λ n. length image + n) (length-replicate (1 * 4096 - length image) 0) ∙ omega (arith, one) in
    sym (ap (the_range 4096) whole) ∙ sym (ap (λ (m : MemoryState). the_range m.base (length m.bytes)) is)

planned_by : (m : MemoryState) (flows : Flows) (down up : LinkPlan) (requests answers : RingPlan) → requests ≡ plan_of down → answers ≡ plan_of up → down.up ≡ false → up.up ≡ true → down.flows ≡ flows → up.flows ≡ flows
    → ((f : NetFlow) → goes_through (flows_of flows) f ≡ true → f.device ≡ 0) → slice_get (device_ranges (flows_of flows)) 0 ≡ the_range m.base (length m.bytes)
    → IsPlannedFor 0 m requests answers
planned_by m flows down up requests answers is_down is_up goes_down goes_up down_flows up_flows own range =
    subst (λ r. IsPlannedFor 0 m r answers) (sym is_down) (subst (λ a. IsPlannedFor 0 m (plan_of down) a) (sym is_up) (record {
      down = goes_down;
      up = goes_up;
      flows = ap flows_of (up_flows ∙ sym down_flows);
      own = subst (λ fs. (f : NetFlow) → goes_through (flows_of fs) f ≡ true → f.device ≡ 0) (sym down_flows) own;
      range = ap (λ fs. slice_get (device_ranges (flows_of fs)) 0) down_flows ∙ range;
    }))

pub new-requires-2-clause-planned : goal.new-requires-2-clause-planned
new-requires-2-clause-planned g c κs within =
    planned_by c.in_ok-memory.memory c.flows-flows.result c.plan-down.result c.plan-up.result (g.F.Rx.RxEnd.planned c.in_ok-tx.requests_end) (g.F.Tx.TxEnd.planned c.in_ok-answers_end.answers_end)
    c.in_ok-tx.ensures.rx_plan c.in_ok-answers_end.ensures.tx_plan c.plan-down.ensures.up c.plan-up.ensures.up c.plan-down.ensures.flows c.plan-up.ensures.flows
    c.flows-flows.ensures.own (c.flows-flows.ensures.range ∙ page_of c.in_ok-memory.memory (7 ∷ []) c.args.course.readonly refl c.in_ok-memory.ensures)
