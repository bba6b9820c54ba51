-- A transaction that takes a slot comes to the window, and one that takes none leaves it as it was.
use Rattle.std.proofs.Common.{◌≡◌, ◌+◌, false, true, sym, ap, subst, ◌∙◌, arith}
use Rattle.sb_host.specs.declared.window.Window.{Window}
use Rattle.sb_host.specs.Windows.{IsWindow, slots_taken, takes_slot_at}
use Rattle.sb_host.proofs.Slots.{slots_same, takes_by_line, window_more, window_moved, window_same}
use Rattle.sb_host.proofs.window.Window.go_beyond.Goals.{then-self-eq-WINDOW_SLOTS, else-self-eq-WINDOW_SLOTS}
use Rattle.sb_host.proofs.window.Window.go_beyond.Goals as goal

pub returns-then-not-takes_slot : goal.returns-then-not-takes_slot
returns-then-not-takes_slot c =
    let lines = c.args.script_plan.now.lines.items in
    let n = c.args.next in
    let none : takes_slot_at lines n ≡ false =
    takes_by_line lines n c.index.result.now c.requires.next c.index.ensures ∙ sym c.takes_slot.ensures.takes ∙ c.if-not-takes_slot.true in
    record { window = window_same lines n (n + 1) c.args.self.now.oldest c.args.self.now.taken (omega arith) (slots_same lines n none) c.requires.window }

pub first_with_slot-self-requires-clause-takes : goal.first_with_slot-self-requires-clause-takes
first_with_slot-self-requires-clause-takes c =
    takes_by_line c.args.script_plan.now.lines.items c.args.next c.index.result.now c.requires.next c.index.ensures
    ∙ sym c.takes_slot.ensures.takes ∙ c.if-not-takes_slot.false

pub returns : goal.returns
returns c =
    let lines = c.args.script_plan.now.lines.items in
    let n = c.args.next in
    let oldest = c.args.self.now.oldest in
    let taken = c.args.self.now.taken in
    let found = c.first_with_slot-self in
    let is = c.requires.window in
    let few = is.few in
    let takes : takes_slot_at lines n ≡ true = takes_by_line lines n c.index.result.now c.requires.next c.index.ensures ∙ sym c.takes_slot.ensures.takes ∙ c.if-not-takes_slot.false in
    record {
      window = elim c.if-self-eq-WINDOW_SLOTS.branch [
        | then-self-eq-WINDOW_SLOTS w ↦
            subst (λ (x : Window). IsWindow lines (n + 1) found.result x.taken) (sym w.self-is)
            (window_moved lines n oldest taken found.result takes is found.ensures.within found.ensures.takes w.if-self-eq-WINDOW_SLOTS.true
            (found.ensures.same ∙ ap (λ (x : Window). slots_taken lines x.oldest) w.self-is))
        | else-self-eq-WINDOW_SLOTS w ↦
            subst (λ (x : Window). IsWindow lines (n + 1) found.result x.taken) (sym w.self-is)
            (window_more lines n oldest taken found.result takes is found.ensures.within found.ensures.takes (let other = w.if-self-eq-WINDOW_SLOTS.false in omega (arith, few, other))
            (found.ensures.same ∙ ap (λ (x : Window). slots_taken lines x.oldest) w.self-is))
      ];
    }
