-- What is passed over has no word of the flow.
use Rattle.std.proofs.Common.{◌≡◌, ◌≤◌, ◌<◌, ℕ, ◌+◌, ◌-◌, List, length, ap, sym, ◌∙◌, arith, Some, false, subst}
use Rattle.std.specs.Prelude.{slice_get}
use Rattle.sb_packet.specs.Journals.{flow_part}
use Rattle.sb_packet.specs.declared.transaction.Txn.{Txn}
use Rattle.sb_flow.specs.NetworkOf.{network_of}
use Rattle.sb_flow.specs.Rows.{host_of}
use Rattle.sb_flow.specs.Ways.{is_aimed_at}
use Rattle.sb_check.specs.Progresses.{script_from}
use Rattle.sb_check.proofs.ScriptWords.{passed_over}
use Rattle.sb_check.proofs.next_word.NextWord.first.Goals as goal

pub returns-clause-left : goal.returns-clause-left
returns-clause-left c =
    let network = network_of c.args.bundle.now in
    let host = host_of c.args.plan.now in
    let from = c.args.from in
    let found = c.first_aimed.result in
    let onward = c.first_aimed.ensures.onward in
    let script : c.as_slice.result.now ≡ c.args.plan.now.script = c.as_slice.ensures in
    let n = found - from in
    let end : from + n ≡ found = omega arith in
    let within : found ≤ length c.args.plan.now.script = subst (λ (l : List Txn). found ≤ length l) script c.first_aimed.ensures.within in
    let others = subst (λ (l : List Txn). (i : ℕ) (t : Txn) → from ≤ i → i < found → slice_get l i ≡ Some t → is_aimed_at network c.args.device t ≡ false) script c.first_aimed.ensures.passed in
    ap (λ (k : ℕ). flow_part network host c.args.device (script_from host k)) (sym end)
    ∙ passed_over network host c.args.device c.args.bundle.now.placed n from c.args.plan.now.lines (omega arith) (λ i t low high got. others i t low (omega arith) got)
