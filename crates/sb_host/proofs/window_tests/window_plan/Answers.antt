-- A line that can be issued is put behind those so far.
use Rattle.std.proofs.Common.{◌≡◌, ◌≤◌, ◌+◌, ◌*◌, ◌++◌, ◌∷◌, [], ℕ, List, length, length-append, sym, subst, arith}
use Rattle.std.proofs.lemmas.List.Elements.{All-append, All-cons, All-nil}
use Rattle.sb_packet.specs.Scripts.{IsTransaction}
use Rattle.sb_host.specs.Asked.{AreTransactions}
use Rattle.sb_host.specs.declared.transaction_plan.TransactionPlan.{TransactionPlan}
use Rattle.sb_host.proofs.window_tests.window_plan.Goals.{then-posted+in_ok-write+in_ok-push, else-posted}
use Rattle.sb_host.proofs.window_tests.window_plan.Goals as goal

abbrev IsAmong : List TransactionPlan → ℕ → Type 0
IsAmong lines most = (length lines ≤ most) × AreTransactions lines

one_more : (lines : List TransactionPlan) (most : ℕ) (line : TransactionPlan) → IsTransaction line.txn → IsAmong lines most → IsAmong (lines ++ line ∷ []) (most + 1)
one_more lines most line is among = (
  (let long = length-append lines (line ∷ []) in let few = among.0 in omega (arith, long, few)),
  All-append (λ (l : TransactionPlan). IsTransaction l.txn) lines (line ∷ []) among.1 (All-cons (λ (l : TransactionPlan). IsTransaction l.txn) line [] is (All-nil (λ (l : TransactionPlan). IsTransaction l.txn))),
)

pub loop-preserved : goal.loop-preserved
loop-preserved c =
    let most = 2 * c.loop.counter in
    let so_far : IsAmong c.loop.lines.items most = (c.loop.invariant.few, c.loop.invariant.issuable) in
    let middle : IsAmong c.if-posted.lines.items (most + 1) = elim c.if-posted.branch [
      | then-posted+in_ok-write+in_ok-push w ↦
          subst (λ v. IsAmong v.items (most + 1)) (sym w.lines-is)
          (subst (λ (l : List TransactionPlan). IsAmong l (most + 1)) (sym w.in_ok-push.ensures.items) (one_more c.loop.lines.items most w.in_ok-write.field-0 w.in_ok-write.ensures.transaction so_far))
      | else-posted w ↦ subst (λ v. IsAmong v.items (most + 1)) (sym w.lines-is) (let few = so_far.0 in omega (arith, few), so_far.1)
    ] in
    let after : IsAmong c.push-in-loop.new.self.items (most + 1 + 1) =
    subst (λ (l : List TransactionPlan). IsAmong l (most + 1 + 1)) (sym c.in_ok-push-2.ensures.items) (one_more c.if-posted.lines.items (most + 1) c.read.result c.read.ensures.transaction middle) in
    record { few = let few = after.0 in omega (arith, few); issuable = after.1 }
