-- A host is done at a device where its next word is behind its script.
use Rattle.std.proofs.Common.{◌≡◌, ◌≤◌, ℕ, Bool, true, false, List, length, ap, sym, ◌∙◌, arith, subst, Option, Some, None, refl}
use Rattle.std.specs.Bool.{OnFalse, OnTrue}
use Rattle.std.specs.Prelude.{IsSomeAnd, nat_le, slice_get}
use Rattle.std.proofs.lemmas.Bool.{leb-false, leb-true}
use Rattle.std.proofs.lemmas.Option.{slice_get_past}
use Rattle.sb_packet.specs.Networks.{NetHost, Network}
use Rattle.sb_packet.specs.declared.transaction.Txn.{Txn}
use Rattle.sb_flow.specs.NetworkOf.{network_of}
use Rattle.sb_flow.specs.Rows.{host_of}
use Rattle.sb_check.specs.Progresses.{IsDoneAt, next_at}
use Rattle.sb_check.specs.declared.next_word.NextWord.{NextWord}
use Rattle.sb_check.specs.declared.progress.Progress.{Progress}
use Rattle.sb_check.proofs.BundleLookups.{host_at}
use Rattle.sb_check.proofs.EntryLemmas.{no_some, some_has}
use Rattle.sb_check.proofs.ScriptWords.{none_behind}
use Rattle.sb_check.proofs.progress.Progress.is_done_at.Goals as goal

behind_script : (network : Network) (progress : Progress) (h d : ℕ) (host : NetHost) (next : NextWord) (script : List Txn) (b : Bool) → slice_get network.hosts h ≡ Some host → next_at progress h d ≡ Some next → script ≡ host.script → b ≡ nat_le (length script) next.transaction → OnTrue b (IsDoneAt network progress h d)
behind_script network progress h d host next script false at is same tested = tt
behind_script network progress h d host next script true at is same tested = λ other at_other.
    let one : Some host ≡ Some other = sym at ∙ at_other in
    let own : host ≡ other = cc in
    subst (λ (o : Option NextWord). IsSomeAnd o (λ word. slice_get other.script word.transaction ≡ None)) (sym is)
    (slice_get_past other.script next.transaction (let past = leb-true (length script) next.transaction (sym tested) in subst (λ (l : List Txn). length l ≤ next.transaction) (same ∙ ap (λ (x : NetHost). x.script) own) past))

before_end : (network : Network) (progress : Progress) (h d : ℕ) (host : NetHost) (next : NextWord) (script : List Txn) (b : Bool) → slice_get network.hosts h ≡ Some host → next_at progress h d ≡ Some next → script ≡ host.script → b ≡ nat_le (length script) next.transaction → OnFalse b (IsDoneAt network progress h d → ⊥)
before_end network progress h d host next script true at is same tested = tt
before_end network progress h d host next script false at is same tested = λ done.
    let none = some_has (next_at progress h d) (λ word. slice_get host.script word.transaction ≡ None) next is (done host at) in
    let past = none_behind host.script next.transaction none in
    let inside = leb-false (length script) next.transaction (sym tested) in
    omega (arith, ap length same)

pub returns-in-None-clause-no : goal.returns-in-None-clause-no
returns-in-None-clause-no c = λ done.
    let b = c.args.bundle.now in
    let plan = c.index.result.now in
    no_some (next_at c.args.self.now c.args.host c.args.device) (λ word. slice_get plan.script word.transaction ≡ None) (sym c.next_at.ensures ∙ c.in-None.is) (done (host_of plan) (host_at b c.args.host plan c.requires c.index.ensures))

pub returns-in-Some-clause-yes : goal.returns-in-Some-clause-yes
returns-in-Some-clause-yes c =
    let b = c.args.bundle.now in
    let plan = c.index.result.now in
    behind_script (network_of b) c.args.self.now c.args.host c.args.device (host_of plan) c.in-Some.next c.as_slice-script.result.now _ (host_at b c.args.host plan c.requires c.index.ensures) (sym c.next_at.ensures ∙ c.in-Some.is) c.as_slice-script.ensures refl

pub returns-in-Some-clause-no : goal.returns-in-Some-clause-no
returns-in-Some-clause-no c =
    let b = c.args.bundle.now in
    let plan = c.index.result.now in
    before_end (network_of b) c.args.self.now c.args.host c.args.device (host_of plan) c.in-Some.next c.as_slice-script.result.now _ (host_at b c.args.host plan c.requires c.index.ensures) (sym c.next_at.ensures ∙ c.in-Some.is) c.as_slice-script.ensures refl
