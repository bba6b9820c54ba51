-- The next word behind a packet's.
use Rattle.std.proofs.Common.{◌≡◌, ◌≤◌, ◌<◌, ◌+◌, ◌++◌, ℕ, true, List, length, get_or, refl, ap, sym, ◌∙◌, subst, arith, Option, Some, None}
use Rattle.std.specs.Prelude.{IfNone, slice_get}
use Rattle.std.proofs.lemmas.Option.{slice_get_past, slice_get_read}
use Rattle.sb_packet.specs.Accesses.{Access, accesses_of}
use Rattle.sb_packet.specs.Messages.{message_of}
use Rattle.sb_packet.specs.Networks.{NetHost, Network}
use Rattle.sb_packet.specs.declared.transaction.Txn.{Txn}
use Rattle.sb_flow.specs.NetworkOf.{network_of}
use Rattle.sb_flow.specs.Rows.{host_of}
use Rattle.sb_flow.specs.Ways.{is_aimed_at}
use Rattle.sb_check.specs.Progresses.{IsWordAt}
use Rattle.sb_check.specs.declared.next_word.NextWord.{NextWord}
use Rattle.sb_check.proofs.ScriptWords.{begins_as_part, left_behind, left_none, left_within, not_none}
use Rattle.sb_check.proofs.next_word.NextWord.behind.Goals as goal

where_none : {A : Type 0} (o : Option A) (P : Type 0) → P → IfNone o P
where_none None P h = h
where_none (Some x) P h = tt

-- a transaction that was read of a script
got_at : (read script : List Txn) (i : ℕ) (t : Txn) → read ≡ script → i < length read → t ≡ get_or read i t → slice_get script i ≡ Some t
got_at read script i t same inside at = ap (λ (l : List Txn). slice_get l i) (sym same) ∙ slice_get_read read (length read) i t refl inside at

-- the place behind a part that doesn't end its transaction
later_place : (network : Network) (host : NetHost) (d : ℕ) (next later : NextWord) (t : Txn) → slice_get host.script next.transaction ≡ Some t → IsWordAt network host d next → later.transaction ≡ next.transaction → later.word < t.count → IsWordAt network host d later
later_place network host d next later t got at same inside = record {
  aimed = subst (λ (i : ℕ). (x : Txn) → slice_get host.script i ≡ Some x → is_aimed_at network d x ≡ true) (sym same) at.aimed;
  within = λ x found.
      let one : Some t ≡ Some x = sym got ∙ ap (slice_get host.script) (sym same) ∙ found in
      let own : t ≡ x = cc in
      let counts = ap (λ (y : Txn). y.count) own in
      omega arith;
}

pub returns-in_err-txn-clause-none : goal.returns-in_err-txn-clause-none
returns-in_err-txn-clause-none c = λ at. where_none c.from_residual.result _ (λ begins.
    let network = network_of c.args.bundle.now in
    let host = host_of c.args.plan.now in
    let past : slice_get c.args.plan.now.script c.args.self.transaction ≡ None =
    ap (λ (l : List Txn). slice_get l c.args.self.transaction) (sym c.as_slice-script.ensures) ∙ slice_get_past c.as_slice-script.result.now c.args.self.transaction c.in_err-txn.ensures.lookup.3 in
    not_none network host c.args.device c.args.bundle.now.placed c.args.packet.now begins.rest (begins.joined ∙ left_none network host c.args.device c.args.bundle.now.placed c.args.self past))

pub returns-then-not-is_part-clause-none : goal.returns-then-not-is_part-clause-none
returns-then-not-is_part-clause-none c = λ at begins.
    let network = network_of c.args.bundle.now in
    let host = host_of c.args.plan.now in
    let look = c.in_ok-txn.ensures.lookup in
    let got = got_at c.as_slice-script.result.now c.args.plan.now.script c.args.self.transaction c.in_ok-txn.txn.now c.as_slice-script.ensures look.3.0 look.1 in
    (rw c.if-not-is_part.true at c.is_part.ensures.no)
    (begins_as_part network host c.args.device c.args.bundle.now.placed c.args.self c.in_ok-txn.txn.now c.args.packet.now c.args.plan.now.lines at got begins)

pub returns-then-word-from-clause-place : goal.returns-then-word-from-clause-place
returns-then-word-from-clause-place c = λ at.
    let look = c.in_ok-txn.ensures.lookup in
    let got = got_at c.as_slice-script.result.now c.args.plan.now.script c.args.self.transaction c.in_ok-txn.txn.now c.as_slice-script.ensures look.3.0 look.1 in
    let later : NextWord = record { transaction = c.args.self.transaction; word = c.from.result + c.word_count.result } in
    later_place (network_of c.args.bundle.now) (host_of c.args.plan.now) c.args.device c.args.self later c.in_ok-txn.txn.now got at refl (rw c.from-2.ensures at c.if-word-from.true)

pub returns-then-word-from-clause-left : goal.returns-then-word-from-clause-left
returns-then-word-from-clause-left c = λ at.
    let network = network_of c.args.bundle.now in
    let host = host_of c.args.plan.now in
    let look = c.in_ok-txn.ensures.lookup in
    let got = got_at c.as_slice-script.result.now c.args.plan.now.script c.args.self.transaction c.in_ok-txn.txn.now c.as_slice-script.ensures look.3.0 look.1 in
    let later : NextWord = record { transaction = c.args.self.transaction; word = c.from.result + c.word_count.result } in
    let place = later_place network host c.args.device c.args.self later c.in_ok-txn.txn.now got at refl (rw c.from-2.ensures at c.if-word-from.true) in
    let on : c.from.result + c.word_count.result ≡ c.args.self.word + (message_of c.args.packet.now).count = rw (c.from.ensures, c.word_count.ensures.words) refl in
    left_within network host c.args.device c.args.bundle.now.placed c.args.self later c.in_ok-txn.txn.now c.args.packet.now c.args.plan.now.lines at got (rw c.if-not-is_part.false at c.is_part.ensures.yes) refl on place

pub returns-clause-left : goal.returns-clause-left
returns-clause-left c = λ at.
    let network = network_of c.args.bundle.now in
    let host = host_of c.args.plan.now in
    let look = c.in_ok-txn.ensures.lookup in
    let got = got_at c.as_slice-script.result.now c.args.plan.now.script c.args.self.transaction c.in_ok-txn.txn.now c.as_slice-script.ensures look.3.0 look.1 in
    let first = c.from.ensures in
    let count = c.word_count.ensures.words in
    let all = c.from-2.ensures in
    let past = c.if-word-from.false in
    let end : c.in_ok-txn.txn.now.count ≤ c.args.self.word + (message_of c.args.packet.now).count = rw (first, count, all) at past in
    left_behind network host c.args.device c.args.bundle.now.placed c.args.self c.in_ok-txn.txn.now c.args.packet.now c.args.plan.now.lines at got (rw c.if-not-is_part.false at c.is_part.ensures.yes) end
    ∙ ap (λ (words : List Access). accesses_of c.args.packet.now ++ words) (sym c.first.ensures.left)
