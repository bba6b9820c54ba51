-- ends_in: one leg after another.
use Rattle.std.proofs.Common.{◌≡◌, ◌<◌, length, arith}
use Rattle.std.proofs.lemmas.Bool.Decides.{nat_tests}
use Rattle.sb_router.proofs.Legs.{all_inlets, all_outlets, first_and_rest, next_is_fresh, none_taken, one_taken}
use Rattle.sb_router.proofs.ends.ends_in.Goals as goal

pub loop-legs-init : goal.loop-legs-init
loop-legs-init g c = none_taken g.F.Tx.TxEnd g.F.Rx.RxEnd (λ leg. leg.requests) (λ leg. leg.answers) c.args.legs.items (c.new-ends.result.inlets.items) (c.new-ends.result.outlets.items)
    c.new-ends.ensures.inlets c.new-ends.ensures.outlets c.requires.fresh

pub add-requires : goal.add-requires
add-requires g c =
    let xs = c.loop-legs.legs.items in
    let lt : 0 < length xs = omega (arith, c.remove-requests.ensures.len, c.loop-legs.legs.ok.0) in
    let split = first_and_rest xs c.remove-requests.new.self.items c.remove-requests.result lt c.remove-requests.ensures.value c.remove-requests.ensures.items in
    record { fresh = next_is_fresh g.F.Tx.TxEnd g.F.Rx.RxEnd (λ leg. leg.requests) (λ leg. leg.answers) split c.loop-legs.invariant }

pub loop-legs-preserved : goal.loop-legs-preserved
loop-legs-preserved g c =
    let xs = c.loop-legs.legs.items in
    let lt : 0 < length xs = omega (arith, c.remove-requests.ensures.len, c.loop-legs.legs.ok.0) in
    let split = first_and_rest xs c.remove-requests.new.self.items c.remove-requests.result lt c.remove-requests.ensures.value c.remove-requests.ensures.items in
    one_taken g.F.Tx.TxEnd g.F.Rx.RxEnd (λ leg. leg.requests) (λ leg. leg.answers) split c.loop-legs.invariant c.in_ok-add.ensures.inlets c.in_ok-add.ensures.outlets c.in_ok-add.ensures.whole

pub returns : goal.returns
returns g c =
    let test = c.loop-legs-test.false in let empty = c.is_empty.ensures in let long = c.loop-legs.legs.ok.0 in
    let none : length c.loop-legs.legs.items ≡ 0 = grind (arith, nat_tests) in
    record {
      inlets = all_inlets g.F.Tx.TxEnd g.F.Rx.RxEnd (λ leg. leg.requests) (λ leg. leg.answers) none c.loop-legs.invariant;
      outlets = all_outlets g.F.Tx.TxEnd g.F.Rx.RxEnd (λ leg. leg.requests) (λ leg. leg.answers) none c.loop-legs.invariant;
      whole = c.loop-legs.invariant.whole;
    }
