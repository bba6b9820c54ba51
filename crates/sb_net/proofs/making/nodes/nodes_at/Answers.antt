-- The next node is made at the legs that are next.
use Rattle.std.proofs.Common.{◌≡◌, ◌<◌, ◌+◌, drop, refl, sym, ap, ◌∙◌, subst, arith, suc}
use Rattle.std.proofs.lemmas.List.{length-map}
use Rattle.sb_flow.specs.NetworkOf.{network_of}
use Rattle.sb_flow.proofs.Bundles.{accepted}
use Rattle.sb_net.specs.Legs.{AreLegsAt, AreMadeAt, IsMadeAt, pile_at, piles_of}
use Rattle.sb_net.specs.Standing.{node_count}
use Rattle.sb_net.proofs.DealtLegs.{legs_at}
use Rattle.sb_net.proofs.NodeNumbers.{ends_are_nodes}
use Rattle.sb_net.proofs.NodesMade.{made_more, next_of, none_made}
use Rattle.sb_net.proofs.Piles.{pile_there}
use Rattle.sb_net.proofs.making.nodes.nodes_at.Goals as goal

pub loop-number-init : goal.loop-number-init
loop-number-init g c =
    let network = network_of c.args.bundle.now in
    record {
      outs = c.into_iter-outs.ensures.rest;
      ins = c.into_iter-ins.ensures.rest;
      made = none_made g.F.Tx.TxEnd g.F.Rx.RxEnd network (piles_of c.args.dealt.outs.items) (piles_of c.args.dealt.ins.items) c.new-nodes.result.items c.new-nodes.ensures.items;
    }

pub node_at-requires-clause-legs : goal.node_at-requires-clause-legs
node_at-requires-clause-legs g c κs within =
    let b = c.args.bundle.now in
    let network = network_of b in
    let n = c.loop-number.number in
    let out = next_of c.args.dealt.outs.items n c.in-Some.out c.next.new.self.rest.items (sym c.loop-number.invariant.outs ∙ c.in-Some.ensures.items) in
    let into = next_of c.args.dealt.ins.items n c.in-Some-next.into c.next-in-loop-number.new.self.rest.items (sym c.loop-number.invariant.ins ∙ c.in-Some-next.ensures.items) in
    let count = c.requires.dealt.out_piles in
    let inside = out.below in
    let low : n < node_count network = omega (arith, inside, count, length-map c.args.dealt.outs.items (λ pile. pile.items)) in
    let outs_are = pile_there c.args.dealt.outs.items n c.in-Some.out out.below ∙ ap (λ pile. pile.items) (out.at c.in-Some.out) in
    let ins_are = pile_there c.args.dealt.ins.items n c.in-Some-next.into into.below ∙ ap (λ pile. pile.items) (into.at c.in-Some-next.into) in
    let legs = legs_at g.F.Tx.TxEnd g.F.Rx.RxEnd network (ends_are_nodes network (accepted b)) (piles_of c.args.dealt.outs.items) (piles_of c.args.dealt.ins.items) c.requires.dealt n low in
    subst (λ xs. AreLegsAt g.F.Tx.TxEnd g.F.Rx.RxEnd network n xs c.in-Some-next.into.items) outs_are
    (subst (λ xs. AreLegsAt g.F.Tx.TxEnd g.F.Rx.RxEnd network n (pile_at (piles_of c.args.dealt.outs.items) n) xs) ins_are legs)

pub loop-number-preserved : goal.loop-number-preserved
loop-number-preserved g c =
    let b = c.args.bundle.now in
    let network = network_of b in
    let n = c.loop-number.number in
    let next : suc n ≡ n + 1 = omega arith in
    let out = next_of c.args.dealt.outs.items n c.in-Some.out c.next.new.self.rest.items (sym c.loop-number.invariant.outs ∙ c.in-Some.ensures.items) in
    let into = next_of c.args.dealt.ins.items n c.in-Some-next.into c.next-in-loop-number.new.self.rest.items (sym c.loop-number.invariant.ins ∙ c.in-Some-next.ensures.items) in
    let outs_are = pile_there c.args.dealt.outs.items n c.in-Some.out out.below ∙ ap (λ pile. pile.items) (out.at c.in-Some.out) in
    let ins_are = pile_there c.args.dealt.ins.items n c.in-Some-next.into into.below ∙ ap (λ pile. pile.items) (into.at c.in-Some-next.into) in
    let one = subst (λ xs. IsMadeAt g.F.Tx.TxEnd g.F.Rx.RxEnd network n xs (pile_at (piles_of c.args.dealt.ins.items) n) c.in_ok-node.node) (sym outs_are)
    (subst (λ xs. IsMadeAt g.F.Tx.TxEnd g.F.Rx.RxEnd network n c.in-Some.out.items xs c.in_ok-node.node) (sym ins_are) c.in_ok-node.ensures.made) in
    record {
      outs = out.left ∙ ap (λ k. drop k c.args.dealt.outs.items) next;
      ins = into.left ∙ ap (λ k. drop k c.args.dealt.ins.items) next;
      made = made_more g.F.Tx.TxEnd g.F.Rx.RxEnd network (piles_of c.args.dealt.outs.items) (piles_of c.args.dealt.ins.items) n (n + 1) c.loop-number.nodes.items c.push.new.self.items c.in_ok-node.node refl
          c.loop-number.invariant.made one c.in_ok-push.ensures.items;
    }

pub returns : goal.returns
returns g c =
    let network = network_of c.args.bundle.now in
    let count = c.requires.dealt.out_piles in
    let ok = c.args.dealt.outs.ok.0 in
    let n : c.loop-number.number ≡ node_count network = omega (arith, c.loop-number-test.false, c.loop-number.auto.number-end, c.len-count.ensures, c.into_iter-outs.ensures.len, ok, count, length-map c.args.dealt.outs.items (λ pile. pile.items)) in
    record { made = subst (λ n. AreMadeAt g.F.Tx.TxEnd g.F.Rx.RxEnd network n (piles_of c.args.dealt.outs.items) (piles_of c.args.dealt.ins.items) c.loop-number.nodes.items) n c.loop-number.invariant.made }
