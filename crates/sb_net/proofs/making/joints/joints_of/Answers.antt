-- Both rings of a link stand where its seat says.
use Rattle.std.proofs.Common.{◌≡◌, ◌<◌, ◌+◌, List, length, sym, ap, ◌∙◌, subst, arith}
use Rattle.std.specs.Prelude.{map}
use Rattle.std.proofs.lemmas.List.{length-map}
use Rattle.std.proofs.lemmas.List.FromFn.{length-map-range_with_len}
use Rattle.sb_flow.specs.NetworkOf.{network_of}
use Rattle.sb_flow.proofs.Bundles.{accepted, link_count}
use Rattle.sb_member.specs.declared.joint.Joint.{Joint}
use Rattle.sb_net.specs.Legs.{answer_joint, links_at, node_after, node_before, pile_at, piles_of, place_at_node, request_joint}
use Rattle.sb_net.proofs.Dealing.{joint_with}
use Rattle.sb_net.proofs.JointsMade.{few_at, few_links, joints_more, pile_many, seat_is}
use Rattle.sb_net.proofs.NodeNumbers.{ends_are_nodes}
use Rattle.sb_net.proofs.making.joints.joints_of.Goals as goal

pub index-seat-requires : goal.index-seat-requires
index-seat-requires g c =
    let b = c.args.bundle.now in
    let network = network_of b in
    let k = c.loop-link.link in
    let low : k < length network.links = omega (arith, c.loop-link-test.true, c.loop-link.auto.link-end, c.len-link-end.ensures, link_count b) in
    let seats = ap (λ (xs : List Joint). length xs) c.requires.seats in
    let ok = c.args.dealt.now.seats.ok.0 in
    omega (arith, low, seats, ok, length-map-range_with_len (request_joint network) 0 (length network.links))

pub index-requires : goal.index-requires
index-requires g c =
    let b = c.args.bundle.now in
    let network = network_of b in
    let k = c.loop-link.link in
    let low : k < length network.links = omega (arith, c.loop-link-test.true, c.loop-link.auto.link-end, c.len-link-end.ensures, link_count b) in
    let seat = seat_is network c.args.dealt.now.seats.items k c.index-seat.result.now c.requires.seats low c.index-seat.ensures in
    let ends = ends_are_nodes network (accepted b) in
    let to : c.index-seat.result.now.to ≡ node_after network k = ap (λ (j : Joint). j.to) seat in
    let after = ends.after k low in
    let outs_count = c.requires.dealt.out_piles in
    let outs_ok = c.args.dealt.now.outs.ok.0 in
    omega (arith, to, after, outs_count, outs_ok, length-map c.args.dealt.now.outs.items (λ pile. pile.items))

pub overflow_add-len : goal.overflow_add-len
overflow_add-len g c =
    let b = c.args.bundle.now in
    let network = network_of b in
    let k = c.loop-link.link in
    let low : k < length network.links = omega (arith, c.loop-link-test.true, c.loop-link.auto.link-end, c.len-link-end.ensures, link_count b) in
    let seat = seat_is network c.args.dealt.now.seats.items k c.index-seat.result.now c.requires.seats low c.index-seat.ensures in
    let ends = ends_are_nodes network (accepted b) in
    let to : c.index-seat.result.now.to ≡ node_after network k = ap (λ (j : Joint). j.to) seat in
    let after = ends.after k low in
    let outs_count = c.requires.dealt.out_piles in
    let outs_ok = c.args.dealt.now.outs.ok.0 in
    let there : c.index-seat.result.now.to < length c.args.dealt.now.outs.items = omega (arith, to, after, outs_count, length-map c.args.dealt.now.outs.items (λ pile. pile.items)) in
    let here = subst (λ m. map (λ leg. leg.link) (pile_at (piles_of c.args.dealt.now.outs.items) m) ≡ links_at (node_before network) (length network.links) m) (sym to) (c.requires.dealt.outs_here (node_after network k) after) in
    let pile = pile_many (λ leg. leg.link) (node_before network) (length network.links) c.index-seat.result.now.to c.args.dealt.now.outs.items c.index.result.now there c.index.ensures here in
    let pile_ok = c.index.result.now.ok.0 in
    let count : c.len.result ≡ length (links_at (node_before network) (length network.links) (node_after network k)) = omega (arith, c.len.ensures, pile, pile_ok) ∙ ap (λ m. length (links_at (node_before network) (length network.links) m)) to in
    let into : c.index-seat.result.now.into ≡ place_at_node (node_after network) k = ap (λ (j : Joint). j.into) seat in
    omega (arith, count, into, low, few_links b, few_at (node_before network) (length network.links) (node_after network k), few_at (node_after network) k (node_after network k))

pub index-requires-in-loop-link : goal.index-requires-in-loop-link
index-requires-in-loop-link g c =
    let b = c.args.bundle.now in
    let network = network_of b in
    let k = c.loop-link.link in
    let low : k < length network.links = omega (arith, c.loop-link-test.true, c.loop-link.auto.link-end, c.len-link-end.ensures, link_count b) in
    let seat = seat_is network c.args.dealt.now.seats.items k c.index-seat.result.now c.requires.seats low c.index-seat.ensures in
    let ends = ends_are_nodes network (accepted b) in
    let from : c.index-seat.result.now.from ≡ node_before network k = ap (λ (j : Joint). j.from) seat in
    let before = ends.before k low in
    let ins_count = c.requires.dealt.in_piles in
    let ins_ok = c.args.dealt.now.ins.ok.0 in
    omega (arith, from, before, ins_count, ins_ok, length-map c.args.dealt.now.ins.items (λ pile. pile.items))

pub overflow_add-len-in-loop-link : goal.overflow_add-len-in-loop-link
overflow_add-len-in-loop-link g c =
    let b = c.args.bundle.now in
    let network = network_of b in
    let k = c.loop-link.link in
    let low : k < length network.links = omega (arith, c.loop-link-test.true, c.loop-link.auto.link-end, c.len-link-end.ensures, link_count b) in
    let seat = seat_is network c.args.dealt.now.seats.items k c.index-seat.result.now c.requires.seats low c.index-seat.ensures in
    let ends = ends_are_nodes network (accepted b) in
    let from : c.index-seat.result.now.from ≡ node_before network k = ap (λ (j : Joint). j.from) seat in
    let before = ends.before k low in
    let ins_count = c.requires.dealt.in_piles in
    let ins_ok = c.args.dealt.now.ins.ok.0 in
    let inside : c.index-seat.result.now.from < length c.args.dealt.now.ins.items = omega (arith, from, before, ins_count, length-map c.args.dealt.now.ins.items (λ pile. pile.items)) in
    let there_in = subst (λ m. map (λ leg. leg.link) (pile_at (piles_of c.args.dealt.now.ins.items) m) ≡ links_at (node_after network) (length network.links) m) (sym from) (c.requires.dealt.ins_here (node_before network k) before) in
    let pile_in = pile_many (λ leg. leg.link) (node_after network) (length network.links) c.index-seat.result.now.from c.args.dealt.now.ins.items c.index-in-loop-link.result.now inside c.index-in-loop-link.ensures there_in in
    let pile_in_ok = c.index-in-loop-link.result.now.ok.0 in
    let count_in : c.len-in-loop-link.result ≡ length (links_at (node_after network) (length network.links) (node_before network k)) = omega (arith, c.len-in-loop-link.ensures, pile_in, pile_in_ok) ∙ ap (λ m. length (links_at (node_after network) (length network.links) m)) from in
    let out : c.index-seat.result.now.out ≡ place_at_node (node_before network) k = ap (λ (j : Joint). j.out) seat in
    omega (arith, count_in, out, low, few_links b, few_at (node_after network) (length network.links) (node_before network k), few_at (node_before network) k (node_before network k))

pub loop-link-preserved : goal.loop-link-preserved
loop-link-preserved g c =
    let b = c.args.bundle.now in
    let network = network_of b in
    let k = c.loop-link.link in
    let low : k < length network.links = omega (arith, c.loop-link-test.true, c.loop-link.auto.link-end, c.len-link-end.ensures, link_count b) in
    let seat = seat_is network c.args.dealt.now.seats.items k c.index-seat.result.now c.requires.seats low c.index-seat.ensures in
    let ends = ends_are_nodes network (accepted b) in
    let to : c.index-seat.result.now.to ≡ node_after network k = ap (λ (j : Joint). j.to) seat in
    let after = ends.after k low in
    let outs_count = c.requires.dealt.out_piles in
    let outs_ok = c.args.dealt.now.outs.ok.0 in
    let there : c.index-seat.result.now.to < length c.args.dealt.now.outs.items = omega (arith, to, after, outs_count, length-map c.args.dealt.now.outs.items (λ pile. pile.items)) in
    let here = subst (λ m. map (λ leg. leg.link) (pile_at (piles_of c.args.dealt.now.outs.items) m) ≡ links_at (node_before network) (length network.links) m) (sym to) (c.requires.dealt.outs_here (node_after network k) after) in
    let pile = pile_many (λ leg. leg.link) (node_before network) (length network.links) c.index-seat.result.now.to c.args.dealt.now.outs.items c.index.result.now there c.index.ensures here in
    let pile_ok = c.index.result.now.ok.0 in
    let count : c.len.result ≡ length (links_at (node_before network) (length network.links) (node_after network k)) = omega (arith, c.len.ensures, pile, pile_ok) ∙ ap (λ m. length (links_at (node_before network) (length network.links) m)) to in
    let into : c.index-seat.result.now.into ≡ place_at_node (node_after network) k = ap (λ (j : Joint). j.into) seat in
    let from : c.index-seat.result.now.from ≡ node_before network k = ap (λ (j : Joint). j.from) seat in
    let before = ends.before k low in
    let ins_count = c.requires.dealt.in_piles in
    let ins_ok = c.args.dealt.now.ins.ok.0 in
    let inside : c.index-seat.result.now.from < length c.args.dealt.now.ins.items = omega (arith, from, before, ins_count, length-map c.args.dealt.now.ins.items (λ pile. pile.items)) in
    let there_in = subst (λ m. map (λ leg. leg.link) (pile_at (piles_of c.args.dealt.now.ins.items) m) ≡ links_at (node_after network) (length network.links) m) (sym from) (c.requires.dealt.ins_here (node_before network k) before) in
    let pile_in = pile_many (λ leg. leg.link) (node_after network) (length network.links) c.index-seat.result.now.from c.args.dealt.now.ins.items c.index-in-loop-link.result.now inside c.index-in-loop-link.ensures there_in in
    let pile_in_ok = c.index-in-loop-link.result.now.ok.0 in
    let count_in : c.len-in-loop-link.result ≡ length (links_at (node_after network) (length network.links) (node_before network k)) = omega (arith, c.len-in-loop-link.ensures, pile_in, pile_in_ok) ∙ ap (λ m. length (links_at (node_after network) (length network.links) m)) from in
    let out : c.index-seat.result.now.out ≡ place_at_node (node_before network) k = ap (λ (j : Joint). j.out) seat in
    let up = joint_with c.index-seat.result.now.to (c.len.result + c.index-seat.result.now.into) c.index-seat.result.now.from (c.len-in-loop-link.result + c.index-seat.result.now.out) (answer_joint network k)
    to (ap (λ n. n + c.index-seat.result.now.into) count ∙ ap (λ n. length (links_at (node_before network) (length network.links) (node_after network k)) + n) into)
    from (ap (λ n. n + c.index-seat.result.now.out) count_in ∙ ap (λ n. length (links_at (node_after network) (length network.links) (node_before network k)) + n) out) in
    joints_more network k c.loop-link.joints.items c.push.new.self.items c.push-in-loop-link.new.self.items c.index-seat.result.now
    (record { from = c.index-seat.result.now.to; out = c.len.result + c.index-seat.result.now.into; to = c.index-seat.result.now.from; into = c.len-in-loop-link.result + c.index-seat.result.now.out })
    c.loop-link.invariant c.in_ok-push.ensures.items c.in_ok-push-2.ensures.items seat up
