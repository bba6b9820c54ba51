-- The next link's legs lie at its nodes.
use Rattle.std.proofs.Common.{◌≡◌, ◌<◌, length, sym, ap, ◌∙◌, arith, subst, ◌+◌, ◌++◌, ◌∷◌, []}
use Rattle.std.specs.Prelude.{map, set, get_or}
use Rattle.std.specs.List.{range_with_len}
use Rattle.std.proofs.lemmas.List.{length-map}
use Rattle.std.proofs.lemmas.List.FromFn.{map-range_with_len_more}
use Rattle.sb_flow.specs.NetworkOf.{network_of}
use Rattle.sb_flow.specs.Rows.{link_of}
use Rattle.sb_flow.proofs.Bundles.{accepted, link_count}
use Rattle.sb_net.specs.Legs.{node_after, node_before, pile_at, piles_of, request_joint}
use Rattle.sb_net.specs.Standing.{node_count}
use Rattle.sb_net.proofs.Dealing.{dealt_more, joint_with, pile_long}
use Rattle.sb_net.proofs.NodeNumbers.{ends_are_nodes, node_after_is, node_before_is, row_got}
use Rattle.sb_net.proofs.making.dealing.deal_link.Goals as goal

pub index-row-requires : goal.index-row-requires
index-row-requires g c = let there = c.requires.link in omega (arith, there, link_count c.args.bundle.now, c.from.ensures)

pub number_of-from-requires : goal.number_of-from-requires
number_of-from-requires g c =
    let b = c.args.bundle.now in
    let network = network_of b in
    let row = c.index-row.result.now in
    let there : c.args.link < length b.links.items = let lt = c.requires.link in omega (arith, lt, length-map b.links.items link_of) in
    let got = row_got b c.args.link row there (c.index-row.ensures ∙ ap (λ i. get_or b.links.items i row) c.from.ensures) in
    record { there = subst (λ n. n < node_count network) (node_before_is network c.args.link (link_of row) got) ((ends_are_nodes network (accepted b)).before c.args.link c.requires.link) }

pub number_of-to-requires : goal.number_of-to-requires
number_of-to-requires g c =
    let b = c.args.bundle.now in
    let network = network_of b in
    let row = c.index-row.result.now in
    let there : c.args.link < length b.links.items = let lt = c.requires.link in omega (arith, lt, length-map b.links.items link_of) in
    let got = row_got b c.args.link row there (c.index-row.ensures ∙ ap (λ i. get_or b.links.items i row) c.from.ensures) in
    record { there = subst (λ n. n < node_count network) (node_after_is network c.args.link (link_of row) got) ((ends_are_nodes network (accepted b)).after c.args.link c.requires.link) }

pub deal-requires : goal.deal-requires
deal-requires g c =
    let b = c.args.bundle.now in
    let network = network_of b in
    let row = c.index-row.result.now in
    let there : c.args.link < length b.links.items = let lt = c.requires.link in omega (arith, lt, length-map b.links.items link_of) in
    let got = row_got b c.args.link row there (c.index-row.ensures ∙ ap (λ i. get_or b.links.items i row) c.from.ensures) in
    let low = (ends_are_nodes network (accepted b)).before c.args.link c.requires.link in
    let count = c.requires.dealt.out_piles in
    let at : c.number_of-from.result ≡ node_before network c.args.link = c.number_of-from.ensures.number ∙ sym (node_before_is network c.args.link (link_of row) got) in
    record { within = omega (arith, low, count, at, length-map c.args.dealt.now.outs.items (λ pile. pile.items)) }

pub deal-requires-2 : goal.deal-requires-2
deal-requires-2 g c =
    let b = c.args.bundle.now in
    let network = network_of b in
    let row = c.index-row.result.now in
    let there : c.args.link < length b.links.items = let lt = c.requires.link in omega (arith, lt, length-map b.links.items link_of) in
    let got = row_got b c.args.link row there (c.index-row.ensures ∙ ap (λ i. get_or b.links.items i row) c.from.ensures) in
    let low = (ends_are_nodes network (accepted b)).after c.args.link c.requires.link in
    let count = c.requires.dealt.in_piles in
    let at : c.number_of-to.result ≡ node_after network c.args.link = c.number_of-to.ensures.number ∙ sym (node_after_is network c.args.link (link_of row) got) in
    let inside : c.number_of-to.result < length c.args.dealt.now.ins.items = omega (arith, low, count, at, length-map c.args.dealt.now.ins.items (λ pile. pile.items)) in
    record { within = inside }

pub returns-clause-dealt : goal.returns-clause-dealt
returns-clause-dealt g c =
    let b = c.args.bundle.now in
    let network = network_of b in
    let row = c.index-row.result.now in
    let there : c.args.link < length b.links.items = let lt = c.requires.link in omega (arith, lt, length-map b.links.items link_of) in
    let got = row_got b c.args.link row there (c.index-row.ensures ∙ ap (λ i. get_or b.links.items i row) c.from.ensures) in
    let from : c.number_of-from.result ≡ node_before network c.args.link = c.number_of-from.ensures.number ∙ sym (node_before_is network c.args.link (link_of row) got) in
    let to : c.number_of-to.result ≡ node_after network c.args.link = c.number_of-to.ensures.number ∙ sym (node_after_is network c.args.link (link_of row) got) in
    let outs = piles_of c.args.dealt.now.outs.items in
    let ins = piles_of c.args.dealt.now.ins.items in
    dealt_more g.F.Tx.TxEnd g.F.Rx.RxEnd network (ends_are_nodes network (accepted b)) c.args.link (c.args.link + 1) outs (piles_of c.deal.new.piles.items) ins (piles_of c.deal-2.new.piles.items)
    c.in_ok-out_leg.out_leg c.in_ok-out_leg.in_leg c.requires.link (omega arith) c.requires.dealt c.in_ok-out_leg.ensures.legs
    (c.in_ok-out.ensures.dealt ∙ ap (λ n. set outs n (pile_at outs n ++ c.in_ok-out_leg.out_leg ∷ [])) from)
    (c.in_ok-into.ensures.dealt ∙ ap (λ n. set ins n (pile_at ins n ++ c.in_ok-out_leg.in_leg ∷ [])) to)

pub returns-clause-seats : goal.returns-clause-seats
returns-clause-seats g c =
    let b = c.args.bundle.now in
    let network = network_of b in
    let row = c.index-row.result.now in
    let there : c.args.link < length b.links.items = let lt = c.requires.link in omega (arith, lt, length-map b.links.items link_of) in
    let got = row_got b c.args.link row there (c.index-row.ensures ∙ ap (λ i. get_or b.links.items i row) c.from.ensures) in
    let from : c.number_of-from.result ≡ node_before network c.args.link = c.number_of-from.ensures.number ∙ sym (node_before_is network c.args.link (link_of row) got) in
    let to : c.number_of-to.result ≡ node_after network c.args.link = c.number_of-to.ensures.number ∙ sym (node_after_is network c.args.link (link_of row) got) in
    let outs = piles_of c.args.dealt.now.outs.items in
    let ins = piles_of c.args.dealt.now.ins.items in
    let ends = ends_are_nodes network (accepted b) in
    let out = c.in_ok-out.ensures.place ∙ ap (λ n. length (pile_at outs n)) from ∙ pile_long outs (λ leg. leg.link) (node_before network) c.args.link (c.requires.dealt.outs_here (node_before network c.args.link) (ends.before c.args.link c.requires.link)) in
    let into = c.in_ok-into.ensures.place ∙ ap (λ n. length (pile_at ins n)) to ∙ pile_long ins (λ leg. leg.link) (node_after network) c.args.link (c.requires.dealt.ins_here (node_after network c.args.link) (ends.after c.args.link c.requires.link)) in
    c.in_ok-push.ensures.items ∙ ap (λ list. list ++ record { from = c.number_of-from.result; out = c.in_ok-out.out; to = c.number_of-to.result; into = c.in_ok-into.into } ∷ []) c.requires.seats
    ∙ ap (λ j. map (request_joint network) (range_with_len 0 c.args.link) ++ j ∷ []) (joint_with c.number_of-from.result c.in_ok-out.out c.number_of-to.result c.in_ok-into.into (request_joint network c.args.link) from out to into)
    ∙ sym (map-range_with_len_more (request_joint network) 0 c.args.link c.args.link (omega arith))
