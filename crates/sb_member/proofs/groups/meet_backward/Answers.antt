-- The nodes of two groups are others.
use Rattle.std.proofs.Common.{◌≡◌, ◌≢◌, ◌<◌, ℕ, List, set, sym, ap, subst, ◌∙◌, refl, arith}
use Rattle.std.specs.Prelude.{slice_index_or}
use Rattle.sb_drive.specs.declared.group.Group.{Group}
use Rattle.sb_member.specs.Groups.{HaveMetBetween, IsRingAcross, grouped_nodes, nodes_in}
use Rattle.sb_member.proofs.Dealt.{group_is, regrouped_both}
use Rattle.sb_member.proofs.RingsMet.{set_swap}
use Rattle.sb_member.proofs.groups.meet_backward.Goals as goal

-- a lower number is another
apart : {a b : ℕ} → a < b → a ≢ b
apart {a} {b} lt is = absurd (omega (arith, lt, is))

pub returns : goal.returns
returns g c =
    let groups = c.args.groups.now in
    let from = c.args.from in
    let to = c.args.to in
    let order = c.requires.order in
    let within = c.requires.within in
    let new = c.meet_groups.new in
    let j = c.args.places.now in
    let here = group_is groups from _ within c.two-receiver.ensures.second in
    let there = group_is groups to _ (omega (arith, order, within)) c.two-receiver.ensures.first in
    record {
      met = record {
        senders = new.from.nodes.items;
        receivers = new.to.nodes.items;
        set_there = regrouped_both groups to from new.to new.from ∙ set_swap (grouped_nodes groups) to from new.to.nodes.items new.from.nodes.items (apart order);
        met = subst (λ list. HaveMetBetween j list new.from.nodes.items (nodes_in (grouped_nodes groups) to) new.to.nodes.items) (sym here)
            (subst (λ list. HaveMetBetween j c.two-receiver.result.1.now.nodes.items new.from.nodes.items list new.to.nodes.items) (sym there) c.meet_groups.ensures.met);
      };
    }
