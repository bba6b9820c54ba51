-- The nodes of one group are others.
use Rattle.std.proofs.Common.{◌≡◌, length, drop, sym, subst, arith}
use Rattle.std.specs.Prelude.{slice_index_or}
use Rattle.sb_member.specs.Joints.{HasRingMet}
use Rattle.sb_member.proofs.Dealt.{group_at, regrouped, taken_whole}
use Rattle.sb_member.proofs.groups.meet_inside.Goals as goal

pub returns : goal.returns
returns g c =
    let groups = c.args.groups.now in
    let group = slice_index_or groups c.args.group c.index-groups-group.result in
    let new = c.meet_within.new.nodes in
    let kept = c.meet_within.auto.nodes in
    let len : group.nodes.len ≡ length new = omega (arith, group.nodes.ok.0, kept, c.deref_mut.ensures.len) in
    record {
      met = record {
        nodes = new;
        set_there = regrouped groups c.args.group _ new (taken_whole new (drop (length new) group.nodes.items) group.nodes.len len);
        met = subst (λ list. HasRingMet c.args.places.now list new) (sym (group_at groups c.args.group c.index-groups-group.result c.requires.group))
            (subst (λ list. HasRingMet c.args.places.now list new) c.deref_mut.ensures.value c.meet_within.ensures.met);
      };
    }
