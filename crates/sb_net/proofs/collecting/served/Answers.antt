-- The node of the number is found, and a device tells its journal.
use Rattle.std.proofs.Common.{◌/◌, length, sym, ap, ◌∙◌, arith}
use Rattle.sb_member.proofs.Dealt.{node_found, place_found}
use Rattle.sb_member.proofs.RingsMet.{within_list}
use Rattle.sb_member.specs.Joints.{no_node}
use Rattle.sb_net.specs.Recorded.{member_entries}
use Rattle.sb_net.proofs.collecting.served.Goals as goal

pub index-requires : goal.index-requires
index-requires g c =
    let group = c.index-groups-number.result in
    let found = place_found c.args.groups.now c.args.number group c.requires.dealt c.requires.number c.index-groups-number.is in
    omega (arith, found, group.nodes.ok.0)

pub returns-in-Device : goal.returns-in-Device
returns-in-Device g c =
    let group = c.index-groups-number.result in
    let found = place_found c.args.groups.now c.args.number group c.requires.dealt c.requires.number c.index-groups-number.is in
    record {
      entries = c.journal.ensures ∙ ap member_entries (sym (node_found c.args.groups.now c.args.number group c.requires.dealt c.requires.number c.index-groups-number.is
          ∙ within_list group.nodes.items (c.args.number / length c.args.groups.now) no_node c.index.result.now found ∙ sym c.index.ensures ∙ c.in-Device.is));
    }

pub returns-in-Host : goal.returns-in-Host
returns-in-Host g c =
    let group = c.index-groups-number.result in
    let found = place_found c.args.groups.now c.args.number group c.requires.dealt c.requires.number c.index-groups-number.is in
    record {
      entries = ap member_entries (sym (node_found c.args.groups.now c.args.number group c.requires.dealt c.requires.number c.index-groups-number.is
          ∙ within_list group.nodes.items (c.args.number / length c.args.groups.now) no_node c.index.result.now found ∙ sym c.index.ensures ∙ c.in-Host.is));
    }

pub returns-in-Router : goal.returns-in-Router
returns-in-Router g c =
    let group = c.index-groups-number.result in
    let found = place_found c.args.groups.now c.args.number group c.requires.dealt c.requires.number c.index-groups-number.is in
    record {
      entries = ap member_entries (sym (node_found c.args.groups.now c.args.number group c.requires.dealt c.requires.number c.index-groups-number.is
          ∙ within_list group.nodes.items (c.args.number / length c.args.groups.now) no_node c.index.result.now found ∙ sym c.index.ensures ∙ c.in-Router.is));
    }
