-- Long round by long round the run goes on, and ends where no node moved.
use Rattle.std.proofs.Common.{◌<◌, ◌+◌, ◌^◌, ◌≤◌, ◌∙◌, true, length, subst, arith}
use Rattle.sb_member.specs.Groups.{grouped_nodes}
use Rattle.sb_member.proofs.Dealt.{total_of}
use Rattle.sb_net.proofs.LaterNets.{stands_turned}
use Rattle.sb_net.proofs.UnderWay.{device_range, gone_by, has_room, never_so_late, nodes_fit, none_fewer, round_ends, round_goes_on}
use Rattle.sb_net.proofs.side_by_side.run_side_by_side.Goals as goal

pub turn_groups-requires-clause-whole : goal.turn_groups-requires-clause-whole
turn_groups-requires-clause-whole g c κs within = (c.loop-number.invariant.2 c.requires.ready.0 c.requires.ready.1).stands.joined.whole

pub returns-then-not-turn_groups-clause-run : goal.returns-then-not-turn_groups-clause-run
returns-then-not-turn_groups-clause-run g c = λ network ready.
    round_ends _ _ _ _ _ _ _ _ (c.loop-number.invariant.2 network ready) _ (gone_by c.if-not-turn_groups.true c.turn_groups.ensures.gone) c.turn_groups.ensures.whole

pub meet_rings-requires-clause-joined : goal.meet_rings-requires-clause-joined
meet_rings-requires-clause-joined g c κs within =
    let u = c.loop-number.invariant.2 c.requires.ready.0 c.requires.ready.1 in
    let gone = gone_by c.if-not-turn_groups.false c.turn_groups.ensures.gone in
    (stands_turned _ _ _ _ _ true u.stands gone.turns c.turn_groups.ensures.whole).joined

pub collect-requires-clause-few : goal.collect-requires-clause-few
collect-requires-clause-few g c κs within =
    let u = c.loop-number.invariant.2 c.requires.ready.0 c.requires.ready.1 in
    let gone = gone_by c.if-not-turn_groups.false c.turn_groups.ensures.gone in
    let meets = c.meet_rings.ensures in
    subst (λ n. n < 2 ^ 64) (total_of (grouped_nodes c.meet_rings.new.groups)) (nodes_fit _ _ _ _ _ _ _ _ u _ _ gone c.turn_groups.ensures.whole meets.met meets.all_met)

pub collect-requires-clause-devices : goal.collect-requires-clause-devices
collect-requires-clause-devices g c κs within =
    let u = c.loop-number.invariant.2 c.requires.ready.0 c.requires.ready.1 in
    let gone = gone_by c.if-not-turn_groups.false c.turn_groups.ensures.gone in
    let meets = c.meet_rings.ensures in
    subst (λ n. c.args.first + length c.loop-number.collected ≤ n) (total_of (grouped_nodes c.meet_rings.new.groups))
    (device_range _ _ _ _ _ _ _ _ u _ _ gone c.turn_groups.ensures.whole meets.met meets.all_met)

pub collect-requires-clause-within : goal.collect-requires-clause-within
collect-requires-clause-within g c κs within =
    let u = c.loop-number.invariant.2 c.requires.ready.0 c.requires.ready.1 in
    let gone = gone_by c.if-not-turn_groups.false c.turn_groups.ensures.gone in
    let meets = c.meet_rings.ensures in
    none_fewer _ _ _ _ _ _ _ _ u _ _ gone c.turn_groups.ensures.whole meets.met meets.all_met

pub collect-requires-clause-room : goal.collect-requires-clause-room
collect-requires-clause-room g c κs within =
    let u = c.loop-number.invariant.2 c.requires.ready.0 c.requires.ready.1 in
    let gone = gone_by c.if-not-turn_groups.false c.turn_groups.ensures.gone in
    let meets = c.meet_rings.ensures in
    has_room _ _ _ _ _ _ _ _ u _ _ gone c.turn_groups.ensures.whole meets.met meets.all_met

pub loop-number-preserved : goal.loop-number-preserved
loop-number-preserved g c = (
  c.meet_rings.ensures.count ∙ c.turn_groups.ensures.count ∙ c.loop-number.invariant.0,
  c.meet_rings.ensures.dealt,
  λ network ready.
      let gone = gone_by c.if-not-turn_groups.false c.turn_groups.ensures.gone in
      let meets = c.meet_rings.ensures in
      let new = c.collect.ensures in
      round_goes_on _ _ _ _ _ _ _ _ (c.loop-number.invariant.2 network ready) _ _ gone c.turn_groups.ensures.whole meets.met meets.all_met _ _ new.collected new.entries new.spare,
)

pub returns-clause-run : goal.returns-clause-run
returns-clause-run g c = λ network ready.
    let out = c.loop-number-test.false in
    absurd (never_so_late _ _ _ _ _ _ _ _ (c.loop-number.invariant.2 network ready) (omega (arith, out)))
