-- The host's transactions tell the state of each outcome.
use Rattle.std.proofs.Common.{◌≡◌, ◌<◌, [], length, sym, ap, ◌∙◌, subst, arith}
use Rattle.std.specs.Prelude.{slice_index_or}
use Rattle.sb_packet.specs.Answers.{host_outcomes}
use Rattle.sb_member.proofs.RingsMet.{within_list}
use Rattle.sb_net.specs.Settled.{SettledSide, TellsHost, transactions_at}
use Rattle.sb_net.proofs.settling.SettledNet.state.Goals as goal

pub returns : goal.returns
returns c = record {
  state = λ network journal whose none tells there.
      let items = c.self.inside.hosts.items in
      let host = c.args.host in
      let long : length c.args.self.now.hosts ≡ length items = ap (λ (s : SettledSide). length s.hosts) (sym c.self.view_is) in
      let below = c.requires.host in
      let lt : host < length items = omega (arith, below, long) in
      let is : transactions_at c.args.self.now host ≡ c.index.result.now =
      ap (λ (s : SettledSide). transactions_at s host) (sym c.self.view_is) ∙ within_list items host (transactions_at (record { hosts = []; memories = [] }) host) c.index.result.now lt
      ∙ ap (λ n. slice_index_or items n c.index.result.now) (sym c.from.ensures) ∙ sym c.index.ensures in
      let told = subst (λ t. TellsHost network journal whose t) is (tells.outcomes c.args.host whose there) in
      ap (λ list. (slice_index_or list c.args.index none).state) (sym told.outcomes) ∙ c.state.ensures.state told.received none told.table;
}
