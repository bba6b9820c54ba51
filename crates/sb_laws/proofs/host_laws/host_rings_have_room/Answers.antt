-- The ring from a host has room for all that it asks.
use Rattle.std.proofs.Common.{◌≡◌, ◌∙◌, ◌≤◌, length, subst, sym, ℕ}
use Rattle.std.specs.Prelude.{Some}
use Rattle.sb_flow.specs.Rings.{ring_budget}
use Rattle.sb_host.specs.Asked.{asked_accesses, asked_by}
use Rattle.sb_laws.specs.NetworkLayouts.{request_ring}
use Rattle.sb_laws.proofs.HostRooms.{room_for_all}
use Rattle.sb_laws.proofs.HostsInNetworks.{first, link}
use Rattle.sb_laws.proofs.host_laws.host_rings_have_room.Goals as goal

pub returns : goal.returns
returns c = record {
  room = λ network place k host routed at is.
      let some : Some (link network routed place host at) ≡ Some k = sym (first network routed place host at) ∙ is in
      let same : link network routed place host at ≡ k = cc in
      subst (λ (j : ℕ). length (asked_accesses (asked_by network host)) ≤ ring_budget network (request_ring j)) same (room_for_all network routed place host at);
}
