-- A router's ports and ends lie where they belong.
use Rattle.std.proofs.Common.{◌≡◌, ◌<◌, ◌++◌, ◌∷◌, [], length, map, refl, sym, ap, subst, ◌∙◌, append-nil}
use Rattle.std.specs.Prelude.{All}
use Rattle.sb_packet.proofs.Lists.{All-left, All-right}
use Rattle.sb_net.specs.Apart.{end_places, memories_of, put_by, ring_ahead, ring_behind}
use Rattle.sb_net.proofs.PutBy.{put_append, put_length}
use Rattle.sb_net.proofs.TakenNodes.{ends_stay, mapped_all}
use Rattle.sb_net.proofs.settling.apart.take_router.Goals as goal

pub put_ports-requires : goal.put_ports-requires
put_ports-requires g c =
    let r = c.args.router in
    let n = length c.args.apart.now.ports.items in
    record {
      within = subst (λ list. All (λ port. ring_ahead port < n) list) (sym c.into_ends-requests_in.ensures.answers_out)
          (All-right (λ port. ring_ahead port < n) r.requests.lane.outlets r.answers.lane.outlets c.requires.room.ports);
    }

pub put_ports-requires-2 : goal.put_ports-requires-2
put_ports-requires-2 g c =
    let r = c.args.router in
    let before = c.args.apart.now.ports.items in
    let long : length c.put_ports.new.ports.items ≡ length before = ap (λ list. length list) c.put_ports.ensures.put ∙ put_length ring_ahead c.into_ends-requests_in.result.answers_out.items before in
    record {
      within = subst (λ list. All (λ port. ring_ahead port < length c.put_ports.new.ports.items) list) (sym c.into_ends-requests_in.ensures.requests_out)
          (subst (λ n. All (λ port. ring_ahead port < n) r.requests.lane.outlets) (sym long)
          (All-left (λ port. ring_ahead port < length before) r.requests.lane.outlets r.answers.lane.outlets c.requires.room.ports));
    }

pub put_inlets-requires : goal.put_inlets-requires
put_inlets-requires g c =
    let r = c.args.router in
    let n = length c.args.apart.now.ends.items in
    record {
      within = subst (λ list. All (λ inlet. ring_behind inlet.ring < n) list) (sym c.into_ends-requests_in.ensures.answers_in)
          (mapped_all (λ ring. ring_behind ring < n) (λ inlet. inlet.ring) r.answers.lane.inlets
          (All-right (λ ring. ring_behind ring < n) (map (λ x. x.ring) r.requests.lane.inlets) (map (λ x. x.ring) r.answers.lane.inlets) c.requires.room.ends));
    }

pub put_inlets-requires-2 : goal.put_inlets-requires-2
put_inlets-requires-2 g c =
    let r = c.args.router in
    let before = c.args.apart.now.ends.items in
    let long = ends_stay g.F.Rx.RxEnd (map (λ inlet. inlet.ring) c.into_ends-requests_in.result.answers_in.items) before c.put_inlets.new.ends.items c.put_inlets.ensures.put in
    record {
      within = subst (λ list. All (λ inlet. ring_behind inlet.ring < length c.put_inlets.new.ends.items) list) (sym c.into_ends-requests_in.ensures.requests_in)
          (subst (λ n. All (λ inlet. ring_behind inlet.ring < n) r.requests.lane.inlets) (sym long)
          (mapped_all (λ ring. ring_behind ring < length before) (λ inlet. inlet.ring) r.requests.lane.inlets
          (All-left (λ ring. ring_behind ring < length before) (map (λ x. x.ring) r.requests.lane.inlets) (map (λ x. x.ring) r.answers.lane.inlets) c.requires.room.ends)));
    }

pub returns : goal.returns
returns g c =
    let r = c.args.router in
    let before = c.args.apart.now in
    let rx = g.F.Rx.RxEnd in
    let parts = c.into_ends-requests_in.ensures in
    record {
      taken = record {
        ports = c.put_ports-2.ensures.put ∙ ap (λ list. put_by ring_ahead list c.put_ports.new.ports.items) parts.requests_out
            ∙ ap (λ list. put_by ring_ahead r.requests.lane.outlets list) (c.put_ports.ensures.put ∙ ap (λ list. put_by ring_ahead list before.ports.items) parts.answers_out)
            ∙ sym (put_append ring_ahead r.requests.lane.outlets r.answers.lane.outlets before.ports.items);
        ends = c.put_inlets-2.ensures.put ∙ ap (λ list. put_by ring_behind (map (λ inlet. inlet.ring) list) (end_places rx c.put_inlets.new.ends.items)) parts.requests_in
            ∙ ap (λ list. put_by ring_behind (map (λ inlet. inlet.ring) r.requests.lane.inlets) list)
            (c.put_inlets.ensures.put ∙ ap (λ list. put_by ring_behind (map (λ inlet. inlet.ring) list) (end_places rx before.ends.items)) parts.answers_in)
            ∙ sym (put_append ring_behind (map (λ x. x.ring) r.requests.lane.inlets) (map (λ x. x.ring) r.answers.lane.inlets) (end_places rx before.ends.items));
        hosts = sym (append-nil before.hosts.items);
        memories = sym (append-nil (memories_of before.devices.items));
        host_room = refl;
        device_room = refl;
      };
    }
