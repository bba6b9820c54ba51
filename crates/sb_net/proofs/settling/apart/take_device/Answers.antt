-- A device's port, its end and its memory lie where they belong.
use Rattle.std.proofs.Common.{◌≡◌, ◌++◌, ◌∷◌, [], Some, set, refl, sym, ap, ◌∙◌, append-nil}
use Rattle.std.proofs.lemmas.List.{map-append}
use Rattle.sb_net.specs.Apart.{memories_of}
use Rattle.sb_net.proofs.TakenNodes.{end_put}
use Rattle.sb_net.proofs.settling.apart.take_device.Goals as goal

pub returns : goal.returns
returns g c =
    let parts = c.into_parts-requests.ensures in
    let before = c.args.apart.now in
    let states = before.devices.items in
    record {
      taken = record {
        ports = c.put_port.ensures.put ∙ ap (λ port. set before.ports.items port.plan.ring (Some port)) parts.answers;
        ends = end_put g.F.Rx.RxEnd before.ends.items c.put_end.new.ends.items c.into_parts-requests.result.0 c.args.device.requests parts.requests c.put_end.ensures.put;
        hosts = sym (append-nil before.hosts.items);
        memories = ap memories_of c.push_reserved.ensures.items ∙ map-append (λ state. state.memory) states (c.into_parts-requests.result.2 ∷ []) ∙ ap (λ memory. memories_of states ++ memory ∷ []) parts.memory;
        host_room = refl;
        device_room = c.push_reserved.ensures.capacity;
      };
    }
