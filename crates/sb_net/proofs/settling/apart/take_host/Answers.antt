-- A host's port, its end and its transactions lie where they belong.
use Rattle.std.proofs.Common.{◌≡◌, ◌++◌, ◌∷◌, [], Some, set, refl, sym, ap, ◌∙◌, append-nil}
use Rattle.sb_net.specs.Apart.{memories_of}
use Rattle.sb_net.proofs.TakenNodes.{end_put}
use Rattle.sb_net.proofs.settling.apart.take_host.Goals as goal

pub returns : goal.returns
returns g c =
    let parts = c.into_parts-transactions.ensures in
    let before = c.args.apart.now in
    record {
      taken = record {
        ports = c.put_port.ensures.put ∙ ap (λ port. set before.ports.items port.plan.ring (Some port)) parts.requests;
        ends = end_put g.F.Rx.RxEnd before.ends.items c.put_end.new.ends.items c.into_parts-transactions.result.answers c.args.host.answers parts.answers c.put_end.ensures.put;
        hosts = c.push_reserved.ensures.items ∙ ap (λ t. before.hosts.items ++ t ∷ []) parts.transactions;
        memories = sym (append-nil (memories_of before.devices.items));
        host_room = c.push_reserved.ensures.capacity;
        device_room = refl;
      };
    }
