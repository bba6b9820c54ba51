-- settle: what was received begins what was handed over, and that begins what was sent.
use Rattle.std.proofs.Common.{◌≡◌, ◌++◌, List, ap, sym, ◌∙◌, append_assoc}
use Rattle.sb_packet.specs.declared.item.Item.{Item}
use Rattle.sb_link.specs.Ends.{Mark}
use Rattle.sb_link.proofs.serial.SerialFabricFabric.settle.Goals as goal

pub returns-clause-prefix : goal.returns-clause-prefix
returns-clause-prefix c = let tx = c.args.tx in let rx = c.args.rx in
    let handed : tx.handed ≡ rx.received ++ rx.waiting.items = ap (λ (m : Mark). m.handed) c.requires.marks in
    record {
      rest = rx.waiting.items ++ tx.kept.items;
      joined = sym (append_assoc rx.received rx.waiting.items tx.kept.items) ∙ ap (λ (list : List Item). list ++ tx.kept.items) (sym handed);
    }
